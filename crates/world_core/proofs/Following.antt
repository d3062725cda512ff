-- A run that follows lines, and how far it prints them.
use Rattle.std.proofs.Common.{◌≡◌, ◌≢◌, ℕ, zero, suc, ◌+◌, ◌≤◌, Bool, true, false, if◌then◌else◌, List, [], ◌∷◌, ◌++◌, length, take, Option, Some, None, option_and_then, ◌⊎◌, inl, inr, refl, sym, ap, subst, ◌∙◌, append_assoc, length-append, arith}
use Rattle.std.proofs.Math.Seq.{take-append_seam}
use Rattle.std.proofs.lemmas.List.{append-nil, length-take-le}
use Rattle.ipdl_base.specs.declared.line.Line.{Line}
use Rattle.ipdl_base.specs.declared.schema.Schema.{Schema}
use Rattle.ipdl_base.specs.Lines.{is_effect}
use Rattle.channel_laws.proofs.Outlines.{cons-head, cons-tail}
use Rattle.channel_model.specs.Runs.{RunState}
use Rattle.script_runs.specs.Endings.{EndsAs, ending_line}
use Rattle.script_runs.specs.Replays.{ArePrinted, Follows, IsStuck, choices_told, printed_lines, told_then}
use Rattle.script_runs.specs.Told.{choice_told}
use Rattle.script_runs.proofs.Growth.{BeginsEvent, adds-event, plays-following}
use Rattle.script_runs.proofs.Tells.{line_texts_tell_choices}
use Rattle.script_runs.proofs.TextChoices.{texts-told}
use Rattle.script_steps.proofs.Choosing.{choices_are_read}
use Rattle.script_steps.specs.Choices.{Choice, Setting, beginning_of, chosen, is_delivery_line, played}
use Rattle.script_steps.specs.Turns.{RunEnding}
use Rattle.transcripts.specs.Printed.{line_texts}
use Rattle.transcripts.specs.Told.{is_effect_text}
use Rattle.transcripts.proofs.Parts.{texts-append}
use Rattle.world_core.specs.declared.world.replay.Replay.TheVariants as replay
use Rattle.world_core.specs.Replayed.{ArePrintedSoFar, SaysOf}
use Rattle.world_core.proofs.Trying.{IsTried}

-- Lists that begin alike

-- two lists do not begin alike, or one of them is empty
abbrev pub BeginApart : List (List ℕ) → List (List ℕ) → Type 0
BeginApart [] others = Unit {0}
BeginApart (line ∷ lines) [] = Unit {0}
BeginApart (line ∷ lines) (other ∷ others) = line ≢ other

common-most : (front rest others following : List (List ℕ)) (more : ℕ) → BeginApart rest others → more ≤ length (front ++ rest) → front ++ others ≡ take more (front ++ rest) ++ following → more ≤ length front
common-most [] [] others following more apart there is = there
common-most [] (r ∷ rest) others following zero apart there is = omega arith
common-most [] (r ∷ rest) [] following (suc more) apart there is = cc
common-most [] (r ∷ rest) (o ∷ others) following (suc more) apart there is = absurd (apart (sym (cons-head is)))
common-most (x ∷ front) rest others following zero apart there is = omega arith
common-most (x ∷ front) rest others following (suc more) apart there is =
    let h = common-most front rest others following more apart (omega (arith, there)) (cons-tail is) in
    omega (arith, h)

common-ends : (front rest others : List (List ℕ)) (e : List ℕ) (more : ℕ) → BeginApart rest others → (others ≡ [] → (following : List (List ℕ)) → rest ≡ e ∷ following → ⊥) → take more (front ++ rest) ≡ (front ++ others) ++ e ∷ [] → ⊥
common-ends [] [] [] e zero apart none is = cc
common-ends [] [] [] e (suc more) apart none is = cc
common-ends [] [] (o ∷ others) e zero apart none is = cc
common-ends [] [] (o ∷ others) e (suc more) apart none is = cc
common-ends [] (r ∷ rest) [] e zero apart none is = cc
common-ends [] (r ∷ rest) [] e (suc more) apart none is = none refl rest (ap (λ l. l ∷ rest) (cons-head is))
common-ends [] (r ∷ rest) (o ∷ others) e zero apart none is = cc
common-ends [] (r ∷ rest) (o ∷ others) e (suc more) apart none is = apart (cons-head is)
common-ends (x ∷ front) rest others e zero apart none is = cc
common-ends (x ∷ front) rest others e (suc more) apart none is = common-ends front rest others e more apart none (cons-tail is)

-- How far lines and what a run prints go together

-- This number of first lines are those of both; after them the two do not begin alike, and the run does not end as the lines report.
pub record HaveCommon (setting : Setting) (lines : List (List ℕ)) (last : RunState) (count : ℕ) : Type 0 where
  pub front : List (List ℕ)
  pub rest : List (List ℕ)
  pub others : List (List ℕ)
  pub count_is : count ≡ length front
  pub lines_are : lines ≡ front ++ rest
  pub printed_are : printed_lines setting last ≡ front ++ others
  pub apart : BeginApart rest others
  pub no_end : (ending : RunEnding) → EndsAs setting last ending → others ≡ [] → (following : List (List ℕ)) → rest ≡ ending_line ending ∷ following → ⊥

printed-so-far : (setting : Setting) (lines : List (List ℕ)) (last : RunState) (count : ℕ) → HaveCommon setting lines last count → ArePrintedSoFar setting lines last count
printed-so-far setting lines last count c =
    let size = c.count_is in
    let long : length lines ≡ length c.front + length c.rest = ap length c.lines_are ∙ length-append c.front c.rest in
    let taken : take count lines ≡ c.front = ap (λ n. take n lines) c.count_is ∙ ap (take (length c.front)) c.lines_are ∙ take-append_seam c.front c.rest in
    record {
      there = omega (arith, size, long);
      first = inl (c.others, c.printed_are ∙ ap (λ ls. ls ++ c.others) (sym taken));
      most = by;
    }
  where
    by : (more : ℕ) → more ≤ length lines → ArePrinted setting last (take more lines) → more ≤ count
    by more there (inl h) =
        let e : c.front ++ c.others ≡ take more (c.front ++ c.rest) ++ h.0 = sym c.printed_are ∙ h.1 ∙ ap (λ ls. take more ls ++ h.0) c.lines_are in
        let k = common-most c.front c.rest c.others h.0 more c.apart (subst (λ ls. more ≤ length ls) c.lines_are there) e in
        let size = c.count_is in
        omega (arith, k, size)
    by more there (inr h) =
        absurd (common-ends c.front c.rest c.others (ending_line h.0) more c.apart (c.no_end h.0 h.1)
        (ap (take more) (sym c.lines_are) ∙ h.2 ∙ ap (λ ls. ls ++ ending_line h.0 ∷ []) c.printed_are))

pub says-short : (setting : Setting) (lines : List (List ℕ)) (last : RunState) (count : ℕ) (c : HaveCommon setting lines last count) → c.rest ≡ [] → SaysOf setting lines last (replay.Incomplete count)
says-short setting lines last count c none =
    let size = c.count_is in
    let left : length c.rest ≡ 0 = ap length none in
    let long : length lines ≡ length c.front + length c.rest = ap length c.lines_are ∙ length-append c.front c.rest in
    let printed : length (printed_lines setting last) ≡ length c.front + length c.others = ap length c.printed_are ∙ length-append c.front c.others in (
      printed-so-far setting lines last count c,
      omega (arith, size, left, long),
      λ w.
          let all : length lines ≡ length (printed_lines setting last) + 1 = ap length w.2 ∙ length-append (printed_lines setting last) (ending_line w.0 ∷ []) in
          omega (arith, all, left, long, printed),
    )

pub says-apart : (setting : Setting) (lines : List (List ℕ)) (last : RunState) (count : ℕ) (c : HaveCommon setting lines last count) (line : List ℕ) (following : List (List ℕ)) → c.rest ≡ line ∷ following → SaysOf setting lines last (replay.Diverged count)
says-apart setting lines last count c line following some =
    let size = c.count_is in
    let left : length c.rest ≡ suc (length following) = ap length some in
    let long : length lines ≡ length c.front + length c.rest = ap length c.lines_are ∙ length-append c.front c.rest in
    (printed-so-far setting lines last count c, omega (arith, size, left, long))

-- lines follow all that a run prints
pub says-longer : (setting : Setting) (lines : List (List ℕ)) (last : RunState) (ending : RunEnding) (line : List ℕ) (following : List (List ℕ)) (count : ℕ) → EndsAs setting last ending
    → lines ≡ (printed_lines setting last ++ ending_line ending ∷ []) ++ line ∷ following → count ≡ length (printed_lines setting last) + 1 → SaysOf setting lines last (replay.Diverged count)
says-longer setting lines last ending line following count ends is size =
    let whole : List (List ℕ) = printed_lines setting last ++ ending_line ending ∷ [] in
    let whole_long : length whole ≡ length (printed_lines setting last) + 1 = length-append (printed_lines setting last) (ending_line ending ∷ []) in
    let long : length lines ≡ length whole + length (line ∷ following) = ap length is ∙ length-append whole (line ∷ following) in
    let same : count ≡ length whole = size ∙ sym whole_long in
    let taken : take count lines ≡ whole = ap (λ n. take n lines) same ∙ ap (take (length whole)) is ∙ take-append_seam whole (line ∷ following) in (
      record { there = omega (arith, size, whole_long, long); first = inr (ending, ends, taken); most = by },
      omega (arith, size, whole_long, long),
    )
  where
    by : (more : ℕ) → more ≤ length lines → ArePrinted setting last (take more lines) → more ≤ count
    by more there (inl h) =
        let n : length (printed_lines setting last) ≡ length (take more lines) + length h.0 = ap length h.1 ∙ length-append (take more lines) h.0 in
        let k = length-take-le more lines there in
        omega (arith, n, k, size)
    by more there (inr h) =
        let n : length (take more lines) ≡ length (printed_lines setting last) + 1 = ap length h.2 ∙ length-append (printed_lines setting last) (ending_line h.0 ∷ []) in
        let k = length-take-le more lines there in
        omega (arith, n, k, size)

-- Choices that lines report, made as far as they are possible

record FollowsOn (setting : Setting) (told done : List Choice) (state : RunState) : Type 0 where
  more : List Choice
  last : RunState
  goes : played setting more state ≡ Some last
  plays : played setting (done ++ more) (beginning_of setting) ≡ Some last
  so_far : (told ≡ done ++ more) ⊎ IsStuck setting told (done ++ more)

follow-stop : (setting : Setting) (told done : List Choice) (state : RunState) → played setting done (beginning_of setting) ≡ Some state → (told ≡ done ++ []) ⊎ IsStuck setting told (done ++ []) → FollowsOn setting told done state
follow-stop setting told done state plays so_far = record { more = []; last = state; goes = refl; plays = ap (λ cs. played setting cs (beginning_of setting)) (append-nil done) ∙ plays; so_far = so_far }

follow-step : (setting : Setting) (told done rest : List Choice) (choice : Choice) (state : RunState) → told ≡ done ++ choice ∷ rest → played setting done (beginning_of setting) ≡ Some state
    → ((next : RunState) → told ≡ (done ++ choice ∷ []) ++ rest → played setting (done ++ choice ∷ []) (beginning_of setting) ≡ Some next → FollowsOn setting told (done ++ choice ∷ []) next)
    → (found : Option RunState) → chosen setting choice state ≡ found → FollowsOn setting told done state
follow-step setting told done rest choice state is plays on None none =
    follow-stop setting told done state plays (inr (record { first = done; choice = choice; rest = rest; told_are = is; state = state; plays = plays; impossible = none; others = []; done_are = refl }))
follow-step setting told done rest choice state is plays on (Some next) goes =
    let f = on next (is ∙ sym (append_assoc done (choice ∷ []) rest)) (plays-following setting done (choice ∷ []) (beginning_of setting) state next plays (ap (option_and_then (played setting [])) goes)) in
    record {
      more = choice ∷ f.more;
      last = f.last;
      goes = ap (option_and_then (played setting f.more)) goes ∙ f.goes;
      plays = ap (λ cs. played setting cs (beginning_of setting)) (sym (append_assoc done (choice ∷ []) f.more)) ∙ f.plays;
      so_far = subst (λ cs. (told ≡ cs) ⊎ IsStuck setting told cs) (append_assoc done (choice ∷ []) f.more) f.so_far;
    }

follow-rest : (setting : Setting) (told done rest : List Choice) (state : RunState) → told ≡ done ++ rest → played setting done (beginning_of setting) ≡ Some state → FollowsOn setting told done state
follow-rest setting told done [] state is plays = follow-stop setting told done state plays (inl is)
follow-rest setting told done (choice ∷ rest) state is plays =
    follow-step setting told done rest choice state is plays (λ next so goes. follow-rest setting told (done ++ choice ∷ []) rest next so goes) (chosen setting choice state) refl

-- A run that follows lines comes from a state, with lines after it that begin with an event.
pub record LeadsOn (setting : Setting) (lines : List (List ℕ)) (state : RunState) : Type 0 where
  pub last : RunState
  pub follows : Follows setting lines last
  pub added : List Line
  pub following : last.lines ≡ state.lines ++ added
  pub begins : BeginsEvent added

leads-on : (setting : Setting) (lines : List (List ℕ)) (done : List Choice) (state : RunState) → FollowsOn setting (choices_told lines) done state → LeadsOn setting lines state
leads-on setting lines done state f =
    let added = adds-event setting f.more state f.last f.goes in
    record { last = f.last; follows = record { done = done ++ f.more; plays = f.plays; so_far = f.so_far }; added = added.0; following = added.1; begins = added.2 }

pub printed-following : (setting : Setting) (state last : RunState) (added : List Line) → last.lines ≡ state.lines ++ added → printed_lines setting last ≡ printed_lines setting state ++ line_texts setting.schema state.lines added
printed-following setting state last added is = ap (line_texts setting.schema []) is ∙ texts-append setting.schema [] state.lines added

-- what lines report that begin with what a run prints
pub told-seen : (setting : Setting) (leading : List Choice) (state : RunState) (rest : List (List ℕ)) → played setting leading (beginning_of setting) ≡ Some state → choices_told (printed_lines setting state ++ rest) ≡ leading ++ choices_told rest
told-seen setting leading state rest plays = texts-told setting.schema [] state.lines rest ∙ ap (λ cs. cs ++ choices_told rest) (choices_are_read setting leading state plays)

told-first : (line : List ℕ) (lines : List (List ℕ)) (choice : Choice) → choice_told line ≡ Some choice → choices_told (line ∷ lines) ≡ choice ∷ choices_told lines
told-first line lines choice h = ap (λ (o : Option Choice). told_then o (is_effect_text line) (choices_told lines)) h

pub told-none : (line : List ℕ) (lines : List (List ℕ)) → choice_told line ≡ None → is_effect_text line ≡ false → choices_told (line ∷ lines) ≡ []
told-none line lines h k = ap (λ (o : Option Choice). told_then o (is_effect_text line) (choices_told lines)) h ∙ ap (λ (b : Bool). told_then None b (choices_told lines)) k

module _ (setting : Setting) (leading : List Choice) (state : RunState) (plays : played setting leading (beginning_of setting) ≡ Some state) where
  -- a choice was tried, and the others are made as far as they are possible
  pub tried-leads : (next : RunState) (choice : Choice) (line : List ℕ) (rest : List (List ℕ)) → choice_told line ≡ Some choice → IsTried setting choice state next → LeadsOn setting (printed_lines setting state ++ line ∷ rest) next
  tried-leads next choice line rest tells tried = by tried
    where
      lines : List (List ℕ)
      lines = printed_lines setting state ++ line ∷ rest

      told : choices_told (printed_lines setting state ++ line ∷ rest) ≡ leading ++ choice ∷ choices_told rest
      told = told-seen setting leading state (line ∷ rest) plays ∙ ap (λ cs. leading ++ cs) (told-first line rest choice tells)

      made : (other : Choice) → chosen setting other state ≡ Some next → played setting (leading ++ other ∷ []) (beginning_of setting) ≡ Some next
      made other goes = plays-following setting leading (other ∷ []) (beginning_of setting) state next plays (ap (option_and_then (played setting [])) goes)

      by : IsTried setting choice state next → LeadsOn setting (printed_lines setting state ++ line ∷ rest) next
      by (inl goes) =
          leads-on setting (printed_lines setting state ++ line ∷ rest) (leading ++ choice ∷ []) next
          (follow-rest setting (choices_told (printed_lines setting state ++ line ∷ rest)) (leading ++ choice ∷ []) (choices_told rest) next (told ∙ sym (append_assoc leading (choice ∷ []) (choices_told rest))) (made choice goes))
      by (inr h) = record {
        last = next;
        follows = record {
          done = leading ++ h.1.0 ∷ [];
          plays = made h.1.0 h.1.1;
          so_far =
              inr (record { first = leading; choice = choice; rest = choices_told rest; told_are = told; state = state; plays = plays; impossible = h.0; others = h.1.0 ∷ []; done_are = refl });
        };
        added = [];
        following = sym (append-nil next.lines);
        begins = tt;
      }

  -- a choice is not possible
  pub stuck-follows : (choice : Choice) (line : List ℕ) (rest : List (List ℕ)) → choice_told line ≡ Some choice → chosen setting choice state ≡ None → Follows setting (printed_lines setting state ++ line ∷ rest) state
  stuck-follows choice line rest tells none = record {
    done = leading;
    plays = plays;
    so_far =
        inr
        (record {
          first = leading;
          choice = choice;
          rest = choices_told rest;
          told_are = told-seen setting leading state (line ∷ rest) plays ∙ ap (λ cs. leading ++ cs) (told-first line rest choice tells);
          state = state;
          plays = plays;
          impossible = none;
          others = [];
          done_are = sym (append-nil leading);
        });
  }

  -- lines after what is printed that report no choice
  pub all-follows : (rest : List (List ℕ)) → choices_told rest ≡ [] → Follows setting (printed_lines setting state ++ rest) state
  all-follows rest none = record { done = leading; plays = plays; so_far = inl (told-seen setting leading state rest plays ∙ ap (λ cs. leading ++ cs) none ∙ append-nil leading) }

  -- the text of no event: what a run prints next is another line
  pub effect-leads : (line : List ℕ) (rest : List (List ℕ)) → LeadsOn setting (printed_lines setting state ++ line ∷ rest) state
  effect-leads line rest =
      leads-on setting (printed_lines setting state ++ line ∷ rest) leading state
      (follow-rest setting (choices_told (printed_lines setting state ++ line ∷ rest)) leading (choices_told (line ∷ rest)) state (told-seen setting leading state (line ∷ rest) plays) plays)

event-told : (b : Bool) (choice : Choice) → b ≡ false → (if b then None else Some choice) ≡ None → ⊥
event-told true choice h k = cc
event-told false choice h k = cc

pub effect-apart : (schema : Schema) (before added : List Line) (line : List ℕ) (rest : List (List ℕ)) → choice_told line ≡ None → BeginsEvent added → BeginApart (line ∷ rest) (line_texts schema before added)
effect-apart schema before [] line rest none begins = tt
effect-apart schema before (l ∷ added) line rest none begins = λ same.
    event-told (is_effect l.what) (record { side = l.side; delivers = is_delivery_line l.what }) begins (sym (line_texts_tell_choices schema before l) ∙ ap choice_told (sym same) ∙ none)
