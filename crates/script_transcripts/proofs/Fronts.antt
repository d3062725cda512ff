-- What is printed of a run that follows lines decides how many of these lines a run may print.
use Rattle.std.proofs.Common.{◌≡◌, ℕ, Bool, true, false, if◌then◌else◌, List, [], ◌∷◌, ◌++◌, map, Option, Some, None, option_and_then, ◌⊎◌, inl, inr, refl, sym, ap, subst, ◌∙◌, append_assoc}
use Rattle.std.specs.Prelude.{◌↔◌}
use Rattle.std.specs.List.{AllByRecursion, cons_option}
use Rattle.std.proofs.lemmas.List.{append-nil, append_cancel_left}
use Rattle.std.proofs.lemmas.List.Elements.{filter_map-append}
use Rattle.handler_script.specs.Valid.{IsValid}
use Rattle.ipdl_base.specs.declared.line.Line.{Line}
use Rattle.ipdl_base.specs.declared.line.What.{What}
use Rattle.ipdl_base.specs.declared.kinds.Side.TheVariants as sides
use Rattle.ipdl_base.specs.declared.schema.Schema.{Schema}
use Rattle.ipdl_base.specs.Lines.{is_effect}
use Rattle.ipdl_base.specs.Sound.{IsSound}
use Rattle.channel_model.specs.Runs.{RunState}
use Rattle.history.specs.Text.{line_text, transcript_text}
use Rattle.script_runs.specs.Laws.{HasLimit}
use Rattle.script_runs.specs.Endings.{EndsAs, ending_line}
use Rattle.script_runs.specs.Replays.{ArePrinted, Follows, IsStuck, choices_told, printed_lines}
use Rattle.script_runs.proofs.Growth.{BeginsEvent, adds-event, plays-following}
use Rattle.script_runs.proofs.TextChoices.{texts-told}
use Rattle.script_steps.proofs.Choosing.{choices_are_read}
use Rattle.script_steps.proofs.Playing.{PlaysOn, plays_on, choices_grow}
use Rattle.script_steps.specs.Choices.{Setting, Choice, beginning_of, choice_of, choices_of, chosen, is_delivery_line, played}
use Rattle.script_steps.specs.Laws.{GoesOn}
use Rattle.script_steps.specs.Turns.{RunEnding, at_limit, at_rest}
use Rattle.script_transcripts.specs.Laws.{Ends, LegalTextsDecide, ReplaysDecide}
use Rattle.script_transcripts.specs.Legal.{AreFirstLines, IsLegalText}
use Rattle.script_transcripts.proofs.Ends.{cases_end}
use Rattle.script_transcripts.proofs.Texts.{transcript-lines}
use Rattle.transcripts.specs.Printed.{line_texts}
use Rattle.transcripts.specs.TextLines.{text_lines}
use Rattle.transcripts.proofs.Parts.{texts-append}

-- Lists with two seams

-- the second seam of a list is at the first one or after it, or before it
abbrev pub SeamsOf : {A : Type 0} → List A → List A → List A → List A → Type 0
SeamsOf {A} xs ys zs ws = ((us : List A) × (zs ≡ xs ++ us) × (ys ≡ us ++ ws)) ⊎ ((u : A) × (us : List A) × (xs ≡ zs ++ u ∷ us) × (ws ≡ u ∷ us ++ ys))

pub cons-head : {A : Type 0} (x y : A) (xs ys : List A) → x ∷ xs ≡ y ∷ ys → (x ≡ y) × (xs ≡ ys)
cons-head x y xs ys h = (cc, cc)

pub seams : {A : Type 0} (xs ys zs ws : List A) → xs ++ ys ≡ zs ++ ws → SeamsOf xs ys zs ws
seams [] ys zs ws h = inl (zs, refl, h)
seams (x ∷ xs) ys [] ws h = inr (x, xs, refl, sym h)
seams (x ∷ xs) ys (z ∷ zs) ws h = by (cons-head x z (xs ++ ys) (zs ++ ws) h) (seams xs ys zs ws (cons-head x z (xs ++ ys) (zs ++ ws) h).1)
  where
    by : (x ≡ z) × (xs ++ ys ≡ zs ++ ws) → SeamsOf xs ys zs ws → SeamsOf (x ∷ xs) ys (z ∷ zs) ws
    by e (inl s) = inl (s.0, ap (λ l. z ∷ l) s.1 ∙ ap (λ y. y ∷ xs ++ s.0) (sym e.0), s.2)
    by e (inr s) = inr (s.0, s.1, ap (λ l. x ∷ l) s.2 ∙ ap (λ y. y ∷ zs ++ s.0 ∷ s.1) e.0, s.3)

-- Texts of lines that are the first ones

-- Lines of which these are the first texts.
record SplitsLines (schema : Schema) (before lines : List Line) (front : List (List ℕ)) : Type 0 where
  first : List Line
  others : List Line
  lines_are : lines ≡ first ++ others
  texts_are : front ≡ line_texts schema before first

splits-lines : (schema : Schema) (before lines : List Line) (front others : List (List ℕ)) → line_texts schema before lines ≡ front ++ others → SplitsLines schema before lines front
splits-lines schema before lines [] others h = record { first = []; others = lines; lines_are = refl; texts_are = refl }
splits-lines schema before [] (text ∷ front) others h = cc
splits-lines schema before (line ∷ lines) (text ∷ front) others h =
    let e = cons-head (line_text schema before line) text (line_texts schema (before ++ line ∷ []) lines) (front ++ others) h in
    let s : SplitsLines schema (before ++ line ∷ []) lines front = splits-lines schema (before ++ line ∷ []) lines front others e.1 in
    record {
      first = line ∷ s.first;
      others = s.others;
      lines_are = ap (λ ls. line ∷ ls) s.lines_are;
      texts_are = ap (λ t. t ∷ front) (sym e.0) ∙ ap (λ ts. line_text schema before line ∷ ts) s.texts_are;
    }

-- Lines that begin with an event

told-none : (b : Bool) (choice : Choice) (choices : List Choice) → b ≡ false → cons_option (if b then None else Some choice) choices ≡ [] → ⊥
told-none true choice choices h k = cc
told-none false choice choices h k = cc

-- lines that begin with an event record a choice
tells-choice : (line : Line) (lines : List Line) → is_effect line.what ≡ false → choices_of (line ∷ lines) ≡ [] → ⊥
tells-choice line lines h k = told-none (is_effect line.what) (record { side = line.side; delivers = is_delivery_line line.what }) (choices_of lines) h k

-- One state after choices

one-state : (setting : Setting) (choices : List Choice) (state next : RunState) → played setting choices (beginning_of setting) ≡ Some state → played setting choices (beginning_of setting) ≡ Some next → state ≡ next
one-state setting choices state next h k = let both : Some state ≡ Some next = sym h ∙ k in cc

-- choices that have been made cannot be impossible
stuck-not : (setting : Setting) (told done choices : List Choice) (state : RunState) (stuck : IsStuck setting told done) (more : List Choice) → choices ≡ stuck.first ++ stuck.choice ∷ more → played setting choices (beginning_of setting) ≡ Some state → ⊥
stuck-not setting told done choices state stuck more is plays =
    let g : GoesOn setting stuck.first (stuck.choice ∷ more) (beginning_of setting) state = choices_grow setting stuck.first (stuck.choice ∷ more) (beginning_of setting) state (subst (λ cs. played setting cs (beginning_of setting) ≡ Some state) is plays) in
    let p : PlaysOn setting stuck.choice more g.between state = plays_on setting stuck.choice more g.between state g.after in
    let same : stuck.state ≡ g.between = one-state setting stuck.first stuck.state g.between stuck.plays g.before in
    let none : chosen setting stuck.choice g.between ≡ None = ap (chosen setting stuck.choice) (sym same) ∙ stuck.impossible in
    let both : None ≡ Some p.next = sym none ∙ p.first in
    cc

-- A run that follows lines has made the choices that first lines show, if these are possible.
has-made : (setting : Setting) (told done first others : List Choice) (state : RunState) → (told ≡ done) ⊎ IsStuck setting told done → told ≡ first ++ others → played setting first (beginning_of setting) ≡ Some state
    → (more : List Choice) × (done ≡ first ++ more)
has-made setting told done first others state (inl same) is plays = (others, sym same ∙ is)
has-made setting told done first others state (inr stuck) is plays = by (seams first others stuck.first (stuck.choice ∷ stuck.rest) (sym is ∙ stuck.told_are))
  where
    by : SeamsOf first others stuck.first (stuck.choice ∷ stuck.rest) → (more : List Choice) × (done ≡ first ++ more)
    by (inl s) = (s.0 ++ stuck.others, stuck.done_are ∙ ap (λ cs. cs ++ stuck.others) s.1 ∙ append_assoc first s.0 stuck.others)
    by (inr s) =
        let same : stuck.choice ≡ s.0 = (cons-head stuck.choice s.0 stuck.rest (s.1 ++ others) s.3).0 in
        absurd (stuck-not setting told done first state stuck s.1 (s.2 ∙ ap (λ c. stuck.first ++ c ∷ s.1) (sym same)) plays)

module _ (setting : Setting) (sound : IsSound setting.schema) (valid : IsValid setting.schema setting.script) where
  abbrev schema : Schema
  schema = setting.schema

  -- lines that a run has, when their choices have been made
  lines-made : (one : List Choice) (state between : RunState) (first others : List Line) (rest : List Choice) → state.lines ≡ first ++ others → played setting (choices_of first) (beginning_of setting) ≡ Some between → played setting rest between ≡ Some state
      → (more : List Line) × (between.lines ≡ first ++ more)
  lines-made one state between first others rest is plays goes =
      let added = adds-event setting rest between state goes in
      by added.0 added.2 (seams first others between.lines added.0 (sym is ∙ added.1))
    where
      by : (lines : List Line) → BeginsEvent lines → SeamsOf first others between.lines lines → (more : List Line) × (between.lines ≡ first ++ more)
      by lines h (inl s) = (s.0, s.1)
      by [] h (inr s) = cc
      by (line ∷ lines) h (inr s) =
          let same : line ≡ s.0 = (cons-head line s.0 lines (s.1 ++ others) s.3).0 in
          let read : choices_of between.lines ≡ choices_of first = choices_are_read setting (choices_of first) between plays in
          let told : choices_of first ≡ choices_of between.lines ++ choices_of (s.0 ∷ s.1) = ap choices_of s.2 ∙ filter_map-append choice_of between.lines (s.0 ∷ s.1) in
          let none : choices_of (s.0 ∷ s.1) ≡ [] = append_cancel_left (choices_of between.lines) (choices_of (s.0 ∷ s.1)) [] (sym told ∙ sym read ∙ sym (append-nil (choices_of between.lines))) in
          absurd (tells-choice s.0 s.1 (ap (λ (l : Line). is_effect l.what) (sym same) ∙ h) none)

  -- first lines of what was printed are first lines of what a run prints that follows them
  front-follows : (front rest others : List (List ℕ)) (last : RunState) (choices : List Choice) (state : RunState) → Follows setting (front ++ rest) last → played setting choices (beginning_of setting) ≡ Some state → printed_lines setting state ≡ front ++ others
      → (more : List (List ℕ)) × (printed_lines setting last ≡ front ++ more)
  front-follows front rest others last choices state follows plays is =
      let s : SplitsLines schema [] state.lines front = splits-lines schema [] state.lines front others is in
      let told : choices_told (front ++ rest) ≡ choices_of s.first ++ choices_told rest = ap (λ ts. choices_told (ts ++ rest)) s.texts_are ∙ texts-told schema [] s.first rest in
      let split : choices ≡ choices_of s.first ++ choices_of s.others = sym (choices_are_read setting choices state plays) ∙ ap choices_of s.lines_are ∙ filter_map-append choice_of s.first s.others in
      let g : GoesOn setting (choices_of s.first) (choices_of s.others) (beginning_of setting) state = choices_grow setting (choices_of s.first) (choices_of s.others) (beginning_of setting) state (subst (λ cs. played setting cs (beginning_of setting) ≡ Some state) split plays) in
      let made = has-made setting (choices_told (front ++ rest)) follows.done (choices_of s.first) (choices_told rest) g.between follows.so_far told g.before in
      let own = lines-made choices state g.between s.first s.others (choices_of s.others) s.lines_are g.before g.after in
      let on : GoesOn setting (choices_of s.first) made.0 (beginning_of setting) last = choices_grow setting (choices_of s.first) made.0 (beginning_of setting) last (subst (λ cs. played setting cs (beginning_of setting) ≡ Some last) made.1 follows.plays) in
      let same : on.between ≡ g.between = one-state setting (choices_of s.first) on.between g.between on.before g.before in
      let lines : last.lines ≡ s.first ++ (own.0 ++ on.lines) = on.following ∙ ap (λ (x : RunState). x.lines ++ on.lines) same ∙ ap (λ ls. ls ++ on.lines) own.1 ∙ append_assoc s.first own.0 on.lines in (
        line_texts schema s.first (own.0 ++ on.lines),
        ap (line_texts schema []) lines ∙ texts-append schema [] s.first (own.0 ++ on.lines) ∙ ap (λ ts. ts ++ line_texts schema s.first (own.0 ++ on.lines)) (sym s.texts_are),
      )

  -- a run that follows all that another printed, and how it ended, is that run
  whole-follows : (rest : List (List ℕ)) (last : RunState) (choices : List Choice) (state : RunState) (ending : RunEnding) → Follows setting ((printed_lines setting state ++ ending_line ending ∷ []) ++ rest) last → played setting choices (beginning_of setting) ≡ Some state → state ≡ last
  whole-follows rest last choices state ending follows plays =
      let front : List (List ℕ) = printed_lines setting state in
      let told : choices_told ((front ++ ending_line ending ∷ []) ++ rest) ≡ choices =
      ap choices_told (append_assoc front (ending_line ending ∷ []) rest) ∙ texts-told schema [] state.lines (ending_line ending ∷ rest) ∙ ap (λ cs. choices_of state.lines ++ cs) (none-told ending) ∙ append-nil (choices_of state.lines)
      ∙ choices_are_read setting choices state plays
      in
      by follows.so_far told
    where
      none-told : (e : RunEnding) → choices_told (ending_line e ∷ rest) ≡ []
      none-told at_rest = refl
      none-told (at_limit sides.Parent) = refl
      none-told (at_limit sides.Child) = refl

      by : (choices_told ((printed_lines setting state ++ ending_line ending ∷ []) ++ rest) ≡ follows.done) ⊎ IsStuck setting (choices_told ((printed_lines setting state ++ ending_line ending ∷ []) ++ rest)) follows.done
          → choices_told ((printed_lines setting state ++ ending_line ending ∷ []) ++ rest) ≡ choices → state ≡ last
      by (inl same) told = one-state setting choices state last plays (subst (λ cs. played setting cs (beginning_of setting) ≡ Some last) (sym same ∙ told) follows.plays)
      by (inr stuck) told = absurd (stuck-not setting _ follows.done choices state stuck stuck.rest (sym told ∙ stuck.told_are) plays)

  pub ending-alone : (e : RunEnding) → text_lines (ending_line e) ≡ ending_line e ∷ []
  ending-alone at_rest = refl
  ending-alone (at_limit sides.Parent) = refl
  ending-alone (at_limit sides.Child) = refl

  -- the lines of a legal text
  legal-lines : (text : List ℕ) (l : IsLegalText setting text) → text_lines text ≡ printed_lines setting l.state ++ ending_line l.ending ∷ []
  legal-lines text l = ap text_lines l.is ∙ transcript-lines setting l.choices l.state (ending_line l.ending) sound valid l.plays ∙ ap (λ ts. printed_lines setting l.state ++ ts) (ending-alone l.ending)

  nothing-following : {A : Type 0} (xs ys : List A) → xs ++ ys ≡ [] → xs ≡ []
  nothing-following [] ys h = refl
  nothing-following (x ∷ xs) ys h = cc

  pub first-printed : (front rest : List (List ℕ)) (last : RunState) → Follows setting (front ++ rest) last → AreFirstLines setting front → ArePrinted setting last front
  first-printed front rest last follows a =
      let l : IsLegalText setting a.whole = a.legal in
      by l (seams front a.others (printed_lines setting l.state) (ending_line l.ending ∷ []) (sym a.is ∙ legal-lines a.whole l))
    where
      by : (l : IsLegalText setting a.whole) → SeamsOf front a.others (printed_lines setting l.state) (ending_line l.ending ∷ []) → ArePrinted setting last front
      by l (inl s) = inl (front-follows front rest s.0 last l.choices l.state follows l.plays s.1)
      by l (inr s) =
          let e = cons-head (ending_line l.ending) s.0 [] (s.1 ++ a.others) s.3 in
          let none : s.1 ≡ [] = nothing-following s.1 a.others (sym e.1) in
          let front_is : front ≡ printed_lines setting l.state ++ ending_line l.ending ∷ [] =
          s.2 ∙ ap (λ ts. printed_lines setting l.state ++ s.0 ∷ ts) none ∙ ap (λ t. printed_lines setting l.state ++ t ∷ []) (sym e.0)
          in
          let same : l.state ≡ last = whole-follows rest last l.choices l.state l.ending (subst (λ ts. Follows setting (ts ++ rest) last) front_is follows) l.plays in
          inr (l.ending, subst (λ (x : RunState). EndsAs setting x l.ending) same l.ends, front_is ∙ ap (λ (x : RunState). printed_lines setting x ++ ending_line l.ending ∷ []) same)

  -- what a run that ends prints
  abbrev whole-of : (choices : List Choice) (state : RunState) (ending : RunEnding) → played setting choices (beginning_of setting) ≡ Some state → EndsAs setting state ending → IsLegalText setting (transcript_text schema state.lines ++ ending_line ending)
  whole-of choices state ending plays ends = record { choices = choices; state = state; plays = plays; ending = ending; ends = ends; is = refl }

  pub printed-first : (front : List (List ℕ)) (done : List Choice) (last : RunState) → HasLimit setting → played setting done (beginning_of setting) ≡ Some last → ArePrinted setting last front → AreFirstLines setting front
  printed-first front done last limit plays (inl h) =
      let e : Ends setting last = cases_end setting done last sound valid limit plays in
      let whole_plays : played setting (done ++ e.more) (beginning_of setting) ≡ Some e.last = plays-following setting done e.more (beginning_of setting) last e.last plays e.plays in
      let added = adds-event setting e.more last e.last e.plays in
      let legal = whole-of (done ++ e.more) e.last e.ending whole_plays e.ends in
      let more : List (List ℕ) = line_texts schema last.lines added.0 in
      let texts : printed_lines setting e.last ≡ front ++ (h.0 ++ more) = ap (line_texts schema []) added.1 ∙ texts-append schema [] last.lines added.0 ∙ ap (λ ts. ts ++ more) h.1 ∙ append_assoc front h.0 more in
      record {
        whole = transcript_text schema e.last.lines ++ ending_line e.ending;
        legal = legal;
        others = (h.0 ++ more) ++ ending_line e.ending ∷ [];
        is = legal-lines _ legal ∙ ap (λ ts. ts ++ ending_line e.ending ∷ []) texts ∙ append_assoc front (h.0 ++ more) (ending_line e.ending ∷ []);
      }
  printed-first front done last limit plays (inr h) =
      let legal = whole-of done last h.0 plays h.1 in
      record { whole = transcript_text schema last.lines ++ ending_line h.0; legal = legal; others = []; is = legal-lines _ legal ∙ sym h.2 ∙ sym (append-nil front) }

pub replays_decide : ReplaysDecide
replays_decide setting front rest last sound valid limit follows =
    (first-printed setting sound valid front rest last follows, printed-first setting sound valid front follows.done last limit follows.plays)

pub legal_texts_decide : LegalTextsDecide
legal_texts_decide setting text last sound valid follows = (
  λ l.
      let lines : text_lines text ≡ (printed_lines setting l.state ++ ending_line l.ending ∷ []) ++ [] = legal-lines setting sound valid text l ∙ sym (append-nil (printed_lines setting l.state ++ ending_line l.ending ∷ [])) in
      let same : l.state ≡ last = whole-follows setting sound valid [] last l.choices l.state l.ending (subst (λ ts. Follows setting ts last) lines follows) l.plays in
      (l.ending, subst (λ (x : RunState). EndsAs setting x l.ending) same l.ends, l.is ∙ ap (λ (x : RunState). transcript_text setting.schema x.lines ++ ending_line l.ending) same),
  λ h. record { choices = follows.done; state = last; plays = follows.plays; ending = h.0; ends = h.1; is = h.2 },
)
