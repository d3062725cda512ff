-- What the steps of a replay say of a text.
use Rattle.std.proofs.Common.{◌≡◌, ◌≢◌, ℕ, suc, ◌+◌, ◌==◌, Bool, true, false, if◌then◌else◌, List, [], ◌∷◌, ◌++◌, length, map, Some, None, option_map, refl, sym, ap, subst, ◌∙◌, append_assoc, length-append, arith}
use Rattle.std.proofs.lemmas.List.{append-nil}
use Rattle.ipdl_base.specs.declared.kinds.Side.{Side}
use Rattle.ipdl_base.specs.declared.kinds.Side.TheVariants as sides
use Rattle.ipdl_base.specs.declared.line.Line.{Line}
use Rattle.ipdl_base.specs.declared.schema.Schema.{Schema}
use Rattle.channel_laws.proofs.Outlines.{cons-head}
use Rattle.channel_model.specs.Ends.{end_of, link_to}
use Rattle.channel_model.specs.Outputs.{line_at}
use Rattle.channel_model.specs.Runs.{RunState}
use Rattle.schedules.specs.declared.turn.Turn.{Turn}
use Rattle.script_runs.specs.Endings.{ending_line}
use Rattle.script_runs.specs.Replays.{Follows, printed_lines}
use Rattle.script_runs.specs.Told.{choice_told}
use Rattle.script_steps.proofs.Choosing.{Happens, choice-happens}
use Rattle.script_steps.proofs.Playing.{Chooses, chooses}
use Rattle.script_steps.proofs.StepLines.{Prints, step-prints}
use Rattle.script_steps.specs.Choices.{Choice, Setting, chosen}
use Rattle.script_steps.specs.Turns.{RunEnding, at_limit, at_rest}
use Rattle.transcripts.specs.Printed.{line_texts}
use Rattle.transcripts.specs.TextLines.{text_lines, with_first}
use Rattle.transcripts.specs.Told.{is_effect_text, side_told, tells_delivery}
use Rattle.transcripts.proofs.Parts.{texts-append}
use Rattle.transcripts.specs.declared.comparison.LineMatch.{LineMatch}
use Rattle.transcripts.specs.declared.comparison.LineMatch.TheVariants as alike
use Rattle.transcripts.specs.declared.comparison.Comparison.{Comparison}
use Rattle.transcripts.specs.Compared.{DifferAtOnce, HasCompared, HasPassed}
use Rattle.world_core.specs.declared.world.replay.Replay.{Replay}
use Rattle.world_core.specs.declared.world.replay.Replay.TheVariants as replay
use Rattle.world_core.specs.Followed.{GoesOn, SaysEnding, choice_by, lines_seen}
use Rattle.world_core.specs.Replayed.{IsReplayed}
use Rattle.world_core.specs.Turns.{IsChosen}
use Rattle.world_core.specs.WorldView.{WorldView}
use Rattle.world_core.specs.Worlds.{IsCase}
use Rattle.world_core.proofs.Following.{BeginApart, HaveCommon, LeadsOn, all-follows, effect-apart, effect-leads, printed-following, says-apart, says-longer, says-short, stuck-follows, told-none, tried-leads}
use Rattle.world_core.proofs.Trying.{IsTried}

-- What lines report

pub turn-told : (line : List ℕ) (turn : Turn) → side_told line ≡ Some turn.side → tells_delivery turn.side line ≡ turn.only_deliver → choice_told line ≡ Some (choice_by turn)
turn-told line turn side delivers =
    ap (option_map (λ s. record { side = s; delivers = tells_delivery s line })) side ∙ ap (λ (b : Bool). Some (record { side = turn.side; delivers = b })) delivers

pub side-none : (line : List ℕ) → side_told line ≡ None → choice_told line ≡ None
side-none line h = ap (option_map (λ s. record { side = s; delivers = tells_delivery s line })) h

ending-tells : (e : RunEnding) → choice_told (ending_line e) ≡ None
ending-tells at_rest = refl
ending-tells (at_limit sides.Parent) = refl
ending-tells (at_limit sides.Child) = refl

ending-is_event : (e : RunEnding) → is_effect_text (ending_line e) ≡ false
ending-is_event at_rest = refl
ending-is_event (at_limit sides.Parent) = refl
ending-is_event (at_limit sides.Child) = refl

-- Lines and their texts

texts-long : (schema : Schema) (before lines : List Line) → length (line_texts schema before lines) ≡ length lines
texts-long schema before [] = refl
texts-long schema before (line ∷ lines) = let h = texts-long schema (before ++ line ∷ []) lines in omega (arith, h)

first-some : (byte : ℕ) (lines : List (List ℕ)) → (line : List ℕ) × (rest : List (List ℕ)) × (with_first byte lines ≡ line ∷ rest)
first-some byte [] = (byte ∷ [], [], refl)
first-some byte (line ∷ lines) = (byte ∷ line, lines, refl)

pub some-lines : (text : List ℕ) → text ≢ [] → (line : List ℕ) × (rest : List (List ℕ)) × (text_lines text ≡ line ∷ rest)
some-lines [] h = absurd (h refl)
some-lines (byte ∷ bytes) h = by (byte == 10)
  where
    by : (b : Bool) → (line : List ℕ) × (rest : List (List ℕ)) × ((if b then (byte ∷ []) ∷ text_lines bytes else with_first byte (text_lines bytes)) ≡ line ∷ rest)
    by true = (byte ∷ [], text_lines bytes, refl)
    by false = first-some byte (text_lines bytes)

-- a choice adds a line at least
pub chosen-adds : (setting : Setting) (state next : RunState) → IsChosen setting state next → (line : Line) × (more : List Line) × (next.lines ≡ state.lines ++ line ∷ more)
chosen-adds setting state next is =
    let c : Chooses setting is.choice state next = chooses setting is.choice state next is.is in
    let made : Happens setting is.choice.side state c.event next = choice-happens setting is.choice state next c in
    let prints : Prints (end_of is.choice.side state.world) c.event made.output = step-prints setting.schema (end_of is.choice.side state.world) (link_to is.choice.side state.world) c.event made.output made.is in
    let side : Side = (end_of is.choice.side state.world).side in
    (line_at side prints.first, map (line_at side) prints.rest, made.lines ∙ ap (λ ls. state.lines ++ ls) prints.lines)

module _ (w : WorldView) (c : Comparison) (case : IsCase w) (passed : HasPassed w.state.lines c) where
  abbrev printed : List (List ℕ)
  printed = printed_lines w.setting w.state

  count-printed : c.lines ≡ length printed
  count-printed = passed.count ∙ sym (texts-long w.setting.schema [] w.state.lines)

  -- the lines that are seen, where these are left
  replayed-left : (left : List (List ℕ)) (answer : Replay) → text_lines c.left.now ≡ left → IsReplayed w.setting (printed ++ left) answer → IsReplayed w.setting (lines_seen w c) answer
  replayed-left left answer is h = subst (λ ls. IsReplayed w.setting (printed ++ ls) answer) (sym is) h

  -- a line that is not the text of an event, where one is to come
  pub effect-replayed : (line : List ℕ) (rest : List (List ℕ)) → text_lines c.left.now ≡ line ∷ rest → choice_told line ≡ None → is_effect_text line ≡ true → IsReplayed w.setting (lines_seen w c) (replay.Diverged c.lines)
  effect-replayed line rest is told effect =
      let l : LeadsOn w.setting (printed ++ line ∷ rest) w.state = effect-leads w.setting case.leading w.state case.plays line rest in
      let common : HaveCommon w.setting (printed ++ line ∷ rest) l.last c.lines = record {
        front = printed;
        rest = line ∷ rest;
        others = line_texts w.setting.schema w.state.lines l.added;
        count_is = count-printed;
        lines_are = refl;
        printed_are = printed-following w.setting w.state l.last l.added l.following;
        apart = effect-apart w.setting.schema w.state.lines l.added line rest told l.begins;
        no_end = λ e ends none following same.
            let k : true ≡ false = sym effect ∙ ap is_effect_text (cons-head same) ∙ ending-is_event e in
            cc;
      } in
      replayed-left (line ∷ rest) (replay.Diverged c.lines) is
      (record { last = l.last; follows = l.follows; says = says-apart w.setting (printed ++ line ∷ rest) l.last c.lines common line rest refl })

  -- a line whose choice is not possible
  pub stuck-replayed : (choice : Choice) (line : List ℕ) (rest : List (List ℕ)) → text_lines c.left.now ≡ line ∷ rest → choice_told line ≡ Some choice → chosen w.setting choice w.state ≡ None → IsReplayed w.setting (lines_seen w c) (replay.Diverged c.lines)
  stuck-replayed choice line rest is told none =
      let common : HaveCommon w.setting (printed ++ line ∷ rest) w.state c.lines = record {
        front = printed;
        rest = line ∷ rest;
        others = [];
        count_is = count-printed;
        lines_are = refl;
        printed_are = sym (append-nil printed);
        apart = tt;
        no_end = λ e ends nil following same.
            let k : Some choice ≡ None = sym told ∙ ap choice_told (cons-head same) ∙ ending-tells e in
            cc;
      } in
      replayed-left (line ∷ rest) (replay.Diverged c.lines) is
      (record { last = w.state; follows = stuck-follows w.setting case.leading w.state case.plays choice line rest told none; says = says-apart w.setting (printed ++ line ∷ rest) w.state c.lines common line rest refl })

  -- nothing is left
  pub over-replayed : c.left.now ≡ [] → IsReplayed w.setting (lines_seen w c) (replay.Incomplete c.lines)
  over-replayed none =
      let common : HaveCommon w.setting (printed ++ []) w.state c.lines = record {
        front = printed;
        rest = [];
        others = [];
        count_is = count-printed;
        lines_are = refl;
        printed_are = sym (append-nil printed);
        apart = tt;
        no_end = λ e ends nil following same. let k : [] ≡ ending_line e ∷ following = same in cc;
      } in
      replayed-left [] (replay.Incomplete c.lines) (ap text_lines none)
      (record { last = w.state; follows = all-follows w.setting case.leading w.state case.plays [] refl; says = says-short w.setting (printed ++ []) w.state c.lines common refl })

  -- A line that reports nothing, where the run may end

  module _ (line following : List ℕ) (first : text_lines c.left.now ≡ line ∷ text_lines following) (told : choice_told line ≡ None) (other : is_effect_text line ≡ false) where
    follows-here : Follows w.setting (printed ++ line ∷ text_lines following) w.state
    follows-here = all-follows w.setting case.leading w.state case.plays (line ∷ text_lines following) (told-none line (text_lines following) told other)

    pub other-replayed : (SaysEnding w.setting w.state line → ⊥) → IsReplayed w.setting (lines_seen w c) (replay.Diverged c.lines)
    other-replayed none =
        let common : HaveCommon w.setting (printed ++ line ∷ text_lines following) w.state c.lines = record {
          front = printed;
          rest = line ∷ text_lines following;
          others = [];
          count_is = count-printed;
          lines_are = refl;
          printed_are = sym (append-nil printed);
          apart = tt;
          no_end = λ e ends nil more same. none (e, cons-head same, ends);
        } in
        replayed-left (line ∷ text_lines following) (replay.Diverged c.lines) first
        (record { last = w.state; follows = follows-here; says = says-apart w.setting (printed ++ line ∷ text_lines following) w.state c.lines common line (text_lines following) refl })

    pub whole-replayed : SaysEnding w.setting w.state line → following ≡ [] → IsReplayed w.setting (lines_seen w c) (replay.Complete c.events)
    whole-replayed says none =
        replayed-left (line ∷ text_lines following) (replay.Complete c.events) first
        (record {
          last = w.state;
          follows = follows-here;
          says = ((says.0, says.2, ap (λ ls. printed ++ line ∷ ls) (ap text_lines none) ∙ ap (λ l. printed ++ l ∷ []) says.1), passed.events);
        })

    pub longer-replayed : SaysEnding w.setting w.state line → following ≢ [] → IsReplayed w.setting (lines_seen w c) (replay.Diverged (c.lines + 1))
    longer-replayed says some =
        let more = some-lines following some in
        replayed-left (line ∷ text_lines following) (replay.Diverged (c.lines + 1)) first
        (record {
          last = w.state;
          follows = follows-here;
          says =
              says-longer w.setting (printed ++ line ∷ text_lines following) w.state says.0 more.0 more.1 (c.lines + 1) says.2
              (ap (λ l. printed ++ l ∷ text_lines following) says.1 ∙ sym (append_assoc printed (ending_line says.0 ∷ []) (text_lines following)) ∙ ap (λ ls. (printed ++ ending_line says.0 ∷ []) ++ ls) more.2)
              (ap (λ n. n + 1) count-printed);
        })

-- Lists that differ at once

differ-apart : (xs ys zs : List (List ℕ)) → DifferAtOnce xs ys → BeginApart xs (ys ++ zs)
differ-apart [] ys zs h = absurd h
differ-apart (x ∷ xs) [] zs h = absurd h
differ-apart (x ∷ xs) (y ∷ ys) zs h = h

differ-some : (xs ys zs : List (List ℕ)) → DifferAtOnce xs ys → ys ++ zs ≡ [] → ⊥
differ-some [] ys zs h none = h
differ-some (x ∷ xs) [] zs h none = h
differ-some (x ∷ xs) (y ∷ ys) zs h none = cc

differ-left : (xs ys : List (List ℕ)) → DifferAtOnce xs ys → (x : List ℕ) × (more : List (List ℕ)) × (xs ≡ x ∷ more)
differ-left [] ys h = absurd h
differ-left (x ∷ xs) ys h = (x, xs, refl)

-- A step of the run that a line reports, and the comparison of its lines

module _ (setting : Setting) (state next : RunState) (old new : Comparison) (case : IsCase (record { setting = setting; state = state })) (passed : HasPassed state.lines old) (line : List ℕ) (rest : List (List ℕ)) (choice : Choice) (first : text_lines old.left.now ≡ line ∷ rest)
    (told : choice_told line ≡ Some choice) (tried : IsTried setting choice state next) (more : List Line) (grows : next.lines ≡ state.lines ++ more) where
  abbrev so_far : List (List ℕ)
  so_far = printed_lines setting state

  -- the lines of the step that are alike
  abbrev alike_front : List Line → List (List ℕ)
  alike_front first_lines = so_far ++ line_texts setting.schema state.lines first_lines

  leads : LeadsOn setting (so_far ++ text_lines old.left.now) next
  leads = subst (λ ls. LeadsOn setting (so_far ++ ls) next) (sym first) (tried-leads setting case.leading state case.plays next choice line rest told tried)

  front-long : (alike_lines : List Line) → length (alike_front alike_lines) ≡ length state.lines + length alike_lines
  front-long alike_lines =
      let a = texts-long setting.schema [] state.lines in
      let b = texts-long setting.schema state.lines alike_lines in
      let n = length-append so_far (line_texts setting.schema state.lines alike_lines) in
      omega (arith, a, b, n)

  module _ (found : LineMatch) (c : HasCompared setting.schema state.lines more old found new) where
    -- what is printed after the lines that are alike
    abbrev after_them : List (List ℕ)
    after_them = line_texts setting.schema (state.lines ++ c.first) c.others ++ line_texts setting.schema next.lines leads.added

    counted : new.lines ≡ length (alike_front c.first)
    counted =
        let a = c.count in
        let b = passed.count in
        let n = front-long c.first in
        omega (arith, a, b, n)

    seen-so : so_far ++ text_lines old.left.now ≡ alike_front c.first ++ text_lines new.left.now
    seen-so = ap (λ ls. so_far ++ ls) c.is ∙ sym (append_assoc so_far (line_texts setting.schema state.lines c.first) (text_lines new.left.now))

    next-printed : printed_lines setting next ≡ alike_front c.first ++ line_texts setting.schema (state.lines ++ c.first) c.others
    next-printed =
        printed-following setting state next more grows ∙ ap (λ ls. so_far ++ line_texts setting.schema state.lines ls) c.split ∙ ap (λ ls. so_far ++ ls) (texts-append setting.schema state.lines c.first c.others)
        ∙ sym (append_assoc so_far (line_texts setting.schema state.lines c.first) (line_texts setting.schema (state.lines ++ c.first) c.others))

    last-printed : printed_lines setting leads.last ≡ alike_front c.first ++ after_them
    last-printed =
        printed-following setting next leads.last leads.added leads.following ∙ ap (λ ls. ls ++ line_texts setting.schema next.lines leads.added) next-printed
        ∙ append_assoc (alike_front c.first) (line_texts setting.schema (state.lines ++ c.first) c.others) (line_texts setting.schema next.lines leads.added)

    common-so : BeginApart (text_lines new.left.now) after_them → ((e : RunEnding) → after_them ≡ [] → (others : List (List ℕ)) → text_lines new.left.now ≡ ending_line e ∷ others → ⊥)
        → HaveCommon setting (so_far ++ text_lines old.left.now) leads.last new.lines
    common-so apart none = record {
      front = alike_front c.first;
      rest = text_lines new.left.now;
      others = after_them;
      count_is = counted;
      lines_are = seen-so;
      printed_are = last-printed;
      apart = apart;
      no_end = λ e ends nil others same. none e nil others same;
    }

  -- the text is over
  pub step-over : HasCompared setting.schema state.lines more old alike.Over new → IsReplayed setting (so_far ++ text_lines old.left.now) (replay.Incomplete new.lines)
  unfolding common-so
  step-over c =
      let over : text_lines new.left.now ≡ [] = ap text_lines c.ends.1 in
      let common = common-so alike.Over c (subst (λ ls. BeginApart ls (after_them alike.Over c)) (sym over) tt) (λ e nil others same. let k : [] ≡ ending_line e ∷ others = sym over ∙ same in cc) in
      record { last = leads.last; follows = leads.follows; says = says-short setting (so_far ++ text_lines old.left.now) leads.last new.lines common over }

  -- it has another line
  pub step-other : HasCompared setting.schema state.lines more old alike.Other new → IsReplayed setting (so_far ++ text_lines old.left.now) (replay.Diverged new.lines)
  unfolding common-so
  step-other c =
      let texts : List (List ℕ) = line_texts setting.schema (state.lines ++ c.first) c.others in
      let left = differ-left (text_lines new.left.now) texts c.ends in
      let common =
      common-so alike.Other c (differ-apart (text_lines new.left.now) texts (line_texts setting.schema next.lines leads.added) c.ends)
      (λ e nil others same. differ-some (text_lines new.left.now) texts (line_texts setting.schema next.lines leads.added) c.ends nil)
      in
      record { last = leads.last; follows = leads.follows; says = says-apart setting (so_far ++ text_lines old.left.now) leads.last new.lines common left.0 left.1 left.2 }

  -- all lines of the step are alike
  pub step-goes : HasCompared setting.schema state.lines more old alike.All new → (event : Line) (effects : List Line) → more ≡ event ∷ effects → GoesOn (record { setting = setting; state = state }) old (record { setting = setting; state = next }) new
  step-goes c event effects some =
      let none = c.ends.0 in
      let whole : more ≡ c.first = c.split ∙ ap (λ ls. c.first ++ ls) c.ends.0 ∙ append-nil c.first in
      let printed : printed_lines setting next ≡ alike_front c.first = printed-following setting state next more grows ∙ ap alike_front whole in
      let long : length (text_lines old.left.now) ≡ length c.first + length (text_lines new.left.now) =
      ap length c.is ∙ length-append (line_texts setting.schema state.lines c.first) (text_lines new.left.now) ∙ ap (λ n. n + length (text_lines new.left.now)) (texts-long setting.schema state.lines c.first)
      in
      let least : length c.first ≡ suc (length effects) = ap length (sym whole ∙ some) in
      record {
        about = refl;
        same = ap (λ ls. ls ++ text_lines new.left.now) printed ∙ sym (seen-so alike.All c);
        passed = subst (λ ls. HasPassed ls new) (ap (λ ls. state.lines ++ ls) (sym whole) ∙ sym grows) c.ends.1;
        less = omega (arith, long, least);
      }
