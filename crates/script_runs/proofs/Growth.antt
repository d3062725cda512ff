-- What choices do after others, and the lines that they add.
use Rattle.std.proofs.Common.{◌≡◌, false, List, [], ◌∷◌, ◌++◌, map, Some, option_and_then, refl, sym, ap, ◌∙◌, append_assoc}
use Rattle.std.proofs.lemmas.List.{append-nil}
use Rattle.ipdl_base.specs.declared.line.Line.{Line}
use Rattle.ipdl_base.specs.Lines.{is_effect}
use Rattle.channel_model.specs.Ends.{end_of, link_to}
use Rattle.channel_model.specs.Outputs.{line_at}
use Rattle.channel_model.specs.Runs.{RunState}
use Rattle.script_steps.proofs.Choosing.{Happens, choice-happens}
use Rattle.script_steps.proofs.Playing.{Chooses, chooses, PlaysOn, plays_on}
use Rattle.script_steps.proofs.StepLines.{Prints, step-prints}
use Rattle.script_steps.specs.Choices.{Setting, Choice, chosen, played}

-- Choices after others

pub plays-following : (setting : Setting) (first more : List Choice) (from between last : RunState) → played setting first from ≡ Some between → played setting more between ≡ Some last → played setting (first ++ more) from ≡ Some last
plays-following setting [] more from between last h k =
    let same : from ≡ between = cc in
    ap (played setting more) same ∙ k
plays-following setting (choice ∷ first) more from between last h k =
    let p : PlaysOn setting choice first from between = plays_on setting choice first from between h in
    ap (option_and_then (played setting (first ++ more))) p.first ∙ plays-following setting first more p.next between last p.rest k

-- What choices add begins with an event

abbrev pub BeginsEvent : List Line → Type 0
BeginsEvent [] = Unit {0}
BeginsEvent (line ∷ lines) = is_effect line.what ≡ false

pub adds-event : (setting : Setting) (choices : List Choice) (from last : RunState) → played setting choices from ≡ Some last → (lines : List Line) × (last.lines ≡ from.lines ++ lines) × BeginsEvent lines
adds-event setting [] from last h =
    let same : from ≡ last = cc in
    ([], ap (λ (s : RunState). s.lines) (sym same) ∙ sym (append-nil from.lines), tt)
adds-event setting (choice ∷ more) from last h =
    let p : PlaysOn setting choice more from last = plays_on setting choice more from last h in
    let c : Chooses setting choice from p.next = chooses setting choice from p.next p.first in
    let made : Happens setting choice.side from c.event p.next = choice-happens setting choice from p.next c in
    let prints : Prints (end_of choice.side from.world) c.event made.output = step-prints setting.schema (end_of choice.side from.world) (link_to choice.side from.world) c.event made.output made.is in
    let others = adds-event setting more p.next last p.rest in
    let effects : List Line = map (line_at (end_of choice.side from.world).side) prints.rest in
    let event : Line = line_at (end_of choice.side from.world).side prints.first in (
      event ∷ effects ++ others.0,
      others.1 ∙ ap (λ ls. ls ++ others.0) (made.lines ∙ ap (λ ls. from.lines ++ ls) prints.lines) ∙ append_assoc from.lines (event ∷ effects) others.0,
      prints.is_event,
    )
