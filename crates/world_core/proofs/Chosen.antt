-- What a choice of a run does: one event more of its side, and none of the other.
use Rattle.std.proofs.Common.{◌≡◌, ℕ, suc, ◌+◌, ◌-◌, ◌<◌, ◌≤◌, nat_lt, true, if◌then◌else◌, List, [], ◌∷◌, Some, ap, subst, ◌∙◌, arith}
use Rattle.std.proofs.lemmas.Bool.Decides.{Decides-ltb}
use Rattle.ipdl_base.specs.declared.kinds.Side.{Side}
use Rattle.ipdl_base.specs.declared.kinds.Side.TheVariants as sides
use Rattle.ipdl_base.specs.declared.line.Line.{Line}
use Rattle.ipdl_base.specs.Lines.{same_side}
use Rattle.channel_model.specs.Ends.{end_of, link_to}
use Rattle.ipdl_base.specs.Sides.{other}
use Rattle.channel_model.specs.Runs.{RunState}
use Rattle.script_steps.proofs.Choosing.{HaveSides, begin-sides, choice-happens, plays-one, side-of}
use Rattle.script_steps.proofs.Counting.{step-counted}
use Rattle.script_steps.proofs.Playing.{Chooses, PlaysOn, chooses, plays_on}
use Rattle.script_steps.proofs.StepLines.{step-prints}
use Rattle.script_steps.specs.Choices.{Choice, Setting, beginning_of, chosen, played}
use Rattle.script_steps.specs.Progress.{progress_of}
use Rattle.world_core.specs.Turns.{GrowsTo, IsChosen}

sides-on : (setting : Setting) (choices : List Choice) (from last : RunState) → played setting choices from ≡ Some last → HaveSides from.world → HaveSides last.world
sides-on setting [] from last h sided =
    let same : from ≡ last = cc in
    subst (λ (s : RunState). HaveSides s.world) same sided
sides-on setting (choice ∷ more) from last h sided =
    let p : PlaysOn setting choice more from last = plays_on setting choice more from last h in
    sides-on setting more p.next last p.rest (plays-one setting choice from p.next (chooses setting choice from p.next p.first) sided).sides

-- both ends of a run have their sides
pub run-sides : (setting : Setting) (choices : List Choice) (state : RunState) → played setting choices (beginning_of setting) ≡ Some state → HaveSides state.world
run-sides setting choices state h = sides-on setting choices (beginning_of setting) state h (begin-sides setting)

-- how many events a side has
abbrev pub events_at : Side → RunState → ℕ
events_at side state = (progress_of side state.lines).events

-- how many events are left to both sides
abbrev pub left_of : Setting → RunState → ℕ
left_of setting state = (setting.limit - events_at sides.Parent state) + (setting.limit - events_at sides.Child state)

plus-none : (n : ℕ) → n + 0 ≡ n
plus-none n = omega arith

-- One event more of a side.
record OneMore (setting : Setting) (side : Side) (state next : RunState) : Type 0 where
  within : events_at side state < setting.limit
  own : events_at side next ≡ events_at side state + 1
  rest : events_at (other side) next ≡ events_at (other side) state

below : (n limit : ℕ) → nat_lt n limit ≡ true → n < limit
below n limit h = (Decides-ltb n limit).0 h

one-more : (setting : Setting) (side : Side) (state next : RunState) → (events_at side state < setting.limit) → ((at : Side) → events_at at next ≡ events_at at state + (if same_side side at then 1 else 0)) → OneMore setting side state next
one-more setting sides.Parent state next within counts = record { within = within; own = counts sides.Parent; rest = counts sides.Child ∙ plus-none (events_at sides.Child state) }
one-more setting sides.Child state next within counts = record { within = within; own = counts sides.Child; rest = counts sides.Parent ∙ plus-none (events_at sides.Parent state) }

choice-counts : (setting : Setting) (choice : Choice) (state next : RunState) → HaveSides state.world → chosen setting choice state ≡ Some next → OneMore setting choice.side state next
choice-counts setting choice state next sided is =
    let c : Chooses setting choice state next = chooses setting choice state next is in
    let h = choice-happens setting choice state next c in
    let e = end_of choice.side state.world in
    let own = side-of state.world choice.side sided in
    let prints = step-prints setting.schema e (link_to choice.side state.world) c.event h.output h.is in
    one-more setting choice.side state next (below (events_at choice.side state) setting.limit c.within)
    (λ at. ap (λ (ls : List Line). (progress_of at ls).events) h.lines ∙ step-counted e c.event h.output state.lines at prints
    ∙ ap (λ (s : Side). events_at at state + (if same_side s at then 1 else 0)) own)

fewer : (setting : Setting) (side : Side) (state next : RunState) → OneMore setting side state next → suc (left_of setting next) ≤ left_of setting state
fewer setting sides.Parent state next h = let a = h.within in let b = h.own in let c = h.rest in omega (arith, a, b, c)
fewer setting sides.Child state next h = let a = h.within in let b = h.own in let c = h.rest in omega (arith, a, b, c)

-- fewer events are left after a choice
pub chosen-less : (setting : Setting) (state next : RunState) → HaveSides state.world → IsChosen setting state next → suc (left_of setting next) ≤ left_of setting state
chosen-less setting state next sided c = fewer setting c.choice.side state next (choice-counts setting c.choice state next sided c.is)

-- and lines are added
pub chosen-grows : (setting : Setting) (state next : RunState) → IsChosen setting state next → GrowsTo state.lines next.lines
chosen-grows setting state next c =
    let h = choice-happens setting c.choice state next (chooses setting c.choice state next c.is) in
    (h.output.lines, h.lines)
