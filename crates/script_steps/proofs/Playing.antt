-- What choices do, one after another: they make a run, and its lines grow.
use Rattle.std.proofs.Common.{◌≡◌, Bool, true, false, if◌then◌else◌, List, [], ◌∷◌, ◌++◌, Option, Some, None, refl, sym, ap, subst, ◌∙◌, append_assoc}
use Rattle.std.proofs.lemmas.List.{append-nil}
use Rattle.std.specs.Prelude.{option_and_then}
use Rattle.ipdl_base.specs.declared.line.Line.{Line}
use Rattle.channel_model.specs.Ends.{World, opening}
use Rattle.channel_model.specs.Events.{Event, Move}
use Rattle.channel_model.specs.Runs.{RunState, happens, run}
use Rattle.channel_model.specs.Laws.{MovesFollow}
use Rattle.channel_model.proofs.Histories.{moves_follow}
use Rattle.script_steps.specs.Choices.{Setting, Choice, beginning_of, event_by, is_within, is_doable, following_event, chosen, played}
use Rattle.script_steps.specs.Laws.{IsRunOf, ChoicesAreRuns, GoesOn, ChoicesGrow}

-- What a choice does: the side is below its limit, it has an event, and that is possible.
pub record Chooses (setting : Setting) (choice : Choice) (state next : RunState) : Type 0 where
  pub within : is_within setting choice.side state ≡ true
  pub event : Event
  pub has : event_by setting choice state ≡ Some event
  pub doable : is_doable setting choice.side state event ≡ true
  pub is : next ≡ following_event setting choice.side state event

chooses-doable : (setting : Setting) (choice : Choice) (state next : RunState) (event : Event) (doable : Bool) → is_within setting choice.side state ≡ true → event_by setting choice state ≡ Some event
    → is_doable setting choice.side state event ≡ doable → (if doable then Some (following_event setting choice.side state event) else None) ≡ Some next → Chooses setting choice state next
chooses-doable setting choice state next event true within has is h = record { within = within; event = event; has = has; doable = is; is = cc }
chooses-doable setting choice state next event false within has is h = cc

chooses-event : (setting : Setting) (choice : Choice) (state next : RunState) (found : Option Event) → is_within setting choice.side state ≡ true → event_by setting choice state ≡ found
    → option_and_then (λ event. if is_doable setting choice.side state event then Some (following_event setting choice.side state event) else None) found ≡ Some next → Chooses setting choice state next
chooses-event setting choice state next None within has h = cc
chooses-event setting choice state next (Some event) within has h = chooses-doable setting choice state next event (is_doable setting choice.side state event) within has refl h

chooses-within : (setting : Setting) (choice : Choice) (state next : RunState) (within : Bool) → is_within setting choice.side state ≡ within
    → (if within then option_and_then (λ event. if is_doable setting choice.side state event then Some (following_event setting choice.side state event) else None) (event_by setting choice state) else None) ≡ Some next → Chooses setting choice state next
chooses-within setting choice state next true is h = chooses-event setting choice state next (event_by setting choice state) is refl h
chooses-within setting choice state next false is h = cc

pub chooses : (setting : Setting) (choice : Choice) (state next : RunState) → chosen setting choice state ≡ Some next → Chooses setting choice state next
chooses setting choice state next h = chooses-within setting choice state next (is_within setting choice.side state) refl h

-- the first choice, and what the others do after it
pub record PlaysOn (setting : Setting) (choice : Choice) (more : List Choice) (state last : RunState) : Type 0 where
  pub next : RunState
  pub first : chosen setting choice state ≡ Some next
  pub rest : played setting more next ≡ Some last

plays_on-found : (setting : Setting) (choice : Choice) (more : List Choice) (state last : RunState) (found : Option RunState) → chosen setting choice state ≡ found → option_and_then (played setting more) found ≡ Some last → PlaysOn setting choice more state last
plays_on-found setting choice more state last None is h = cc
plays_on-found setting choice more state last (Some next) is h = record { next = next; first = is; rest = h }

pub plays_on : (setting : Setting) (choice : Choice) (more : List Choice) (state last : RunState) → played setting (choice ∷ more) state ≡ Some last → PlaysOn setting choice more state last
plays_on setting choice more state last h = plays_on-found setting choice more state last (chosen setting choice state) refl h

-- Choices are moves

pub record IsRunFrom (setting : Setting) (from last : RunState) : Type 0 where
  pub moves : List Move
  pub world : (run setting.schema moves from.world).world ≡ last.world
  pub lines : from.lines ++ (run setting.schema moves from.world).lines ≡ last.lines

run-move : (setting : Setting) (choice : Choice) (state next last : RunState) → Chooses setting choice state next → IsRunFrom setting next last → IsRunFrom setting state last
run-move setting choice state next last c r =
    let move : Move = record { side = choice.side; event = c.event } in
    let first : RunState = happens setting.schema state.world move in
    record {
      moves = move ∷ r.moves;
      world = ap (λ (x : RunState). (run setting.schema r.moves x.world).world) (sym c.is) ∙ r.world;
      lines =
          sym (append_assoc state.lines first.lines (run setting.schema r.moves first.world).lines)
          ∙ ap (λ (x : RunState). x.lines ++ (run setting.schema r.moves x.world).lines) (sym c.is) ∙ r.lines;
    }

pub runs-from : (setting : Setting) (choices : List Choice) (from last : RunState) → played setting choices from ≡ Some last → IsRunFrom setting from last
runs-from setting [] from last h =
    let same : from ≡ last = cc in
    subst (IsRunFrom setting from) same (record { moves = []; world = refl; lines = append-nil from.lines })
runs-from setting (choice ∷ more) from last h =
    let p : PlaysOn setting choice more from last = plays_on setting choice more from last h in
    run-move setting choice from p.next last (chooses setting choice from p.next p.first) (runs-from setting more p.next last p.rest)

same-state : (one other : RunState) → one.world ≡ other.world → one.lines ≡ other.lines → one ≡ other
same-state one other world lines = ap (λ (w : World). record one { world = w }) world ∙ ap (λ (ls : List Line). record { world = other.world; lines = ls }) lines

pub choices_are_runs : ChoicesAreRuns
choices_are_runs setting choices state h =
    let r : IsRunFrom setting (beginning_of setting) state = runs-from setting choices (beginning_of setting) state h in
    record { moves = r.moves; runs = same-state (run setting.schema r.moves (opening setting.script.top)) state r.world r.lines }

-- Choices continue from where others led

pub lines-grow : (setting : Setting) (choices : List Choice) (from last : RunState) → played setting choices from ≡ Some last → (lines : List Line) × (last.lines ≡ from.lines ++ lines)
lines-grow setting choices from last h =
    let r : IsRunFrom setting from last = runs-from setting choices from last h in
    ((run setting.schema r.moves from.world).lines, sym r.lines)

pub choices_grow : ChoicesGrow
choices_grow setting [] more from last h =
    let g = lines-grow setting more from last h in
    record { between = from; before = refl; after = h; lines = g.0; following = g.1 }
choices_grow setting (choice ∷ first) more from last h =
    let p : PlaysOn setting choice (first ++ more) from last = plays_on setting choice (first ++ more) from last h in
    let g : GoesOn setting first more p.next last = choices_grow setting first more p.next last p.rest in
    record { between = g.between; before = ap (option_and_then (played setting first)) p.first ∙ g.before; after = g.after; lines = g.lines; following = g.following }
