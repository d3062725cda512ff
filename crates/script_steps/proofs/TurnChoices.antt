-- A turn that leads to another state is a choice of the run.
use Rattle.std.proofs.Common.{◌≡◌, Bool, true, false, not, ◌&&◌, if◌then◌else◌, Option, Some, None, is_some, refl, sym, ap, subst, ◌∙◌}
use Rattle.std.specs.Prelude.{option_and_then}
use Rattle.std.specs.Option.{option_map_or}
use Rattle.ipdl_base.specs.declared.kinds.Side.{Side}
use Rattle.channel_model.specs.Events.{Event}
use Rattle.channel_model.specs.Events as event
use Rattle.channel_model.specs.Runs.{RunState}
use Rattle.schedules.specs.declared.turn.Turn.{Turn}
use Rattle.script_steps.specs.Choices.{Setting, Choice, own_event, may_deliver, is_within, event_by, following_event, is_doable, chosen}
use Rattle.script_steps.specs.Laws.{TurnIsChoice, TurnsAreChoices}
use Rattle.script_steps.specs.Turns.{TurnOutcome, leads, idles, exceeds, delivery_choice, turn_choice, led_to, outcome_by, outcome}

-- What a turn has chosen: a choice of its side, which has an event.
record HasChosen (setting : Setting) (of : Side) (state : RunState) (choice : Choice) : Type 0 where
  side : choice.side ≡ of
  event : Event
  does : event_by setting choice state ≡ Some event

own-chosen : (setting : Setting) (side : Side) (state : RunState) (own : Option Event) → own_event setting side state ≡ own → is_some own ≡ true → HasChosen setting side state (record { side = side; delivers = false })
own-chosen setting side state None is h = cc
own-chosen setting side state (Some x) is h = record { side = refl; event = x; does = is }

delivery-chosen : (setting : Setting) (side : Side) (state : RunState) (may : Bool) (choice : Choice) → may_deliver side state.world ≡ may → (if may then Some (record { side = side; delivers = true }) else None) ≡ Some choice → HasChosen setting side state choice
delivery-chosen setting side state true choice is h =
    let same : (record { side = side; delivers = true }) ≡ choice = cc in
    subst (HasChosen setting side state) same (record { side = refl; event = event.deliver; does = ap (λ b. if b then Some event.deliver else None) is })
delivery-chosen setting side state false choice is h = cc

own-true : (only own : Bool) → (not only && own) ≡ true → own ≡ true
own-true true own h = cc
own-true false own h = h

turn-chosen : (setting : Setting) (turn : Turn) (state : RunState) (choice : Choice) (own : Bool) → (not turn.only_deliver && is_some (own_event setting turn.side state)) ≡ own
    → (if own then Some (record { side = turn.side; delivers = false }) else delivery_choice turn.side state) ≡ Some choice → HasChosen setting turn.side state choice
turn-chosen setting turn state choice true is h =
    let same : (record { side = turn.side; delivers = false }) ≡ choice = cc in
    subst (HasChosen setting turn.side state) same (own-chosen setting turn.side state (own_event setting turn.side state) refl (own-true turn.only_deliver (is_some (own_event setting turn.side state)) is))
turn-chosen setting turn state choice false is h = delivery-chosen setting turn.side state (may_deliver turn.side state.world) choice refl h

-- a turn that leads to another state has chosen, its side is below the limit, and it leads where its choice does
record Leads (setting : Setting) (side : Side) (state next : RunState) (found : Option Choice) : Type 0 where
  choice : Choice
  chooses : found ≡ Some choice
  within : is_within setting side state ≡ true
  leads_to : led_to setting choice state ≡ next

leads-within : (setting : Setting) (side : Side) (state next : RunState) (choice : Choice) (within : Bool) → is_within setting side state ≡ within → (if within then leads (led_to setting choice state) else exceeds) ≡ leads next → Leads setting side state next (Some choice)
leads-within setting side state next choice true is h = record { choice = choice; chooses = refl; within = is; leads_to = cc }
leads-within setting side state next choice false is h = cc

leads-by : (setting : Setting) (side : Side) (state next : RunState) (found : Option Choice) → outcome_by setting side state found ≡ leads next → Leads setting side state next found
leads-by setting side state next None h = cc
leads-by setting side state next (Some choice) h = leads-within setting side state next choice (is_within setting side state) refl h

plays-so : (setting : Setting) (choice : Choice) (state next : RunState) (event : Event) → event_by setting choice state ≡ Some event → led_to setting choice state ≡ next → is_within setting choice.side state ≡ true → is_doable setting choice.side state event ≡ true
    → chosen setting choice state ≡ Some next
plays-so setting choice state next event does leads_to within doable =
    ap (λ (b : Bool). if b then option_and_then (λ event. if is_doable setting choice.side state event then Some (following_event setting choice.side state event) else None) (event_by setting choice state) else None) within
    ∙ ap (option_and_then (λ event. if is_doable setting choice.side state event then Some (following_event setting choice.side state event) else None)) does
    ∙ ap (λ (b : Bool). if b then Some (following_event setting choice.side state event) else None) doable
    ∙ ap Some (sym (ap (λ found. option_map_or (following_event setting choice.side state) found state) does) ∙ leads_to)

pub turns_are_choices : TurnsAreChoices
turns_are_choices setting turn state next h =
    let l : Leads setting turn.side state next (turn_choice setting turn state) = leads-by setting turn.side state next (turn_choice setting turn state) h in
    let c : HasChosen setting turn.side state l.choice = turn-chosen setting turn state l.choice (not turn.only_deliver && is_some (own_event setting turn.side state)) refl l.chooses in
    record {
      choice = l.choice;
      chooses = l.chooses;
      side = c.side;
      event = c.event;
      does = c.does;
      plays = λ doable. plays-so setting l.choice state next c.event c.does l.leads_to (subst (λ (s : Side). is_within setting s state ≡ true) (sym c.side) l.within) (subst (λ (s : Side). is_doable setting s state c.event ≡ true) (sym c.side) doable);
    }
