-- What turns show of the choices that they represent, and of sides that are quiet or spent.
use Rattle.std.proofs.Common.{◌≡◌, ℕ, ◌≤◌, Bool, true, false, not, ◌&&◌, if◌then◌else◌, List, Option, Some, None, Result, Ok, Err, get_or, is_some, option_and_then, inl, inr, ◌⊎◌, refl, sym, ap, subst, ◌∙◌, arith}
use Rattle.std.specs.Prelude.{IfOk}
use Rattle.std.specs.Bool.{Decides}
use Rattle.handler_script.specs.Valid.{IsValid}
use Rattle.ipdl_base.specs.declared.kinds.Side.{Side}
use Rattle.ipdl_base.specs.declared.kinds.Side.TheVariants as sides
use Rattle.ipdl_base.specs.Sound.{IsSound}
use Rattle.channel_model.specs.Events.{Event}
use Rattle.channel_model.specs.Events as event
use Rattle.channel_model.specs.Runs.{RunState}
use Rattle.schedules.specs.declared.turn.Turn.{Turn}
use Rattle.script_runs.specs.Laws.{EventsArePossible, HasLimit}
use Rattle.script_runs.proofs.Possible.{script_events_are_possible}
use Rattle.script_steps.specs.Choices.{Setting, Choice, following_event, beginning_of, chosen, event_by, is_doable, is_within, may_deliver, own_event, played}
use Rattle.script_steps.specs.Turns.{RunEnding, at_limit, at_rest, delivery_choice, exceeds, idles, is_quiet_at, leads, led_to, outcome, outcome_by, turn_choice, whole_turn}
use Rattle.script_runs.specs.Endings.{EndsAs, ending_line}
use Rattle.transcripts.specs.declared.line.Ending.TheVariants as words
use Rattle.transcripts.specs.Lines.{EndingIs}
use Rattle.world_core.specs.declared.answers.StepAnswer.{StepAnswer}
use Rattle.world_core.specs.declared.answers.StepAnswer.TheVariants as step
use Rattle.world_core.specs.Followed.{SaysEnding, choice_by}
use Rattle.world_core.specs.Turns.{TurnGives}
use Rattle.world_core.specs.WorldView.{WorldView}
use Rattle.world_core.specs.Worlds.{most_events}

-- What an outcome shows

record Led (setting : Setting) (turn : Turn) (state next : RunState) : Type 0 where
  choice : Choice
  chooses : turn_choice setting turn state ≡ Some choice
  within : is_within setting turn.side state ≡ true
  to : led_to setting choice state ≡ next

led-by : (setting : Setting) (turn : Turn) (state next : RunState) (found : Option Choice) (within : Bool) → turn_choice setting turn state ≡ found → is_within setting turn.side state ≡ within
    → outcome_by setting turn.side state found ≡ leads next → Led setting turn state next
led-by setting turn state next None within is has h = cc
led-by setting turn state next (Some choice) true is has h =
    let k : leads (led_to setting choice state) ≡ leads next = ap (λ (b : Bool). if b then leads (led_to setting choice state) else exceeds) (sym has) ∙ h in
    record { choice = choice; chooses = is; within = has; to = cc }
led-by setting turn state next (Some choice) false is has h =
    let k : exceeds ≡ leads next = ap (λ (b : Bool). if b then leads (led_to setting choice state) else exceeds) (sym has) ∙ h in
    cc

led : (setting : Setting) (turn : Turn) (state next : RunState) → outcome setting turn state ≡ leads next → Led setting turn state next
led setting turn state next h = led-by setting turn state next (turn_choice setting turn state) (is_within setting turn.side state) refl refl h

idle-by : (setting : Setting) (turn : Turn) (state : RunState) (found : Option Choice) (within : Bool) → is_within setting turn.side state ≡ within → outcome_by setting turn.side state found ≡ idles → found ≡ None
idle-by setting turn state None within has h = refl
idle-by setting turn state (Some choice) true has h =
    let k : leads (led_to setting choice state) ≡ idles = ap (λ (b : Bool). if b then leads (led_to setting choice state) else exceeds) (sym has) ∙ h in
    cc
idle-by setting turn state (Some choice) false has h =
    let k : exceeds ≡ idles = ap (λ (b : Bool). if b then leads (led_to setting choice state) else exceeds) (sym has) ∙ h in
    cc

idle : (setting : Setting) (turn : Turn) (state : RunState) → outcome setting turn state ≡ idles → turn_choice setting turn state ≡ None
idle setting turn state h = idle-by setting turn state (turn_choice setting turn state) (is_within setting turn.side state) refl h

full-by : (setting : Setting) (turn : Turn) (state : RunState) (found : Option Choice) (within : Bool) → is_within setting turn.side state ≡ within → outcome_by setting turn.side state found ≡ exceeds → within ≡ false
full-by setting turn state None within has h = cc
full-by setting turn state (Some choice) true has h =
    let k : leads (led_to setting choice state) ≡ exceeds = ap (λ (b : Bool). if b then leads (led_to setting choice state) else exceeds) (sym has) ∙ h in
    cc
full-by setting turn state (Some choice) false has h = refl

full : (setting : Setting) (turn : Turn) (state : RunState) → outcome setting turn state ≡ exceeds → is_within setting turn.side state ≡ false
full setting turn state h = full-by setting turn state (turn_choice setting turn state) (is_within setting turn.side state) refl h

-- Choices that are not possible

none-within : (setting : Setting) (choice : Choice) (state : RunState) → is_within setting choice.side state ≡ false → chosen setting choice state ≡ None
none-within setting choice state h =
    ap (λ (b : Bool). if b then option_and_then (λ x. if is_doable setting choice.side state x then Some (following_event setting choice.side state x) else None) (event_by setting choice state) else None) h

none-event : (setting : Setting) (choice : Choice) (state : RunState) → event_by setting choice state ≡ None → chosen setting choice state ≡ None
none-event setting choice state h =
    ap (λ (o : Option Event). if is_within setting choice.side state then option_and_then (λ x. if is_doable setting choice.side state x then Some (following_event setting choice.side state x) else None) o else None) h
    ∙ both (is_within setting choice.side state)
  where
    both : (b : Bool) → (if b then option_and_then (λ x. if is_doable setting choice.side state x then Some (following_event setting choice.side state x) else None) None else None) ≡ None
    both true = refl
    both false = refl

none-of : {A : Type 0} (o : Option A) → is_some o ≡ false → o ≡ None
none-of None h = refl
none-of (Some x) h = cc

some-none : {A : Type 0} (x : A) → Some x ≡ None → ⊥
some-none x h = cc

-- what a turn chooses where it is for deliveries alone or not, and where the side has a step of its own or not
abbrev choice-so : Turn → RunState → Bool → Bool → Option Choice
choice-so turn state only own = if not only && own then Some (record { side = turn.side; delivers = false }) else delivery_choice turn.side state

-- the turn's choice is the one that it represents, or that one has no event
chooses-own : (setting : Setting) (turn : Turn) (state : RunState) (choice : Choice) (only own may : Bool) → turn.only_deliver ≡ only → is_some (own_event setting turn.side state) ≡ own → may_deliver turn.side state.world ≡ may
    → choice-so turn state only own ≡ Some choice → (choice ≡ choice_by turn) ⊎ (event_by setting (choice_by turn) state ≡ None)
chooses-own setting turn state choice true own true only_is own_is may_is h =
    let k : Some (record { side = turn.side; delivers = true }) ≡ Some choice = ap (λ (b : Bool). if b then Some (record { side = turn.side; delivers = true }) else None) (sym may_is) ∙ h in
    let same : record { side = turn.side; delivers = true } ≡ choice = cc in
    inl (sym same ∙ ap (λ (b : Bool). record { side = turn.side; delivers = b }) (sym only_is))
chooses-own setting turn state choice true own false only_is own_is may_is h =
    let k : None ≡ Some choice = ap (λ (b : Bool). if b then Some (record { side = turn.side; delivers = true }) else None) (sym may_is) ∙ h in
    cc
chooses-own setting turn state choice false true may only_is own_is may_is h =
    let same : record { side = turn.side; delivers = false } ≡ choice = cc in
    inl (sym same ∙ ap (λ (b : Bool). record { side = turn.side; delivers = b }) (sym only_is))
chooses-own setting turn state choice false false may only_is own_is may_is h =
    inr (ap (λ (b : Bool). if b then (if may_deliver turn.side state.world then Some event.deliver else None) else own_event setting turn.side state) only_is ∙ none-of (own_event setting turn.side state) own_is)

chooses-none : (setting : Setting) (turn : Turn) (state : RunState) (only own may : Bool) → turn.only_deliver ≡ only → is_some (own_event setting turn.side state) ≡ own → may_deliver turn.side state.world ≡ may
    → choice-so turn state only own ≡ None → event_by setting (choice_by turn) state ≡ None
chooses-none setting turn state true own true only_is own_is may_is h =
    let choice : Choice = record { side = turn.side; delivers = true } in
    absurd (some-none choice (ap (λ (b : Bool). if b then Some choice else None) (sym may_is) ∙ h))
chooses-none setting turn state true own false only_is own_is may_is h =
    ap (λ (b : Bool). if b then (if may_deliver turn.side state.world then Some event.deliver else None) else own_event setting turn.side state) only_is ∙ ap (λ (b : Bool). if b then Some event.deliver else None) may_is
chooses-none setting turn state false true may only_is own_is may_is h = absurd (some-none (record { side = turn.side; delivers = false }) h)
chooses-none setting turn state false false may only_is own_is may_is h =
    ap (λ (b : Bool). if b then (if may_deliver turn.side state.world then Some event.deliver else None) else own_event setting turn.side state) only_is ∙ none-of (own_event setting turn.side state) own_is

pub small-limit : (setting : Setting) → setting.limit ≤ most_events → HasLimit setting
small-limit setting h = omega (arith, h)

-- A choice was made; or it is not possible, and another one was made.
abbrev pub IsTried : Setting → Choice → RunState → RunState → Type 0
IsTried setting choice state next = (chosen setting choice state ≡ Some next) ⊎ ((chosen setting choice state ≡ None) × ((other : Choice) × (chosen setting other state ≡ Some next)))

-- a turn that led on has tried what it represents
pub tried : (setting : Setting) (turn : Turn) (state next : RunState) (choices : List Choice) → IsSound setting.schema → IsValid setting.schema setting.script → setting.limit ≤ most_events → played setting choices (beginning_of setting) ≡ Some state
    → outcome setting turn state ≡ leads next → IsTried setting (choice_by turn) state next
tried setting turn state next choices sound valid small plays h =
    let l : Led setting turn state next = led setting turn state next h in
    let possible : EventsArePossible setting state = script_events_are_possible setting choices state sound valid (small-limit setting small) plays in
    let goes : chosen setting l.choice state ≡ Some next = possible.turn turn l.choice l.chooses l.within ∙ ap Some l.to in
    by l.choice goes (chooses-own setting turn state l.choice turn.only_deliver (is_some (own_event setting turn.side state)) (may_deliver turn.side state.world) refl refl refl l.chooses)
  where
    by : (choice : Choice) → chosen setting choice state ≡ Some next → (choice ≡ choice_by turn) ⊎ (event_by setting (choice_by turn) state ≡ None) → IsTried setting (choice_by turn) state next
    by choice goes (inl same) = inl (ap (λ c. chosen setting c state) (sym same) ∙ goes)
    by choice goes (inr none) = inr (none-event setting (choice_by turn) state none, (choice, goes))

-- a turn that does nothing represents nothing that is possible
pub idle-none : (setting : Setting) (turn : Turn) (state : RunState) → outcome setting turn state ≡ idles → chosen setting (choice_by turn) state ≡ None
idle-none setting turn state h =
    none-event setting (choice_by turn) state (chooses-none setting turn state turn.only_deliver (is_some (own_event setting turn.side state)) (may_deliver turn.side state.world) refl refl refl (idle setting turn state h))

pub full-none : (setting : Setting) (turn : Turn) (state : RunState) → outcome setting turn state ≡ exceeds → chosen setting (choice_by turn) state ≡ None
full-none setting turn state h = none-within setting (choice_by turn) state (full setting turn state h)

-- What outcomes of whole turns show of a side

-- what a whole turn chooses where the side has a step of its own or not, and a delivery or not
abbrev choice-at : Side → Bool → Bool → Option Choice
choice-at side own may = if own then Some (record { side = side; delivers = false }) else (if may then Some (record { side = side; delivers = true }) else None)

quiet-by : (setting : Setting) (state : RunState) (side : Side) (own may : Bool) → is_some (own_event setting side state) ≡ own → may_deliver side state.world ≡ may
    → choice-at side own may ≡ None → (not own && not may) ≡ true
quiet-by setting state side true may a b h = absurd (some-none (record { side = side; delivers = false }) h)
quiet-by setting state side false true a b h = absurd (some-none (record { side = side; delivers = true }) h)
quiet-by setting state side false false a b h = refl

busy-by : (side : Side) (choice : Choice) (own may : Bool) → choice-at side own may ≡ Some choice → (not own && not may) ≡ false
busy-by side choice true may h = refl
busy-by side choice false true h = refl
busy-by side choice false false h = absurd (some-none choice (sym h))

pub idle-quiet : (setting : Setting) (state : RunState) (side : Side) → outcome setting (whole_turn side) state ≡ idles → is_quiet_at setting state side ≡ true
idle-quiet setting state side h = quiet-by setting state side (is_some (own_event setting side state)) (may_deliver side state.world) refl refl (idle setting (whole_turn side) state h)

pub led-busy : (setting : Setting) (state next : RunState) (side : Side) → outcome setting (whole_turn side) state ≡ leads next → is_quiet_at setting state side ≡ false
led-busy setting state next side h = let l = led setting (whole_turn side) state next h in busy-by side l.choice (is_some (own_event setting side state)) (may_deliver side state.world) l.chooses

full-busy-by : (setting : Setting) (state : RunState) (side : Side) (found : Option Choice) → turn_choice setting (whole_turn side) state ≡ found → outcome_by setting side state found ≡ exceeds → is_quiet_at setting state side ≡ false
full-busy-by setting state side None is h = cc
full-busy-by setting state side (Some choice) is h = busy-by side choice (is_some (own_event setting side state)) (may_deliver side state.world) is

pub full-busy : (setting : Setting) (state : RunState) (side : Side) → outcome setting (whole_turn side) state ≡ exceeds → EndsAs setting state (at_limit side)
full-busy setting state side h = (full setting (whole_turn side) state h, full-busy-by setting state side (turn_choice setting (whole_turn side) state) refl h)

-- A side that was led on, or has nothing to do, is not spent.
pub led-not_spent : (setting : Setting) (state next : RunState) (side : Side) → outcome setting (whole_turn side) state ≡ leads next → EndsAs setting state (at_limit side) → ⊥
led-not_spent setting state next side h k = let l = led setting (whole_turn side) state next h in let e : true ≡ false = sym l.within ∙ k.0 in cc

pub idle-not_spent : (setting : Setting) (state : RunState) (side : Side) → outcome setting (whole_turn side) state ≡ idles → EndsAs setting state (at_limit side) → ⊥
idle-not_spent setting state side h k = let e : true ≡ false = sym (idle-quiet setting state side h) ∙ k.1 in cc

-- What the turns of a world show

pub did-or-spent : (before after : WorldView) (turn : Turn) (side : Side) (answer : StepAnswer) → turn ≡ whole_turn side → TurnGives before turn answer after → (answer ≡ step.Did) ⊎ ((s : Side) × (answer ≡ step.Spent s)) → is_quiet_at before.setting before.state side ≡ false
did-or-spent before after turn side answer whole h (inl e) =
    let g = subst (λ (a : StepAnswer). TurnGives before turn a after) e h in
    led-busy before.setting before.state after.state side (subst (λ (t : Turn). outcome before.setting t before.state ≡ leads after.state) whole g.0)
did-or-spent before after turn side answer whole h (inr e) =
    let g = subst (λ (a : StepAnswer). TurnGives before turn a after) e.1 h in
    (full-busy before.setting before.state side (subst (λ (t : Turn). outcome before.setting t before.state ≡ exceeds) whole g.0)).1

pub did-or-idle : (before after : WorldView) (turn : Turn) (side : Side) (answer : StepAnswer) → turn ≡ whole_turn side → TurnGives before turn answer after → (answer ≡ step.Did) ⊎ (answer ≡ step.Nothing) → EndsAs before.setting before.state (at_limit side) → ⊥
did-or-idle before after turn side answer whole h (inl e) =
    let g = subst (λ (a : StepAnswer). TurnGives before turn a after) e h in
    led-not_spent before.setting before.state after.state side (subst (λ (t : Turn). outcome before.setting t before.state ≡ leads after.state) whole g.0)
did-or-idle before after turn side answer whole h (inr e) =
    let g = subst (λ (a : StepAnswer). TurnGives before turn a after) e h in
    idle-not_spent before.setting before.state side (subst (λ (t : Turn). outcome before.setting t before.state ≡ idles) whole g.0)

-- a turn that does nothing, or has its side at the limit, represents no choice that is possible
pub none-done : (before after : WorldView) (turn : Turn) (answer : StepAnswer) → TurnGives before turn answer after → (answer ≡ step.Nothing) ⊎ ((s : Side) × (answer ≡ step.Spent s)) → chosen before.setting (choice_by turn) before.state ≡ None
none-done before after turn answer h (inl e) = let g = subst (λ (a : StepAnswer). TurnGives before turn a after) e h in idle-none before.setting turn before.state g.0
none-done before after turn answer h (inr e) = let g = subst (λ (a : StepAnswer). TurnGives before turn a after) e.1 h in full-none before.setting turn before.state g.0

-- Lines that say how a run ends

f-apart : ◌≡◌ {A = ℕ} 102 115 → ⊥
f-apart h = omega (arith, h)

p-apart : ◌≡◌ {A = ℕ} 112 99 → ⊥
p-apart h = omega (arith, h)

ending-one : (e f : RunEnding) → ending_line e ≡ ending_line f → e ≡ f
ending-one at_rest at_rest h = refl
ending-one at_rest (at_limit sides.Parent) h = absurd (f-apart (ap (λ (l : List ℕ). get_or l 0 0) h))
ending-one at_rest (at_limit sides.Child) h = absurd (f-apart (ap (λ (l : List ℕ). get_or l 0 0) h))
ending-one (at_limit sides.Parent) at_rest h = absurd (f-apart (ap (λ (l : List ℕ). get_or l 0 0) (sym h)))
ending-one (at_limit sides.Parent) (at_limit sides.Parent) h = refl
ending-one (at_limit sides.Parent) (at_limit sides.Child) h = absurd (p-apart (ap (λ (l : List ℕ). get_or l 6 0) h))
ending-one (at_limit sides.Child) at_rest h = absurd (f-apart (ap (λ (l : List ℕ). get_or l 0 0) (sym h)))
ending-one (at_limit sides.Child) (at_limit sides.Parent) h = absurd (p-apart (ap (λ (l : List ℕ). get_or l 6 0) (sym h)))
ending-one (at_limit sides.Child) (at_limit sides.Child) h = refl

-- the line of an ending says that the run ends so
pub says-it : {E : Type 0} (setting : Setting) (state : RunState) (line : List ℕ) (ending : RunEnding) (found : Result Bool E) → line ≡ ending_line ending → IfOk found (λ b. Decides b (EndsAs setting state ending)) → IfOk found (λ b. Decides b (SaysEnding setting state line))
says-it setting state line ending (Err x) is d = tt
says-it setting state line ending (Ok b) is d = (λ h. (ending, is, d.0 h), λ s. d.1 (subst (λ (e : RunEnding). EndsAs setting state e) (ending-one s.0 ending (sym s.1 ∙ is)) s.2))

pub says-none : (setting : Setting) (state : RunState) (line : List ℕ) → EndingIs line None → SaysEnding setting state line → ⊥
says-none setting state line none s = by s.0 s.1
  where
    by : (e : RunEnding) → line ≡ ending_line e → ⊥
    by at_rest h = none words.Finished h
    by (at_limit side) h = none (words.Spent side) h
