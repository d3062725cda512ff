-- Turns of two halves that go apart, as a loop takes them.
use Rattle.std.proofs.Common.{◌≡◌, ℕ, suc, ◌+◌, ◌-◌, ◌*◌, ◌<◌, ◌≤◌, Bool, true, false, if◌then◌else◌, List, [], ◌∷◌, ◌++◌, drop, length, map, Option, Some, None, is_some, refl, sym, ap, subst, ◌∙◌, append_assoc, arith}
use Rattle.std.specs.Option.{option_map_or}
use Rattle.std.proofs.lemmas.List.{append-nil}
use Rattle.handler_script.specs.ScriptOf.{first_of}
use Rattle.ipdl_base.specs.declared.kinds.Side.{Side}
use Rattle.ipdl_base.specs.declared.kinds.Side.TheVariants as sides
use Rattle.ipdl_base.specs.declared.schema.Schema.{Schema}
use Rattle.channel_model.specs.Ends.{Packet}
use Rattle.channel_model.specs.Events.{Event}
use Rattle.channel_model.specs.Events as event
use Rattle.ipdl_base.specs.Sides.{other}
use Rattle.channel_model.specs.Outputs.{Output, is_open}
use Rattle.channel_model.specs.Steps.{step}
use Rattle.end_parts.specs.declared.packet.Packet.{Packet as ChannelPacket}
use Rattle.end_parts.specs.PacketReading.{PacketContent, carried, packet_read}
use Rattle.channel_core.specs.EndView.{IsFramed, packet_of}
use Rattle.script_steps.specs.Choices.{Setting}
use Rattle.script_steps.specs.Progress.{progress_of}
use Rattle.script_steps.specs.Turns.{RunEnding, at_limit, at_rest}
use Rattle.relay_runs.proofs.Sides.{half-here, half-there}
use Rattle.relay_runs.proofs.TurnEnds.{turns-end}
use Rattle.relay_runs.proofs.TurnSteps.{turns_are_relays}
use Rattle.relay_runs.specs.HalfRuns.{HalfState, after, after_packet, delivered_for, is_within, opening_half, own_event, after_next, after_own}
use Rattle.relay_runs.specs.RelaySteps.{IsRelay, RelayState, half_of, next_packet, opening_relay, with_half}
use Rattle.relay_runs.specs.Relays.{RelayTurns, exceeds, goes_on, idles, leads, packet_turn, passes, relay_turn, rests, stops, turn_by}
use Rattle.world_core.proofs.KeptEnds.{fewer}
use Rattle.world_core.proofs.KeptHalves.{apart-rests, opened-is, rests-apart, schema-is, step-grows}
use Rattle.world_core.specs.declared.answers.AcceptAnswer.{AcceptAnswer}
use Rattle.world_core.specs.declared.answers.AcceptAnswer.TheVariants as accept
use Rattle.world_core.specs.declared.answers.StepAnswer.{StepAnswer}
use Rattle.world_core.specs.declared.answers.StepAnswer.TheVariants as answer
use Rattle.world_core.specs.declared.answers.RunAnswer.{RunAnswer}
use Rattle.world_core.specs.declared.answers.RunAnswer.TheVariants as run
use Rattle.world_core.specs.declared.relay.Halves.{Halves}
use Rattle.world_core.specs.WorldView.{WorldView}
use Rattle.end_parts.specs.PlainLines.{plain_line}
use Rattle.world_core.specs.HalfSteps.{next_of}
use Rattle.world_core.specs.HalfView.{HalfView}
use Rattle.world_core.specs.Relaying.{AcceptGives, AreFacing, BothApart, BothInEach, FacingEach, GoApart, GoesApart, GoingGives, HasAccepted, HasLed, HasTakenTurns, InEach, IsApart, IsRelayed, IsRelayedByTurns, PutGives, RelayGives, RelayTurnGives, SideTurnGives, TurnsGive, own_progress, turn_answer}

-- Halves that face each other

led-apart : (setting : Setting) (side : Side) (state : RelayState) (next : HalfState) (half facing : HalfView) → GoesApart setting side next (half_of (other side) state).came half → GoesApart setting (other side) (half_of (other side) state) next.came facing
    → GoApart setting side (with_half side next state) half facing
led-apart setting sides.Parent state next half facing goes faces = record { goes = goes; faces = faces }
led-apart setting sides.Child state next half facing goes faces = record { goes = goes; faces = faces }

-- the same halves, seen from the other side
pub turned-round : (setting : Setting) (side : Side) (state : RelayState) (half facing : HalfView) → GoApart setting side state half facing → GoApart setting (other side) state facing half
turned-round setting sides.Parent state half facing apart = record { goes = apart.faces; faces = apart.goes }
turned-round setting sides.Child state half facing apart = record { goes = apart.faces; faces = apart.goes }

-- what comes after the first of a list
following-first : (before : List Packet) (rest : List Packet) → drop (length before) (before ++ rest) ≡ rest
following-first [] rest = refl
following-first (p ∷ ps) rest = following-first ps rest

module _ (setting : Setting) (side : Side) (state : RelayState) (half facing : HalfView) (apart : GoApart setting side state half facing) where
  abbrev mine : HalfState
  mine = half_of side state

  abbrev theirs : HalfState
  theirs = half_of (other side) state

  next-is : (rest : List Packet) → theirs.sent ≡ mine.came ++ rest → next_packet side state ≡ first_of rest
  next-is rest sent = ap (λ (ps : List Packet). first_of (drop (length mine.came) ps)) sent ∙ ap first_of (following-first mine.came rest)

  -- a step led to the next state
  has-led : (next : HalfState) (happened : Event) (link : List Packet) (output : Output) (half' facing' : HalfView) → relay_turn setting side state ≡ leads (with_half side next state) → is_within setting side mine ≡ true
      → step setting.schema mine.end link happened ≡ Some output → next.lines ≡ mine.lines ++ output.lines → GoesApart setting side next theirs.came half' → GoesApart setting (other side) theirs next.came facing' → HasLed setting side state half' facing'
  has-led next happened link output half' facing' is within stepped lines goes faces = record {
    next = with_half side next state;
    leads_to = is;
    apart = led-apart setting side state next half' facing' goes faces;
    few = fewer (progress_of side mine.lines).events setting.limit within;
    more =
        ap (λ (h : HalfState). (progress_of side h.lines).events) (half-here side next state) ∙ ap (λ ls. (progress_of side ls).events) lines
        ∙ step-grows setting side mine theirs.came half apart.goes happened link output stepped;
    same = half-there side next state;
  }

  -- Its own step

  own-leads : (own : Event) (output : Output) → own_event setting side mine ≡ Some own → is_within setting side mine ≡ true → step setting.schema mine.end [] own ≡ Some output → relay_turn setting side state ≡ leads (with_half side (after mine output) state)
  own-leads own output is within stepped =
      ap (turn_by setting side state) is
      ∙ ap (λ (b : Bool). if b then leads (with_half side (after_own setting mine own) state) else exceeds) within
      ∙ ap (λ (found : Option Output). leads (with_half side (option_map_or (after mine) found mine) state)) stepped

  own-exceeds : (own : Option Event) → own_event setting side mine ≡ own → is_some own ≡ true → is_within setting side mine ≡ false → relay_turn setting side state ≡ exceeds
  own-exceeds None is some full = cc
  own-exceeds (Some own) is some full = ap (turn_by setting side state) is ∙ ap (λ (b : Bool). if b then leads (with_half side (after_own setting mine own) state) else exceeds) full

  pub own-turn : (told : StepAnswer) (half' : HalfView) → (told ≡ answer.Nothing → ⊥) → GoingGives setting side mine theirs.came told half' → RelayTurnGives setting side state told half' facing
  own-turn answer.Did half' isnt h =
      has-led (after mine h.output) h.own [] h.output half' facing (own-leads h.own h.output h.is_own h.within h.is_step) h.within h.is_step refl h.goes apart.faces
  own-turn answer.Nothing half' isnt h = absurd (isnt refl)
  own-turn (answer.Spent at) half' isnt h = (own-exceeds (own_event setting side mine) refl h.0 h.1, h.2, h.3.history, apart.faces.history)
  own-turn answer.NoMemory half' isnt h = tt

  -- A packet

  module _ (none : own_event setting side mine ≡ None) where
    looks : relay_turn setting side state ≡ (if is_open mine.end.state then packet_turn setting side state (next_packet side state) else idles)
    looks = ap (turn_by setting side state) none

    pub closed-turn : is_open mine.end.state ≡ false → RelayTurnGives setting side state answer.Nothing half facing
    closed-turn closed = (looks ∙ ap (λ (b : Bool). if b then packet_turn setting side state (next_packet side state) else idles) closed, apart)

    module _ (opened : is_open mine.end.state ≡ true) where
      open-looks : relay_turn setting side state ≡ packet_turn setting side state (next_packet side state)
      open-looks = looks ∙ ap (λ (b : Bool). if b then packet_turn setting side state (next_packet side state) else idles) opened

      pub empty-turn : (facing' : HalfView) → PutGives setting (other side) theirs mine.came None facing' → RelayTurnGives setting side state answer.Nothing half facing'
      empty-turn facing' h =
          let nothing : next_packet side state ≡ None = next-is [] (h.0 ∙ sym (append-nil mine.came)) in
          (open-looks ∙ ap (packet_turn setting side state) nothing, record { goes = apart.goes; faces = h.1 })

      module _ (came : Packet) (facing' : HalfView) (faces : GoesApart setting (other side) theirs (mine.came ++ came ∷ []) facing') where
        comes : next_packet side state ≡ Some came
        comes = next-is (came ∷ faces.held) (faces.sent ∙ append_assoc mine.came (came ∷ []) faces.held)

        takes : relay_turn setting side state ≡ (if is_within setting side mine then leads (with_half side (after_next setting mine came) state) else exceeds)
        takes = open-looks ∙ ap (packet_turn setting side state) comes

        accepted : (half' : HalfView) → HasAccepted setting side mine theirs.came came half' → HasLed setting side state half' facing'
        accepted half' h =
            let given : Packet = delivered_for setting.schema mine.end came in
            has-led (after_packet mine came given h.output) event.deliver (given ∷ []) h.output half' facing'
            (takes ∙ ap (λ (b : Bool). if b then leads (with_half side (after_next setting mine came) state) else exceeds) h.within
            ∙ ap (λ (found : Option Output). leads (with_half side (option_map_or (after_packet mine came given) found mine) state)) h.is_step)
            h.within h.is_step refl h.goes faces

        pub packet-turn : (told : AcceptAnswer) (half' : HalfView) → AcceptGives setting side mine theirs.came (carried came) told half' → RelayTurnGives setting side state (turn_answer told) half' facing'
        packet-turn accept.Did half' h = accepted half' h.1
        packet-turn accept.Refused half' h = accepted half' h.1
        packet-turn accept.Nothing half' h = absurd (let e : true ≡ false = sym opened ∙ h.0 in let no : ⊥ = cc in no)
        packet-turn (accept.Spent at) half' h =
            (takes ∙ ap (λ (b : Bool). if b then leads (with_half side (after_next setting mine came) state) else exceeds) h.1, h.2, h.3.history, faces.history)
        packet-turn accept.NoMemory half' h = tt

-- Turns in each state

pub facing-goes : (half facing : HalfView) → AreFacing half facing → IsApart half
facing-goes half facing is = record { setting = is.setting; side = is.side; state = half_of is.side is.state; handed = (half_of (other is.side) is.state).came; goes = is.apart.goes }

-- a half that has no own step faces the other one still, and rests
abbrev RestsSo : HalfView → HalfView → Type 0
RestsSo half half' = InEach half (λ setting side state handed. GoingGives setting side state handed answer.Nothing half')

rested-apart : (setting : Setting) (side : Side) (state : RelayState) (half half' facing : HalfView) → RestsSo half half' → GoApart setting side state half facing → GoApart setting side state half' facing
rested-apart setting side state half half' facing rested apart =
    record { goes = (rested setting side (half_of side state) (half_of (other side) state).came apart.goes).1; faces = apart.faces }

pub rested-faces : (half half' facing : HalfView) → RestsSo half half' → AreFacing half facing → AreFacing half' facing
rested-faces half half' facing rested is = record { setting = is.setting; side = is.side; state = is.state; apart = rested-apart is.setting is.side is.state half half' facing rested is.apart }

pub rested-rests : (half half' facing : HalfView) → RestsSo half half' → AreFacing half facing → next_of half' (own_progress half') ≡ None
rested-rests half half' facing rested is =
    let h = rested is.setting is.side (half_of is.side is.state) (half_of (other is.side) is.state).came is.apart.goes in
    rests-apart is.setting is.side (half_of is.side is.state) (half_of (other is.side) is.state).came half' h.1 h.0

pub rested-each : (Holds : Setting → Side → RelayState → Type 0) (half half' facing : HalfView) → RestsSo half half' → FacingEach half' facing Holds → FacingEach half facing Holds
rested-each Holds half half' facing rested holds setting side state apart = holds setting side state (rested-apart setting side state half half' facing rested apart)

pub own-each : (half half' facing : HalfView) (told : StepAnswer) → (told ≡ answer.Nothing → ⊥) → InEach half (λ setting side state handed. GoingGives setting side state handed told half') → FacingEach half facing (λ setting side state. RelayTurnGives setting side state told half' facing)
own-each half half' facing told isnt gives setting side state apart =
    own-turn setting side state half facing apart told half' isnt (gives setting side (half_of side state) (half_of (other side) state).came apart.goes)

module _ (half facing : HalfView) (rests : next_of half (own_progress half) ≡ None) where
  none-own : (setting : Setting) (side : Side) (state : RelayState) → GoApart setting side state half facing → own_event setting side (half_of side state) ≡ None
  none-own setting side state apart = apart-rests half rests setting side (half_of side state) (half_of (other side) state).came apart.goes

  opens : (setting : Setting) (side : Side) (state : RelayState) (apart : GoApart setting side state half facing) (b : Bool) → is_open half.end.end.state ≡ b → is_open (half_of side state).end.state ≡ b
  opens setting side state apart b is = sym (opened-is setting side (half_of side state) (half_of (other side) state).came half apart.goes) ∙ is

  pub closed-each : is_open half.end.end.state ≡ false → FacingEach half facing (λ setting side state. RelayTurnGives setting side state answer.Nothing half facing)
  closed-each closed setting side state apart = closed-turn setting side state half facing apart (none-own setting side state apart) (opens setting side state apart false closed)

  pub empty-each : is_open half.end.end.state ≡ true → (facing' : HalfView) → InEach facing (λ setting side state handed. PutGives setting side state handed None facing') → FacingEach half facing (λ setting side state. RelayTurnGives setting side state answer.Nothing half facing')
  empty-each opened facing' put setting side state apart =
      empty-turn setting side state half facing apart (none-own setting side state apart) (opens setting side state apart true opened) facing'
      (put setting (other side) (half_of (other side) state) (half_of side state).came apart.faces)

  pub packet-each : is_open half.end.end.state ≡ true → (packet : ChannelPacket) (facing' : HalfView) → InEach facing (λ setting side state handed. PutGives setting side state handed (Some packet) facing')
      → (told : AcceptAnswer) (half' : HalfView) → InEach half (λ setting side state handed. AcceptGives setting side state handed (packet_read setting.schema packet) told half')
      → ((carries : Packet) → IsFramed half.end.schema carries → packet ≡ packet_of half.end.schema carries → packet_read half.end.schema packet ≡ carried carries)
      → FacingEach half facing (λ setting side state. RelayTurnGives setting side state (turn_answer told) half' facing')
  packet-each opened packet facing' put told half' accepts reads setting side state apart =
      let p = put setting (other side) (half_of (other side) state) (half_of side state).came apart.faces in
      let schema = schema-is setting side (half_of side state) (half_of (other side) state).came half apart.goes in
      let read : packet_read setting.schema packet ≡ carried p.next =
      subst (λ (s : Schema). packet_read s packet ≡ carried p.next) schema
      (reads p.next (subst (λ (s : Schema). IsFramed s p.next) (sym schema) p.framed) (p.is ∙ ap (λ (s : Schema). packet_of s p.next) (sym schema))) in
      packet-turn setting side state half facing apart (none-own setting side state apart) (opens setting side state apart true opened) p.next facing' p.goes told half'
      (subst (λ (content : PacketContent). AcceptGives setting side (half_of side state) (half_of (other side) state).came content told half') read
      (accepts setting side (half_of side state) (half_of (other side) state).came apart.goes))

-- The loop

-- What both sides still do, with this number of turns left that may do nothing, ends what they do from the beginning.
pub record RelaysSo (setting : Setting) (begun now : RelayState) (side : Side) (left : ℕ) (parent child : HalfView) : Type 0 where
  pub apart : GoApart setting sides.Parent now parent child
  pub whole : (last : RelayState) (ending : RunEnding) → RelayTurns setting side left now last ending → RelayTurns setting sides.Parent 2 begun last ending

-- a loop has come to some state so
pub record LoopsSo (setting : Setting) (begun : RelayState) (side : Side) (left : ℕ) (parent child : HalfView) : Type 0 where
  pub now : RelayState
  pub so : RelaysSo setting begun now side left parent child

one-less : (left : ℕ) → 0 < left → left ≡ suc (left - 1)
one-less left h = omega arith

-- the events that are left to both, and then the turns that may do nothing
abbrev pub turns_left : HalfView → HalfView → ℕ → ℕ
turns_left parent child left = 3 * ((parent.limit - parent.counts.events) + (child.limit - child.counts.events)) + left

events-are : (setting : Setting) (side : Side) (state : HalfState) (handed : List Packet) (half : HalfView) → GoesApart setting side state handed half → (half.counts.events ≡ (progress_of side state.lines).events) × (half.limit ≡ setting.limit)
events-are setting side state handed half goes = (goes.counted.counts.events, ap (λ (s : Setting). s.limit) goes.about)

-- a turn that leads on leaves less
left-less : (setting : Setting) (side : Side) (state : RelayState) (half facing half' facing' : HalfView) (left : ℕ) → GoApart setting side state half facing → HasLed setting side state half' facing'
    → 3 * ((half'.limit - half'.counts.events) + (facing'.limit - facing'.counts.events)) + 2 < 3 * ((half.limit - half.counts.events) + (facing.limit - facing.counts.events)) + left
left-less setting side state half facing half' facing' left apart h =
    let a = events-are setting side (half_of side state) (half_of (other side) state).came half apart.goes in
    let b = events-are setting (other side) (half_of (other side) state) (half_of side state).came facing apart.faces in
    let c = events-are setting side (half_of side h.next) (half_of (other side) h.next).came half' h.apart.goes in
    let d = events-are setting (other side) (half_of (other side) h.next) (half_of side h.next).came facing' h.apart.faces in
    let same = ap (λ (s : HalfState). (progress_of (other side) s.lines).events) h.same in
    let few = h.few in
    let more = h.more in
    omega (arith, a.0, a.1, b.0, b.1, c.0, c.1, d.0, d.1, same, few, more)

module _ (setting : Setting) (begun : RelayState) (side : Side) (left : ℕ) (parent child : HalfView) (some : 0 < left) (loop : LoopsSo setting begun side left parent child) where
  abbrev now : RelayState
  now = loop.now

  whole : (last : RelayState) (ending : RunEnding) → RelayTurns setting side (suc (left - 1)) now last ending → RelayTurns setting sides.Parent 2 begun last ending
  whole last ending h = loop.so.whole last ending (subst (λ (n : ℕ). RelayTurns setting side n now last ending) (sym (one-less left some)) h)

  leads-loop : (next : RelayState) (parent' child' : HalfView) → relay_turn setting side now ≡ leads next → GoApart setting sides.Parent next parent' child' → LoopsSo setting begun (other side) 2 parent' child'
  leads-loop next parent' child' is apart = record { now = next; so = record { apart = apart; whole = λ last ending h. whole last ending (goes_on side (left - 1) now next last ending is h) } }

  idles-loop : (parent' child' : HalfView) → relay_turn setting side now ≡ idles → GoApart setting sides.Parent now parent' child' → LoopsSo setting begun (other side) (left - 1) parent' child'
  idles-loop parent' child' is apart = record { now = now; so = record { apart = apart; whole = λ last ending h. whole last ending (passes side (left - 1) now last ending is h) } }

  ends-loop : (parent' child' : HalfView) → relay_turn setting side now ≡ exceeds → parent'.history ≡ now.parent.lines → child'.history ≡ now.child.lines → HasTakenTurns setting begun (at_limit side) parent' child'
  ends-loop parent' child' is parent_lines child_lines =
      let turns = whole now (at_limit side) (stops side (left - 1) now is) in
      record {
        last = now;
        turns = turns;
        ends = turns-end setting sides.Parent begun now (at_limit side) turns;
        parent_lines = parent_lines;
        child_lines = child_lines;
      }

-- A turn of the parent, and of the child

-- What a turn makes of the loop: it continues, with less left; or it ends.
abbrev pub LoopGives : Setting → RelayState → Side → ℕ → HalfView → HalfView → StepAnswer → HalfView → HalfView → Type 0
LoopGives setting begun side left parent child answer.Did parent' child' = LoopsSo setting begun (other side) 2 parent' child' × (turns_left parent' child' 2 < turns_left parent child left)
LoopGives setting begun side left parent child answer.Nothing parent' child' = LoopsSo setting begun (other side) (left - 1) parent' child' × (turns_left parent' child' (left - 1) < turns_left parent child left)
LoopGives setting begun side left parent child (answer.Spent at) parent' child' = HasTakenTurns setting begun (at_limit at) parent' child'
LoopGives setting begun side left parent child answer.NoMemory parent' child' = Unit {0}

same-left : (setting : Setting) (state : RelayState) (parent child parent' child' : HalfView) (left : ℕ) → 0 < left → GoApart setting sides.Parent state parent child → GoApart setting sides.Parent state parent' child' → turns_left parent' child' (left - 1) < turns_left parent child left
same-left setting state parent child parent' child' left some apart apart' =
    let a = events-are setting sides.Parent state.parent state.child.came parent apart.goes in
    let b = events-are setting sides.Child state.child state.parent.came child apart.faces in
    let c = events-are setting sides.Parent state.parent state.child.came parent' apart'.goes in
    let d = events-are setting sides.Child state.child state.parent.came child' apart'.faces in
    omega (arith, some, a.0, a.1, b.0, b.1, c.0, c.1, d.0, d.1)

parent-loop : (setting : Setting) (begun : RelayState) (left : ℕ) (parent child : HalfView) → 0 < left → (loop : LoopsSo setting begun sides.Parent left parent child) → (told : StepAnswer) (parent' child' : HalfView)
    → RelayTurnGives setting sides.Parent loop.now told parent' child' → LoopGives setting begun sides.Parent left parent child told parent' child'
parent-loop setting begun left parent child some loop answer.Did parent' child' h =
    (leads-loop setting begun sides.Parent left parent child some loop h.next parent' child' h.leads_to h.apart, left-less setting sides.Parent loop.now parent child parent' child' left loop.so.apart h)
parent-loop setting begun left parent child some loop answer.Nothing parent' child' h =
    (idles-loop setting begun sides.Parent left parent child some loop parent' child' h.0 h.1, same-left setting loop.now parent child parent' child' left some loop.so.apart h.1)
parent-loop setting begun left parent child some loop (answer.Spent at) parent' child' h =
    subst (λ (s : Side). HasTakenTurns setting begun (at_limit s) parent' child') (sym h.1) (ends-loop setting begun sides.Parent left parent child some loop parent' child' h.0 h.2 h.3)
parent-loop setting begun left parent child some loop answer.NoMemory parent' child' h = tt

child-loop : (setting : Setting) (begun : RelayState) (left : ℕ) (parent child : HalfView) → 0 < left → (loop : LoopsSo setting begun sides.Child left parent child) → (told : StepAnswer) (parent' child' : HalfView)
    → RelayTurnGives setting sides.Child loop.now told child' parent' → LoopGives setting begun sides.Child left parent child told parent' child'
child-loop setting begun left parent child some loop answer.Did parent' child' h =
    let less = left-less setting sides.Child loop.now child parent child' parent' left (turned-round setting sides.Parent loop.now parent child loop.so.apart) h in
    (leads-loop setting begun sides.Child left parent child some loop h.next parent' child' h.leads_to (turned-round setting sides.Child h.next child' parent' h.apart), omega (arith, less))
child-loop setting begun left parent child some loop answer.Nothing parent' child' h =
    let apart = turned-round setting sides.Child loop.now child' parent' h.1 in
    (idles-loop setting begun sides.Child left parent child some loop parent' child' h.0 apart, same-left setting loop.now parent child parent' child' left some loop.so.apart apart)
child-loop setting begun left parent child some loop (answer.Spent at) parent' child' h =
    subst (λ (s : Side). HasTakenTurns setting begun (at_limit s) parent' child') (sym h.1) (ends-loop setting begun sides.Child left parent child some loop parent' child' h.0 h.3 h.2)
child-loop setting begun left parent child some loop answer.NoMemory parent' child' h = tt

pub side-loop : (setting : Setting) (begun : RelayState) (side : Side) (left : ℕ) (parent child : HalfView) → 0 < left → (loop : LoopsSo setting begun side left parent child) → (told : StepAnswer) (parent' child' : HalfView)
    → SideTurnGives setting side loop.now told parent' child' → LoopGives setting begun side left parent child told parent' child'
side-loop setting begun sides.Parent left parent child some loop told parent' child' h = parent-loop setting begun left parent child some loop told parent' child' h
side-loop setting begun sides.Child left parent child some loop told parent' child' h = child-loop setting begun left parent child some loop told parent' child' h

-- at the end of the loop no turn is left
pub loop-ends : (setting : Setting) (begun : RelayState) (side : Side) (left : ℕ) (parent child : HalfView) → left ≤ 0 → LoopsSo setting begun side left parent child → HasTakenTurns setting begun at_rest parent child
loop-ends setting begun side left parent child none loop =
    let zero_left : left ≡ 0 = omega arith in
    let turns = loop.so.whole loop.now at_rest (subst (λ (n : ℕ). RelayTurns setting side n loop.now loop.now at_rest) (sym zero_left) (rests side loop.now)) in
    record {
      last = loop.now;
      turns = turns;
      ends = turns-end setting sides.Parent begun loop.now at_rest turns;
      parent_lines = loop.so.apart.goes.history;
      child_lines = loop.so.apart.faces.history;
    }

-- The same in each state from which both may go on

abbrev pub LoopsInEach : HalfView → HalfView → Side → ℕ → HalfView → HalfView → Type 0
LoopsInEach parent child side left parent' child' = BothInEach parent child (λ setting begun. LoopsSo setting begun side left parent' child')

pub loops-apart : (begun_parent begun_child parent child : HalfView) (side : Side) (left : ℕ) → BothApart begun_parent begun_child → LoopsInEach begun_parent begun_child side left parent child → BothApart parent child
loops-apart begun_parent begun_child parent child side left is loops =
    let loop = loops is.setting is.state is.apart in
    record { setting = is.setting; state = loop.now; apart = loop.so.apart }

module _ (begun_parent begun_child parent child parent' child' : HalfView) (side : Side) (left : ℕ) (some : 0 < left) (loops : LoopsInEach begun_parent begun_child side left parent child) where
  pub loops-on : (told : StepAnswer) → BothInEach parent child (λ setting state. SideTurnGives setting side state told parent' child') → BothInEach begun_parent begun_child (λ setting begun. LoopGives setting begun side left parent child told parent' child')
  loops-on told turn setting begun apart =
      let loop = loops setting begun apart in
      side-loop setting begun side left parent child some loop told parent' child' (turn setting loop.now loop.so.apart)

  pub loops-did : BothInEach parent child (λ setting state. SideTurnGives setting side state answer.Did parent' child') → LoopsInEach begun_parent begun_child (other side) 2 parent' child'
  loops-did turn setting begun apart = (loops-on answer.Did turn setting begun apart).0

  pub loops-less : BothApart begun_parent begun_child → BothInEach parent child (λ setting state. SideTurnGives setting side state answer.Did parent' child') → turns_left parent' child' 2 < turns_left parent child left
  loops-less is turn = (loops-on answer.Did turn is.setting is.state is.apart).1

  pub loops-idle : BothInEach parent child (λ setting state. SideTurnGives setting side state answer.Nothing parent' child') → LoopsInEach begun_parent begun_child (other side) (left - 1) parent' child'
  loops-idle turn setting begun apart = (loops-on answer.Nothing turn setting begun apart).0

  pub loops-fewer : BothApart begun_parent begun_child → BothInEach parent child (λ setting state. SideTurnGives setting side state answer.Nothing parent' child') → turns_left parent' child' (left - 1) < turns_left parent child left
  loops-fewer is turn = (loops-on answer.Nothing turn is.setting is.state is.apart).1

  pub loops-spent : (at : Side) → BothInEach parent child (λ setting state. SideTurnGives setting side state (answer.Spent at) parent' child') → BothInEach begun_parent begun_child (λ setting begun. TurnsGive setting begun (run.Spent at) parent' child')
  loops-spent at turn setting begun apart = loops-on (answer.Spent at) turn setting begun apart

pub loops-end : (begun_parent begun_child parent child : HalfView) (side : Side) (left : ℕ) → left ≤ 0 → LoopsInEach begun_parent begun_child side left parent child → BothInEach begun_parent begun_child (λ setting begun. TurnsGive setting begun run.Finished parent child)
loops-end begun_parent begun_child parent child side left none loops setting begun apart = loop-ends setting begun side left parent child none (loops setting begun apart)

-- the halves of a run that has just begun
pub begins-apart : (setting : Setting) (parent child : HalfView) → GoesApart setting sides.Parent (opening_half setting sides.Parent) [] parent → GoesApart setting sides.Child (opening_half setting sides.Child) [] child → GoApart setting sides.Parent (opening_relay setting) parent child
begins-apart setting parent child parent_goes child_goes = record { goes = parent_goes; faces = child_goes }

-- What a relay in turns gives

pub relayed-by-turns : (setting : Setting) (halves : Halves) (told : RunAnswer) (parent child : HalfView) → map plain_line halves.parent.lines ≡ parent.history → map plain_line halves.child.lines ≡ child.history → TurnsGive setting (opening_relay setting) told parent child
    → IsRelayedByTurns setting halves told
relayed-by-turns setting halves run.Finished parent child p c h = record { last = h.last; turns = h.turns; parent_lines = sym (p ∙ h.parent_lines); child_lines = sym (c ∙ h.child_lines) }
relayed-by-turns setting halves (run.Spent side) parent child p c h = record { last = h.last; turns = h.turns; parent_lines = sym (p ∙ h.parent_lines); child_lines = sym (c ∙ h.child_lines) }
relayed-by-turns setting halves run.NoMemory parent child p c h = tt

-- which makes a relay by steps
turned-relay : (setting : Setting) (ending : RunEnding) (parent child : HalfView) → (h : HasTakenTurns setting (opening_relay setting) ending parent child) → IsRelay setting h.last
turned-relay setting ending parent child h = turns_are_relays setting sides.Parent 2 (opening_relay setting) h.last ending h.turns

pub turns-relayed : (setting : Setting) (halves : Halves) (told : RunAnswer) (parent child : HalfView) → map plain_line halves.parent.lines ≡ parent.history → map plain_line halves.child.lines ≡ child.history → TurnsGive setting (opening_relay setting) told parent child
    → IsRelayed setting halves told
turns-relayed setting halves run.Finished parent child p c h = record { state = h.last; relay = turned-relay setting at_rest parent child h; parent_lines = sym (p ∙ h.parent_lines); child_lines = sym (c ∙ h.child_lines); ends = h.ends }
turns-relayed setting halves (run.Spent side) parent child p c h = record { state = h.last; relay = turned-relay setting (at_limit side) parent child h; parent_lines = sym (p ∙ h.parent_lines); child_lines = sym (c ∙ h.child_lines); ends = h.ends }
turns-relayed setting halves run.NoMemory parent child p c h = tt

pub gives-unless : (Gives : WorldView → Halves → RunAnswer → Type 0) (before : WorldView) (halves : Halves) (told : RunAnswer) → Gives before halves told → RelayGives Gives before halves told
gives-unless Gives before halves run.Finished h = h
gives-unless Gives before halves (run.Spent side) h = h
gives-unless Gives before halves run.NoMemory h = tt
