-- A relay is a history: a choice of the history goes with each step, and the packets that are sent and have not come are on
-- its links.
use Rattle.std.proofs.Common.{◌≡◌, ◌↔◌, Bool, true, false, ◌&&◌, ◌||◌, not, cond, if◌then◌else◌, List, [], ◌∷◌, ◌++◌, map, filter, nat_lt, drop, length, Option, Some, None, is_some, refl, sym, ap, subst, ◌∙◌, append_assoc}
use Rattle.std.specs.Prelude.{option_and_then}
use Rattle.std.specs.Option.{option_map_or}
use Rattle.std.specs.List.{AllByRecursion}
use Rattle.std.proofs.lemmas.List.{append-nil}
use Rattle.std.proofs.lemmas.List.Elements.{filter-append}
use Rattle.handler_script.specs.ScriptOf.{first_of}
use Rattle.ipdl_base.specs.declared.kinds.EndState.TheVariants.{Open}
use Rattle.ipdl_base.specs.declared.kinds.Side.{Side}
use Rattle.ipdl_base.specs.declared.kinds.Side.TheVariants as sides
use Rattle.ipdl_base.specs.declared.line.Line.{Line}
use Rattle.ipdl_base.specs.declared.line.What.{What}
use Rattle.ipdl_base.specs.Lines.{same_side}
use Rattle.ipdl_base.specs.Sound.{IsSound}
use Rattle.channel_model.specs.Ends.{End, Packet, World, mark, end_of, link_to}
use Rattle.channel_model.specs.Events.{Event, Move}
use Rattle.channel_model.specs.Events as event
use Rattle.channel_model.specs.Fitting.{FitsPacket}
use Rattle.ipdl_base.specs.Sides.{other}
use Rattle.channel_model.specs.Outputs.{Output, is_open, line_at}
use Rattle.channel_model.specs.Refusals.{DeliveryRefusal, packet_refusal}
use Rattle.channel_model.specs.Runs.{RunState, after_event, is_delivery, output_of, passed_by, world_after}
use Rattle.channel_model.specs.Sends.{frames_of}
use Rattle.channel_model.specs.States.{IsAnswered}
use Rattle.channel_model.specs.Steps.{first_packet, step}
use Rattle.channel_laws.specs.Laws.{world_of}
use Rattle.channel_laws.proofs.HonestRuns.{honest_packets_are_accepted}
use Rattle.channel_laws.proofs.Outlines.{open-is}
use Rattle.script_steps.specs.Choices.{Choice, Setting, beginning_of, following_event, chosen, event_by, is_doable, may_deliver, played}
use Rattle.script_steps.specs.Choices as choices
use Rattle.script_steps.specs.Laws.{IsRunOf}
use Rattle.script_steps.specs.NextEvent.{next_event}
use Rattle.script_steps.specs.Progress.{Progress, after_lines, no_progress, progress_of}
use Rattle.script_steps.specs.Turns.{RunEnding, at_limit, at_rest, is_quiet, is_quiet_at}
use Rattle.script_steps.proofs.Choosing.{event-delivers}
use Rattle.script_steps.proofs.Playing.{choices_are_runs}
use Rattle.script_steps.proofs.StepLines.{Prints, step-prints}
use Rattle.script_runs.specs.Endings as histories
use Rattle.script_runs.specs.Laws.{HasLimit, IsAtRest}
use Rattle.script_runs.proofs.Rest.{rest_of_cases_is_still}
use Rattle.script_runs.proofs.CaseRuns.{IsCase, case-next, case-fits}
use Rattle.relay_runs.specs.HalfRuns.{HalfRun, HalfState, begins, after, after_packet, delivered_for, is_within, own_event}
use Rattle.relay_runs.specs.HalfRuns as halves
use Rattle.relay_runs.specs.RelaySteps.{IsRelay, RelayState, RelayStep, acts, gets, half_of, next_packet, opening_relay, stays, steps, with_half}
use Rattle.relay_runs.specs.Relays.{EndsAs, has_left}
use Rattle.relay_runs.proofs.TurnSteps.{turns_are_relays}
use Rattle.relay_history.specs.Laws.{FinishedRelaysWaitForNothing, RelaysAreHistories, RelaysComeInOrder, TurnsHaveOneHistory}
use Rattle.relay_history.specs.OneHistory.{IsOneHistory, side_lines}
use Rattle.relay_runs.proofs.Sides.{by-sides, half-here, half-there, twice}

-- Lines by side

filter-again : (test : Line → Bool) (b : Bool) (line : Line) (rest : List Line) → test line ≡ b → filter test (filter test rest) ≡ filter test rest
    → filter test (cond b (line ∷ filter test rest) (filter test rest)) ≡ cond b (line ∷ filter test rest) (filter test rest)
filter-again test true line rest is h = ap (λ (b : Bool). cond b (line ∷ filter test (filter test rest)) (filter test (filter test rest))) is ∙ ap (λ (ls : List Line). line ∷ ls) h
filter-again test false line rest is h = h

filter-twice : (test : Line → Bool) (lines : List Line) → filter test (filter test lines) ≡ filter test lines
filter-twice test [] = refl
filter-twice test (line ∷ rest) = filter-again test (test line) line rest refl (filter-twice test rest)

-- so the lines of both sides report the same progress of a side as its own
side-progress : (side : Side) (lines own : List Line) → side_lines side lines ≡ own → progress_of side lines ≡ progress_of side own
side-progress side lines own is =
    ap (λ (ls : List Line). after_lines no_progress (map (λ (line : Line). line.what) ls)) (sym (filter-twice (λ (line : Line). same_side line.side side) lines) ∙ ap (side_lines side) is)

all-own : (own side : Side) (ws : List What) → same_side own side ≡ true → side_lines side (map (line_at own) ws) ≡ map (line_at own) ws
all-own own side [] h = refl
all-own own side (w ∷ ws) h =
    ap (λ (b : Bool). cond b (line_at own w ∷ side_lines side (map (line_at own) ws)) (side_lines side (map (line_at own) ws))) h ∙ ap (λ (ls : List Line). line_at own w ∷ ls) (all-own own side ws h)

none-own : (own side : Side) (ws : List What) → same_side own side ≡ false → side_lines side (map (line_at own) ws) ≡ []
none-own own side [] h = refl
none-own own side (w ∷ ws) h =
    ap (λ (b : Bool). cond b (line_at own w ∷ side_lines side (map (line_at own) ws)) (side_lines side (map (line_at own) ws))) h ∙ none-own own side ws h

same-self : (side : Side) → same_side side side ≡ true
same-self sides.Parent = refl
same-self sides.Child = refl

same-other : (side : Side) → same_side side (other side) ≡ false
same-other sides.Parent = refl
same-other sides.Child = refl

-- where lines of one side are added to others
pub lines-here : (side : Side) (before : List Line) (ws : List What) → side_lines side (before ++ map (line_at side) ws) ≡ side_lines side before ++ map (line_at side) ws
lines-here side before ws = filter-append (λ (line : Line). same_side line.side side) before (map (line_at side) ws) ∙ ap (λ (ls : List Line). side_lines side before ++ ls) (all-own side side ws (same-self side))

pub lines-there : (side : Side) (before : List Line) (ws : List What) → side_lines (other side) (before ++ map (line_at side) ws) ≡ side_lines (other side) before
lines-there side before ws =
    filter-append (λ (line : Line). same_side line.side (other side)) before (map (line_at side) ws)
    ∙ ap (λ (ls : List Line). side_lines (other side) before ++ ls) (none-own side (other side) ws (same-other side)) ∙ append-nil (side_lines (other side) before)

-- What a step of a side makes of a world

module _ (side : Side) (event : Event) (output : Output) (world : World) where
  abbrev next-world : World
  next-world = world_after (record { side = side; event = event }) output world

pub end-here : (side : Side) (event : Event) (output : Output) (world : World) → end_of side (next-world side event output world) ≡ output.end
end-here sides.Parent event output world = refl
end-here sides.Child event output world = refl

pub end-there : (side : Side) (event : Event) (output : Output) (world : World) → end_of (other side) (next-world side event output world) ≡ end_of (other side) world
end-there sides.Parent event output world = refl
end-there sides.Child event output world = refl

link-here : (side : Side) (event : Event) (output : Output) (world : World) → link_to side (next-world side event output world) ≡ after_event event (link_to side world)
link-here sides.Parent event output world = refl
link-here sides.Child event output world = refl

link-there : (side : Side) (event : Event) (output : Output) (world : World) → link_to (other side) (next-world side event output world) ≡ link_to (other side) world ++ output.packets
link-there sides.Parent event output world = refl
link-there sides.Child event output world = refl

-- an event other than a delivery takes nothing from the link
own-link : (happened : Event) (link : List Packet) → is_delivery happened ≡ false → after_event happened link ≡ link
own-link event.deliver link h = cc
own-link (event.send route number vs name) link h = refl
own-link (event.answer by vs) link h = refl
own-link (event.keep seq name) link h = refl
own-link (event.name name id) link h = refl
own-link event.close link h = refl
own-link event.die link h = refl
own-link event.take link h = refl
own-link (event.return vs) link h = refl
own-link event.resume link h = refl
own-link event.flush link h = refl

-- and comes out the same whatever the link holds
pub own-step : (setting : Setting) (e : End) (one two : List Packet) (happened : Event) → is_delivery happened ≡ false → step setting.schema e one happened ≡ step setting.schema e two happened
own-step setting e one two event.deliver h = cc
own-step setting e one two (event.send route number vs name) h = refl
own-step setting e one two (event.answer by vs) h = refl
own-step setting e one two (event.keep seq name) h = refl
own-step setting e one two (event.name name id) h = refl
own-step setting e one two event.close h = refl
own-step setting e one two event.die h = refl
own-step setting e one two event.take h = refl
own-step setting e one two (event.return vs) h = refl
own-step setting e one two event.resume h = refl
own-step setting e one two event.flush h = refl

-- How a history and a relay agree at a side

-- They have the same end and the same lines of the side, the link toward it holds what the other has sent and did not come,
-- and each packet that came was delivered.
pub record IsOneAt (side : Side) (own facing : HalfState) (history : RunState) : Type 0 where
  pub end : end_of side history.world ≡ own.end
  pub is : own.end.side ≡ side
  pub lines : side_lines side history.lines ≡ own.lines
  pub link : facing.sent ≡ own.came ++ link_to side history.world
  pub unmarked : own.delivered ≡ own.came

abbrev pub IsOne : RelayState → RunState → Type 0
IsOne state history = (side : Side) → IsOneAt side (half_of side state) (half_of (other side) state) history

-- A step keeps that

-- the half after a step, given what had come and was delivered then
abbrev stepped : HalfState → Output → List Packet → List Packet → HalfState
stepped own output came delivered = record { end = output.end; lines = own.lines ++ output.lines; came = came; delivered = delivered; sent = own.sent ++ output.packets }

module _ (setting : Setting) (side : Side) (own facing : HalfState) (history : RunState) (happened : Event) (output : Output) (came delivered : List Packet)
    (printed : (ws : List What) × (output.lines ≡ map (line_at side) ws)) where
  abbrev next : RunState
  next = record { world = next-world side happened output history.world; lines = history.lines ++ output.lines }

  one-here : IsOneAt side own facing history → output.end.side ≡ side → delivered ≡ came → facing.sent ≡ came ++ after_event happened (link_to side history.world) → IsOneAt side (stepped own output came delivered) facing next
  one-here h is same comes = record {
    end = end-here side happened output history.world;
    is = is;
    lines =
        ap (λ (ls : List Line). side_lines side (history.lines ++ ls)) printed.1 ∙ lines-here side history.lines printed.0 ∙ ap (λ (ls : List Line). ls ++ map (line_at side) printed.0) h.lines
        ∙ ap (λ (ls : List Line). own.lines ++ ls) (sym printed.1);
    link = comes ∙ ap (λ (ps : List Packet). came ++ ps) (sym (link-here side happened output history.world));
    unmarked = same;
  }

  one-there : IsOneAt (other side) facing own history → IsOneAt (other side) facing (stepped own output came delivered) next
  one-there k = record {
    end = end-there side happened output history.world ∙ k.end;
    is = k.is;
    lines = ap (λ (ls : List Line). side_lines (other side) (history.lines ++ ls)) printed.1 ∙ lines-there side history.lines printed.0 ∙ k.lines;
    link =
        ap (λ (ps : List Packet). ps ++ output.packets) k.link ∙ append_assoc facing.came (link_to (other side) history.world) output.packets
        ∙ ap (λ (ps : List Packet). facing.came ++ ps) (sym (link-there side happened output history.world));
    unmarked = k.unmarked;
  }

-- from what holds of each side after a step of one, both are put together
one-after : (side : Side) (half : HalfState) (state : RelayState) (history : RunState) → IsOneAt side half (half_of (other side) state) history → IsOneAt (other side) (half_of (other side) state) half history
    → IsOne (with_half side half state) history
one-after side half state history h k =
    let new : RelayState = with_half side half state in
    let here : half_of side new ≡ half = half-here side half state in
    let there : half_of (other side) new ≡ half_of (other side) state = half-there side half state in
    let back : half_of (other (other side)) new ≡ half = ap (λ (s : Side). half_of s new) (twice side) ∙ here in
    by-sides (λ s. IsOneAt s (half_of s new) (half_of (other s) new) history) side
    (subst (λ (own : HalfState). IsOneAt side own (half_of (other side) new) history) (sym here) (subst (λ (facing : HalfState). IsOneAt side half facing history) (sym there) h))
    (subst (λ (own : HalfState). IsOneAt (other side) own (half_of (other (other side)) new) history) (sym there) (subst (λ (facing : HalfState). IsOneAt (other side) (half_of (other side) state) facing history) (sym back) k))

-- the state after a choice whose event is possible
chosen-next : (setting : Setting) (choice : Choice) (history : RunState) (happened : Event) (output : Output) → choices.is_within setting choice.side history ≡ true → event_by setting choice history ≡ Some happened
    → output_of setting.schema history.world (record { side = choice.side; event = happened }) ≡ Some output
    → chosen setting choice history ≡ Some (record { world = next-world choice.side happened output history.world; lines = history.lines ++ output.lines })
chosen-next setting choice history happened output within has is =
    let move : Move = record { side = choice.side; event = happened } in
    ap (λ (b : Bool). if b then option_and_then (λ event. if is_doable setting choice.side history event then Some (following_event setting choice.side history event) else None) (event_by setting choice history) else None) within
    ∙ ap (option_and_then (λ event. if is_doable setting choice.side history event then Some (following_event setting choice.side history event) else None)) has
    ∙ ap (λ (found : Option Output). if is_some found then Some (let made : RunState = passed_by found move history.world in record { world = made.world; lines = history.lines ++ made.lines }) else None) is

module _ (setting : Setting) (side : Side) (own facing : HalfState) (history : RunState) (h : IsOneAt side own facing history) where
  same-progress : progress_of side history.lines ≡ progress_of side own.lines
  same-progress = side-progress side history.lines own.lines h.lines

  within-same : choices.is_within setting side history ≡ is_within setting side own
  within-same = ap (λ (p : Progress). nat_lt p.events setting.limit) same-progress

  pub own-same : choices.own_event setting side history ≡ own_event setting side own
  own-same =
      ap (λ (e : End). next_event setting.script setting.stop e (progress_of side history.lines)) h.end ∙ ap (λ (p : Progress). next_event setting.script setting.stop own.end p) same-progress

-- the next packet of a side is the first on the link
pub drop-prefix : (prefix rest : List Packet) → drop (length prefix) (prefix ++ rest) ≡ rest
drop-prefix [] rest = refl
drop-prefix (packet ∷ prefix) rest = drop-prefix prefix rest

first-same : (packets : List Packet) → first_of packets ≡ first_packet packets
first-same [] = refl
first-same (packet ∷ rest) = refl

pub next-same : (side : Side) (state : RelayState) (history : RunState) → IsOne state history → next_packet side state ≡ first_packet (link_to side history.world)
next-same side state history one =
    let h = one side in
    ap (λ (ps : List Packet). first_of (drop (length (half_of side state).came) ps)) h.link ∙ ap first_of (drop-prefix (half_of side state).came (link_to side history.world)) ∙ first-same (link_to side history.world)

-- The history of a relay, from its own steps

pub record HasHistory (setting : Setting) (state : RelayState) : Type 0 where
  pub history : RunState
  pub case : IsCase setting history
  pub one : IsOne state history

begins-so : (setting : Setting) → HasHistory setting (opening_relay setting)
begins-so setting = record { history = beginning_of setting; case = record { choices = []; plays = refl }; one = begins-at }
  where
    begins-at : IsOne (opening_relay setting) (beginning_of setting)
    begins-at sides.Parent = record { end = refl; is = refl; lines = refl; link = refl; unmarked = refl }
    begins-at sides.Child = record { end = refl; is = refl; lines = refl; link = refl; unmarked = refl }

facing-at : (side : Side) (state : RelayState) (history : RunState) → IsOne state history → IsOneAt (other side) (half_of (other side) state) (half_of side state) history
facing-at side state history one = subst (λ (s : Side). IsOneAt (other side) (half_of (other side) state) (half_of s state) history) (twice side) (one (other side))

pub printed-at : (setting : Setting) (side : Side) (e : End) (link : List Packet) (happened : Event) (output : Output) → e.side ≡ side → step setting.schema e link happened ≡ Some output
    → ((ws : List What) × (output.lines ≡ map (line_at side) ws)) × (output.end.side ≡ side)
printed-at setting side e link happened output own is =
    let p : Prints e happened output = step-prints setting.schema e link happened output is in
    ((p.first ∷ p.rest, p.lines ∙ ap (λ (s : Side). map (line_at s) (p.first ∷ p.rest)) own), p.side ∙ own)

module _ (setting : Setting) (side : Side) (state : RelayState) (output : Output) where
  abbrev half : HalfState
  half = half_of side state

  act-so : (happened : Event) → HasHistory setting state → is_within setting side half ≡ true → own_event setting side half ≡ Some happened → step setting.schema half.end [] happened ≡ Some output → HasHistory setting (with_half side (after half output) state)
  act-so happened has within is_own is =
      let history : RunState = has.history in
      let choice : Choice = record { side = side; delivers = false } in
      let h : IsOneAt side half (half_of (other side) state) history = has.one side in
      let own : event_by setting choice history ≡ Some happened = own-same setting side half (half_of (other side) state) history h ∙ is_own in
      let kind : is_delivery happened ≡ false = event-delivers setting choice history happened own in
      let printed = printed-at setting side half.end [] happened output h.is is in
      let made : output_of setting.schema history.world (record { side = side; event = happened }) ≡ Some output =
      ap (λ (e : End). step setting.schema e (link_to side history.world) happened) h.end ∙ own-step setting half.end (link_to side history.world) [] happened kind ∙ is
      in
      record {
        history = record { world = next-world side happened output history.world; lines = history.lines ++ output.lines };
        case = case-next setting choice history _ has.case (chosen-next setting choice history happened output (within-same setting side half (half_of (other side) state) history h ∙ within) own made);
        one = one-after side (after half output) state _
            (one-here setting side half (half_of (other side) state) history happened output half.came half.delivered printed.0 h printed.1 h.unmarked (h.link ∙ ap (λ (ps : List Packet). half.came ++ ps) (sym (own-link happened (link_to side history.world) kind))))
            (one-there setting side half (half_of (other side) state) history happened output half.came half.delivered printed.0 (facing-at side state history has.one));
      }

-- and from packets

-- a link that has a first packet
pub link-splits : (link : List Packet) (packet : Packet) → first_packet link ≡ Some packet → (rest : List Packet) × (link ≡ packet ∷ rest)
link-splits [] packet h = cc
link-splits (first ∷ rest) packet h = (rest, by h)
  where
    by : Some first ≡ Some packet → first ∷ rest ≡ packet ∷ rest
    by h = cc

-- no end refuses it
accepted-at : (setting : Setting) (side : Side) (history : RunState) (packet : Packet) (rest : List Packet) → IsSound setting.schema → IsCase setting history → is_open (end_of side history.world).state ≡ true → link_to side history.world ≡ packet ∷ rest
    → packet_refusal setting.schema (end_of side history.world) packet ≡ None
accepted-at setting side history packet rest sound case opened link =
    let r : IsRunOf setting history = choices_are_runs setting case.choices history case.plays in
    let is : world_of setting.schema setting.script.top r.moves ≡ history.world = ap (λ (s : RunState). s.world) r.runs in
    subst (λ (w : World). packet_refusal setting.schema (end_of side w) packet ≡ None) is
    (honest_packets_are_accepted setting.schema sound setting.script.top r.moves side packet rest
    (subst (λ (w : World). (end_of side w).state ≡ Open) (sym is) (open-is (end_of side history.world).state opened))
    (subst (λ (w : World). link_to side w ≡ packet ∷ rest) (sym is) link))

-- The next packet of an open side is first on the link, and it is itself delivered.
pub record Comes (setting : Setting) (side : Side) (state : RelayState) (history : RunState) (packet : Packet) : Type 0 where
  pub rest : List Packet
  pub link : link_to side history.world ≡ packet ∷ rest
  pub given : delivered_for setting.schema (half_of side state).end packet ≡ packet

pub comes-so : (setting : Setting) (side : Side) (state : RelayState) (packet : Packet) (has : HasHistory setting state) → IsSound setting.schema → is_open (half_of side state).end.state ≡ true → next_packet side state ≡ Some packet
    → Comes setting side state has.history packet
comes-so setting side state packet has sound opened next =
    let h = has.one side in
    let split = link-splits (link_to side has.history.world) packet (sym (next-same side state has.history has.one) ∙ next) in
    let accepted : packet_refusal setting.schema (half_of side state).end packet ≡ None =
    subst (λ (e : End). packet_refusal setting.schema e packet ≡ None) h.end
    (accepted-at setting side has.history packet split.0 sound has.case (ap (λ (e : End). is_open e.state) h.end ∙ opened) split.1)
    in
    record { rest = split.0; link = split.1; given = ap (λ (found : Option DeliveryRefusal). option_map_or (λ refusal. mark) found packet) accepted }

module _ (setting : Setting) (side : Side) (state : RelayState) (output : Output) where
  get-so : (packet : Packet) → IsSound setting.schema → HasHistory setting state → is_within setting side (half_of side state) ≡ true → is_open (half_of side state).end.state ≡ true → next_packet side state ≡ Some packet
      → step setting.schema (half_of side state).end (delivered_for setting.schema (half_of side state).end packet ∷ []) event.deliver ≡ Some output
      → HasHistory setting (with_half side (after_packet (half_of side state) packet (delivered_for setting.schema (half_of side state).end packet) output) state)
  get-so packet sound has within opened next is =
      let own : HalfState = half_of side state in
      let facing : HalfState = half_of (other side) state in
      let given : Packet = delivered_for setting.schema own.end packet in
      let history : RunState = has.history in
      let choice : Choice = record { side = side; delivers = true } in
      let h : IsOneAt side own facing history = has.one side in
      let c : Comes setting side state history packet = comes-so setting side state packet has sound opened next in
      let may : may_deliver side history.world ≡ true =
      ap (λ (e : End). is_open e.state && is_some (first_packet (link_to side history.world))) h.end ∙ ap (λ (b : Bool). b && is_some (first_packet (link_to side history.world))) opened ∙ ap (λ (ps : List Packet). is_some (first_packet ps)) c.link
      in
      let delivers : event_by setting choice history ≡ Some event.deliver = ap (λ (b : Bool). if b then Some event.deliver else None) may in
      let printed = printed-at setting side own.end (given ∷ []) event.deliver output h.is is in
      let made : output_of setting.schema history.world (record { side = side; event = event.deliver }) ≡ Some output =
      ap (λ (e : End). step setting.schema e (link_to side history.world) event.deliver) h.end ∙ ap (λ (ps : List Packet). step setting.schema own.end ps event.deliver) c.link
      ∙ ap (λ (p : Packet). step setting.schema own.end (p ∷ []) event.deliver) (sym c.given) ∙ is
      in
      record {
        history = record { world = next-world side event.deliver output history.world; lines = history.lines ++ output.lines };
        case = case-next setting choice history _ has.case (chosen-next setting choice history event.deliver output (within-same setting side own facing history h ∙ within) delivers made);
        one = one-after side (after_packet own packet given output) state _
            (one-here setting side own facing history event.deliver output (own.came ++ packet ∷ []) (own.delivered ++ given ∷ []) printed.0 h printed.1
            (ap (λ (ps : List Packet). ps ++ given ∷ []) h.unmarked ∙ ap (λ (p : Packet). own.came ++ p ∷ []) c.given)
            (h.link ∙ ap (λ (ps : List Packet). own.came ++ ps) c.link ∙ sym (append_assoc own.came (packet ∷ []) c.rest) ∙ ap (λ (ps : List Packet). (own.came ++ packet ∷ []) ++ drop 1 ps) (sym c.link)))
            (one-there setting side own facing history event.deliver output (own.came ++ packet ∷ []) (own.delivered ++ given ∷ []) printed.0 (facing-at side state history has.one));
      }

module _ (setting : Setting) (sound : IsSound setting.schema) where
  step-so : (side : Side) (state next : RelayState) → HasHistory setting state → RelayStep setting side state next → HasHistory setting next
  step-so side state _ has (acts own output within is_own is) = act-so setting side state output own has within is_own is
  step-so side state _ has (gets packet output within rests opened next is) = get-so setting side state output packet sound has within opened next is

  pub run-so : (state : RelayState) → IsRelay setting state → HasHistory setting state
  run-so _ stays = begins-so setting
  run-so _ (steps side state next run step) = step-so side state next (run-so state run) step

-- A finished relay

neither : (a b : Bool) → (not a && not b) ≡ not (a || b)
neither true b = refl
neither false b = refl

none-left : (a b : Bool) → ((a ≡ false) × (b ≡ false)) ↔ ((not a && not b) ≡ true)
none-left true b = (λ h. let k : true ≡ false = h.0 in cc, λ h. cc)
none-left false true = (λ h. let k : true ≡ false = h.1 in cc, λ h. cc)
none-left false false = (λ h. refl, λ h. (refl, refl))

not-none : (a : Bool) → not a ≡ false → a ≡ true
not-none true h = refl
not-none false h = cc

module _ (setting : Setting) (state : RelayState) (has : HasHistory setting state) where
  quiet-at : (side : Side) → is_quiet_at setting has.history side ≡ not (has_left setting side state)
  quiet-at side =
      let h = has.one side in
      let own : HalfState = half_of side state in
      ap (λ (found : Option Event). not (is_some found) && not (may_deliver side has.history.world)) (own-same setting side own (half_of (other side) state) has.history h)
      ∙ ap (λ (e : End). not (is_some (own_event setting side own)) && not (is_open e.state && is_some (first_packet (link_to side has.history.world)))) h.end
      ∙ ap (λ (found : Option Packet). not (is_some (own_event setting side own)) && not (is_open own.end.state && is_some found)) (sym (next-same side state has.history has.one))
      ∙ neither (is_some (own_event setting side own)) (is_open own.end.state && is_some (next_packet side state))

  quiet-is : is_quiet setting has.history ≡ (not (has_left setting sides.Parent state) && not (has_left setting sides.Child state))
  quiet-is =
      ap (λ (b : Bool). b && is_quiet_at setting has.history sides.Child) (quiet-at sides.Parent) ∙ ap (λ (b : Bool). not (has_left setting sides.Parent state) && b) (quiet-at sides.Child)

  finished-so : EndsAs setting state at_rest ↔ (is_quiet setting has.history ≡ true)
  finished-so =
      let none = none-left (has_left setting sides.Parent state) (has_left setting sides.Child state) in
      (λ h. quiet-is ∙ none.0 h, λ h. none.1 (sym quiet-is ∙ h))

  ends-so : (ending : RunEnding) → EndsAs setting state ending ↔ histories.EndsAs setting has.history ending
  ends-so at_rest = finished-so
  ends-so (at_limit side) =
      let within = within-same setting side (half_of side state) (half_of (other side) state) has.history (has.one side) in
      (λ h. (within ∙ h.1, quiet-at side ∙ ap not h.0), λ h. (not-none (has_left setting side state) (sym (quiet-at side) ∙ h.1), sym within ∙ h.0))

pub relays_are_histories : RelaysAreHistories
relays_are_histories setting state sound run =
    let has : HasHistory setting state = run-so setting sound state run in
    record {
      lines = has.history.lines;
      history = record { choices = has.case.choices; state = has.history; plays = has.case.plays; made = refl };
      halves = λ side. (has.one side).lines;
      ends = λ side. (has.one side).end;
      links = λ side. (has.one side).link;
      unmarked = λ side. (has.one side).unmarked;
      ending = ends-so setting state has;
    }

pub finished_relays_wait_for_nothing : FinishedRelaysWaitForNothing
finished_relays_wait_for_nothing setting state sound run ends side =
    let has : HasHistory setting state = run-so setting sound state run in
    let rest : IsAtRest setting has.history = rest_of_cases_is_still setting has.case.choices has.history sound has.case.plays ((finished-so setting state has).0 ends) in
    subst (λ (e : End). AllByRecursion IsAnswered (frames_of e)) (has.one side).end (rest.answered side)

-- Halves of a relay are half runs

module _ (setting : Setting) (sound : IsSound setting.schema) (limit : HasLimit setting) where
  abbrev RunHalves : RelayState → Type 0
  RunHalves state = (side : Side) → HalfRun setting side (half_of side state)

  halves-after : (side : Side) (half : HalfState) (state : RelayState) → RunHalves state → HalfRun setting side half → RunHalves (with_half side half state)
  halves-after side half state run h =
      by-sides (λ s. HalfRun setting s (half_of s (with_half side half state))) side (subst (HalfRun setting side) (sym (half-here side half state)) h) (subst (HalfRun setting (other side)) (sym (half-there side half state)) (run (other side)))

  halves-step : (side : Side) (state next : RelayState) → HasHistory setting state → RunHalves state → RelayStep setting side state next → RunHalves next
  halves-step side state _ has run (acts own output within is_own is) =
      halves-after side (after (half_of side state) output) state run (halves.acts (half_of side state) own output (run side) within is_own is)
  halves-step side state _ has run (gets packet output within rests opened next is) =
      let c : Comes setting side state has.history packet = comes-so setting side state packet has sound opened next in
      halves-after side (after_packet (half_of side state) packet (delivered_for setting.schema (half_of side state).end packet) output) state run
      (halves.gets (half_of side state) packet output (run side) within rests opened (subst (AllByRecursion (FitsPacket setting.schema)) c.link (case-fits setting has.history side sound limit has.case).link).0 is)

  halves-run : (state : RelayState) → IsRelay setting state → RunHalves state
  halves-run _ stays = by
    where
      by : RunHalves (opening_relay setting)
      by sides.Parent = halves.begins
      by sides.Child = halves.begins
  halves-run _ (steps side state next run step) = halves-step side state next (run-so setting sound state run) (halves-run state run) step

pub relays_come_in_order : RelaysComeInOrder
relays_come_in_order setting state sound limit run =
    let has : HasHistory setting state = run-so setting sound state run in
    let runs = halves-run setting sound limit state run in
    record {
      parent_runs = runs sides.Parent;
      child_runs = runs sides.Child;
      to_parent = (link_to sides.Parent has.history.world, (has.one sides.Parent).link);
      to_child = (link_to sides.Child has.history.world, (has.one sides.Child).link);
    }

-- Relays in turns

pub turns_have_one_history : TurnsHaveOneHistory
turns_have_one_history setting parent child ending sound by_turns =
    let relay : IsRelay setting by_turns.last = turns_are_relays setting sides.Parent 2 (opening_relay setting) by_turns.last ending by_turns.turns in
    let one : IsOneHistory setting by_turns.last = relays_are_histories setting by_turns.last sound relay in
    record { lines = one.lines; history = one.history; of_parent = one.halves sides.Parent ∙ by_turns.parent_lines; of_child = one.halves sides.Child ∙ by_turns.child_lines }
