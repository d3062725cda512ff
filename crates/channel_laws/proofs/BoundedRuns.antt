-- Each end of a run prints few lines, and sends few packets, for its events.
use Rattle.std.proofs.Common.{◌≡◌, ℕ, ◌+◌, ◌*◌, ◌≤◌, Bool, true, false, not, ◌&&◌, cond, List, [], ◌∷◌, ◌++◌, drop, length, map, Option, Some, None, refl, ap, subst, ◌∙◌, arith}
use Rattle.std.specs.List.{AllByRecursion}
use Rattle.std.proofs.lemmas.List.{length-append, length-drop}
use Rattle.std.proofs.lemmas.List.Concat.{flat_map-append}
use Rattle.ipdl_base.specs.declared.kinds.Side.{Side}
use Rattle.ipdl_base.specs.declared.kinds.Side.TheVariants.{Parent, Child}
use Rattle.ipdl_base.specs.declared.line.Line.{Line}
use Rattle.ipdl_base.specs.declared.line.What.{What}
use Rattle.ipdl_base.specs.declared.schema.Schema.{Schema}
use Rattle.ipdl_base.specs.Lines.{is_effect, same_side}
use Rattle.ipdl_base.specs.Sound.{IsSound}
use Rattle.history_reading.specs.declared.parts.PacketKind.{PacketKind}
use Rattle.history_reading.specs.Reading.{Reading, end_reading_of, opening_reading}
use Rattle.channel_model.specs.Bounds.{unsettled, IsBounded}
use Rattle.channel_model.specs.Ends.{End, World, Packet, end_of, link_to, opening}
use Rattle.channel_model.specs.EventLines.{IsEffectOf, IsEventWithEffects}
use Rattle.channel_model.specs.Events.{Event, Move}
use Rattle.channel_model.specs.Events as event
use Rattle.ipdl_base.specs.Sides.{other}
use Rattle.channel_model.specs.Outputs.{Output, line_at}
use Rattle.channel_model.specs.Runs.{RunState, output_of, passed_by, happens, run, world_after, after_event}
use Rattle.channel_model.specs.StepLaws.{IsDeliveryOfOnePart}
use Rattle.channel_model.specs.Steps.{step, first_packet}
use Rattle.channel_model.proofs.BoundedParts.{steps_are_bounded}
use Rattle.channel_model.proofs.Events.{events_have_their_lines}
use Rattle.channel_model.proofs.StepParts.{by-parts}
use Rattle.channel_laws.specs.BoundedRuns.{lines_of, events_of, delivered_at, waiting_of, HistoriesAreBounded}
use Rattle.channel_laws.specs.Counts.{one_if}
use Rattle.channel_laws.specs.Delivered.{delivered_by, delivered_by_lines}
use Rattle.channel_laws.specs.EndActors.{ReadsActors}
use Rattle.channel_laws.specs.NestedWorlds.{IsNestedWorld}
use Rattle.channel_laws.specs.Tested.{read_from}
use Rattle.channel_laws.proofs.Counting.{many-append}
use Rattle.channel_laws.proofs.Delivered.{own-delivers-none, delivery-delivers}
use Rattle.channel_laws.proofs.EveryRun.{nested_worlds_stay, end-side}
use Rattle.channel_laws.proofs.FallenRuns.{top_protocol, known-of}
use Rattle.channel_laws.proofs.Reached.{actors-reached}
use Rattle.channel_laws.proofs.Runs.{IsReached, reached-next, at-ends}
use Rattle.channel_laws.proofs.Testing.{same-side}

-- Lines of one event

-- lines have n lines and k events of a side
record Count (side : Side) (lines : List Line) (n k : ℕ) : Type 0 where
  all : lines_of side lines ≡ n
  events : events_of side lines ≡ k

-- of no other side
record NoneOf (side : Side) (lines : List Line) : Type 0 where
  count : Count side lines 0 0
  delivered : delivered_at side lines ≡ []

differs : (side : Side) → same_side side (other side) ≡ false
differs Parent = refl
differs Child = refl

count-line : (side : Side) (line : Line) (lines : List Line) (n k : ℕ) (a b : Bool) → same_side line.side side ≡ a → is_effect line.what ≡ b → Count side lines n k → Count side (line ∷ lines) (one_if a + n) (one_if (a && not b) + k)
count-line side line lines n k a b is effect c = record {
  all = ap (λ (x : Bool). one_if x + lines_of side lines) is ∙ ap (λ (m : ℕ). one_if a + m) c.all;
  events = ap (λ (x : Bool). one_if (x && not (is_effect line.what)) + events_of side lines) is ∙ (ap (λ (x : Bool). one_if (a && not x) + events_of side lines) effect ∙ ap (λ (m : ℕ). one_if (a && not b) + m) c.events);
}

is-same : (side : Side) (line : Line) → line.side ≡ side → same_side line.side side ≡ true
is-same side line is = ap (λ (s : Side). same_side s side) is ∙ same-side side

effects-count : (side : Side) (lines : List Line) → AllByRecursion (IsEffectOf side) lines → Count side lines (length lines) 0
effects-count side [] h = record { all = refl; events = refl }
effects-count side (l ∷ ls) h = let c = count-line side l ls (length ls) 0 true true (is-same side l h.0.0) h.0.1 (effects-count side ls h.1) in record { all = let e = c.all in omega arith; events = c.events }

own-count : (side : Side) (lines : List Line) → IsEventWithEffects side lines → Count side lines (length lines) 1
own-count side [] h = absurd h
own-count side (l ∷ ls) h = let c = count-line side l ls (length ls) 0 true false (is-same side l h.0.0) h.0.1 (effects-count side ls h.1) in record { all = let e = c.all in omega arith; events = c.events }

-- a line of a side is not of the other side
none-line : (side : Side) (line : Line) (lines : List Line) → line.side ≡ side → NoneOf (other side) lines → NoneOf (other side) (line ∷ lines)
none-line side line lines is h =
    let no : same_side line.side (other side) ≡ false = ap (λ (s : Side). same_side s (other side)) is ∙ differs side in
    record {
      count = count-line (other side) line lines 0 0 false (is_effect line.what) no refl h.count;
      delivered = ap (λ (b : Bool). cond b (delivered_by line.what) [] ++ delivered_at (other side) lines) no ∙ h.delivered;
    }

none-effects : (side : Side) (lines : List Line) → AllByRecursion (IsEffectOf side) lines → NoneOf (other side) lines
none-effects side [] h = record { count = record { all = refl; events = refl }; delivered = refl }
none-effects side (l ∷ ls) h = none-line side l ls h.0.0 (none-effects side ls h.1)

none-other : (side : Side) (lines : List Line) → IsEventWithEffects side lines → NoneOf (other side) lines
none-other side [] h = absurd h
none-other side (l ∷ ls) h = none-line side l ls h.0.0 (none-effects side ls h.1)

-- Deliveries

delivered-lines : (side : Side) (ws : List What) → delivered_at side (map (line_at side) ws) ≡ delivered_by_lines ws
delivered-lines side [] = refl
delivered-lines Parent (w ∷ ws) = ap (λ (ks : List PacketKind). delivered_by w ++ ks) (delivered-lines Parent ws)
delivered-lines Child (w ∷ ws) = ap (λ (ks : List PacketKind). delivered_by w ++ ks) (delivered-lines Child ws)

after-shorter : (ev : Event) (link : List Packet) → length (after_event ev link) ≤ length link
after-shorter event.deliver link = omega (arith, length-drop 1 link)
after-shorter _ link = omega arith

first-off : (link : List Packet) (packet : Packet) → first_packet link ≡ Some packet → 1 + length (drop 1 link) ≤ length link
first-off [] packet is = cc
first-off (p ∷ ps) packet is = omega arith

-- what a step delivers leaves the link
abbrev TakesOff : Side → List Packet → Event → List Line → Type 0
TakesOff side link ev lines = length (delivered_at side lines) + length (after_event ev link) ≤ length link

takes-off : (schema : Schema) (e : End) (link : List Packet) (ev : Event) (output : Output) → step schema e link ev ≡ Some output → TakesOff e.side link ev output.lines
takes-off schema e link ev output is = by-parts schema e link ev output (TakesOff e.side link ev output.lines) is
    (λ made. none (ap (delivered_at e.side) made.lines ∙ (delivered-lines e.side made.whats ∙ own-delivers-none made.parts)))
    delivers
  where
    none : delivered_at e.side output.lines ≡ [] → TakesOff e.side link ev output.lines
    none is = let n : length (delivered_at e.side output.lines) ≡ 0 = ap length is in let s = after-shorter ev link in omega arith

    delivers : ev ≡ event.deliver → IsDeliveryOfOnePart schema e link output → TakesOff e.side link ev output.lines
    delivers at (packet, first, opened, made) =
        let one : length (delivered_at e.side output.lines) ≡ 1 = ap length (ap (delivered_at e.side) made.lines ∙ (delivered-lines e.side made.whats ∙ delivery-delivers made.parts)) in
        let off = first-off link packet first in
        let link_is : length (after_event ev link) ≡ length (drop 1 link) = ap (λ (x : Event). length (after_event x link)) at in
        omega arith

-- Moves

-- From one world to another, for each of its events a side's end prints at most five lines more than it settles, and
-- adds at most two packets.
record Adds (side : Side) (before : World) (after : RunState) : Type 0 where
  lines : lines_of side after.lines + unsettled (end_of side after.world) ≤ 5 * events_of side after.lines + unsettled (end_of side before)
  packets : length (delivered_at (other side) after.lines) + waiting_of side after.world ≤ 2 * events_of side after.lines + waiting_of side before

abbrev moved : Side → Event → World → Output → RunState
moved side ev w output = record { world = world_after (record { side = side; event = ev }) output w; lines = output.lines }

-- the end that moves
mover-adds : (side : Side) (ev : Event) (w : World) (output : Output) → IsEventWithEffects side output.lines → IsBounded (end_of side w) output → Adds side w (moved side ev w output)
mover-adds Parent ev w output event b =
    let c = own-count Parent output.lines event in
    let n : length (delivered_at Child output.lines) ≡ 0 = ap length (none-other Parent output.lines event).delivered in
    record { lines = omega (arith, c.all, c.events, b.lines); packets = omega (arith, c.events, n, b.packets, length-append w.to_child output.packets) }
mover-adds Child ev w output event b =
    let c = own-count Child output.lines event in
    let n : length (delivered_at Parent output.lines) ≡ 0 = ap length (none-other Child output.lines event).delivered in
    record { lines = omega (arith, c.all, c.events, b.lines); packets = omega (arith, c.events, n, b.packets, length-append w.to_parent output.packets) }

-- the other end
other-adds : (side : Side) (ev : Event) (w : World) (output : Output) → IsEventWithEffects side output.lines → TakesOff side (link_to side w) ev output.lines → Adds (other side) w (moved side ev w output)
other-adds Parent ev w output event off =
    let c = (none-other Parent output.lines event).count in
    record { lines = omega (arith, c.all, c.events); packets = omega (arith, c.events, off) }
other-adds Child ev w output event off =
    let c = (none-other Child output.lines event).count in
    record { lines = omega (arith, c.all, c.events); packets = omega (arith, c.events, off) }

-- a side is that of the move or the other
by-side : (P : Side → Type 0) (at side : Side) → P at → P (other at) → P side
by-side P Parent Parent a b = a
by-side P Parent Child a b = b
by-side P Child Child a b = a
by-side P Child Parent a b = b

module _ (schema : Schema) (sound : IsSound schema) (side : Side) where
  move-adds : (move : Move) (w : World) (r : Reading) (found : Option Output) → output_of schema w move ≡ found → IsReached schema w r → IsNestedWorld schema w → Adds side w (passed_by found move w)
  move-adds move w r None is reached nested = record { lines = omega arith; packets = omega arith }
  move-adds move w r (Some output) is reached nested =
      let e : End = end_of move.side w in
      let link : List Packet = link_to move.side w in
      let at : e.side ≡ move.side = end-side schema move.side w nested in
      let actors : ReadsActors schema e (end_reading_of move.side r) = (at-ends schema (ReadsActors schema) move.side w r (actors-reached schema sound w r reached)).0 in
      let event : IsEventWithEffects move.side output.lines = subst (λ (s : Side). IsEventWithEffects s output.lines) at (events_have_their_lines schema e link move.event output is).lines in
      by-side (λ (s : Side). Adds s w (moved move.side move.event w output)) move.side side
      (mover-adds move.side move.event w output event (steps_are_bounded schema (top_protocol e.actors) e link move.event output is (known-of schema e (end_reading_of move.side r) actors)))
      (other-adds move.side move.event w output event (subst (λ (s : Side). TakesOff s link move.event output.lines) at (takes-off schema e link move.event output is)))

  -- one after another
  adds-both : (before : World) (first rest : RunState) → Adds side before first → Adds side first.world rest → Adds side before (record { world = rest.world; lines = first.lines ++ rest.lines })
  adds-both before first rest a b =
      let all : lines_of side (first.lines ++ rest.lines) ≡ lines_of side first.lines + lines_of side rest.lines = many-append (λ (l : Line). same_side l.side side) first.lines rest.lines in
      let events : events_of side (first.lines ++ rest.lines) ≡ events_of side first.lines + events_of side rest.lines = many-append (λ (l : Line). same_side l.side side && not (is_effect l.what)) first.lines rest.lines in
      let delivered : length (delivered_at (other side) (first.lines ++ rest.lines)) ≡ length (delivered_at (other side) first.lines) + length (delivered_at (other side) rest.lines) =
      ap length (flat_map-append (λ (l : Line). cond (same_side l.side (other side)) (delivered_by l.what) []) first.lines rest.lines) ∙ length-append (delivered_at (other side) first.lines) (delivered_at (other side) rest.lines) in
      record { lines = omega (arith, all, events, a.lines, b.lines); packets = omega (arith, delivered, events, a.packets, b.packets) }

  run-adds : (moves : List Move) (w : World) (r : Reading) → IsReached schema w r → IsNestedWorld schema w → Adds side w (run schema moves w)
  run-adds [] w r reached nested = record { lines = omega arith; packets = omega arith }
  run-adds (move ∷ moves) w r reached nested =
      let next : RunState = happens schema w move in
      adds-both w next (run schema moves next.world) (move-adds move w r (output_of schema w move) refl reached nested)
      (run-adds moves next.world (read_from schema r next.lines) (reached-next schema move w r reached) (nested_worlds_stay.stays schema sound move w nested))

-- Histories

begins-with_one : (top : ℕ) (side : Side) → (unsettled (end_of side (opening top)) ≡ 1) × (waiting_of side (opening top) ≡ 0)
begins-with_one top Parent = (refl, refl)
begins-with_one top Child = (refl, refl)

pub histories_are_bounded : HistoriesAreBounded
histories_are_bounded schema sound top moves side =
    let a = run-adds schema sound side moves (opening top) opening_reading (record { top = top; front = []; world = refl; reading = refl }) (nested_worlds_stay.opening schema top) in
    let b = begins-with_one top side in
    record { lines = omega (arith, a.lines, b.0); packets = omega (arith, a.packets, b.1) }
