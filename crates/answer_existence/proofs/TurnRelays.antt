-- The turns of both sides are a relay that gives a result for every setting.
use Rattle.std.proofs.Common.{List, map, refl, sym, subst}
use Rattle.ipdl_base.specs.declared.kinds.Side.TheVariants as sides
use Rattle.ipdl_base.specs.declared.line.Line.{Line}
use Rattle.end_parts.specs.PlainLines.{plain_line}
use Rattle.ipdl_top.specs.Ended.{answer_of}
use Rattle.plain_runs.specs.Laws.{RelayLinesArePlain}
use Rattle.plain_runs.specs.PlainEnds.{ArePlainLines}
use Rattle.relay_runs.specs.Laws.{TurnsAreRelays}
use Rattle.relay_runs.specs.RelaySteps.{IsRelay, RelayState, opening_relay}
use Rattle.relay_runs.specs.Relays.{Relayed, RelayedByTurns}
use Rattle.relay_runs.proofs.TurnEnds.{turns-end}
use Rattle.script_steps.specs.Turns.{RunEnding, at_limit, at_rest}
use Rattle.world_core.specs.declared.relay.Halves.{Halves}
use Rattle.world_core.specs.Relaying.{EndedIn}
use Rattle.answer_existence.specs.Laws.{RelaysEnd, TurnsRelayAll}

-- halves with these lines
abbrev halves_of : List Line → List Line → Halves
halves_of parent child = record { parent = record { lines = parent; spare = 0 }; child = record { lines = child; spare = 0 } }

-- what is true of plain lines and an ending is true of the halves with these lines
ended_so : (Ends : List Line → List Line → RunEnding → Type 0) (parent child : List Line) (ending : RunEnding) → ArePlainLines parent → ArePlainLines child → Ends parent child ending → EndedIn Ends (halves_of parent child) (answer_of ending)
ended_so Ends parent child at_rest p q h = subst (λ (ls : List Line). Ends ls (map plain_line child) at_rest) (sym p) (subst (λ (ls : List Line). Ends parent ls at_rest) (sym q) h)
ended_so Ends parent child (at_limit side) p q h =
    subst (λ (ls : List Line). Ends ls (map plain_line child) (at_limit side)) (sym p) (subst (λ (ls : List Line). Ends parent ls (at_limit side)) (sym q) h)

pub turns_relay_all : RelaysEnd → TurnsAreRelays → RelayLinesArePlain → TurnsRelayAll
turns_relay_all end relays plain setting is =
    let turned = end setting is in
    let ending : RunEnding = turned.2 in
    let last : RelayState = turned.3.last in
    let relay : IsRelay setting last = relays setting sides.Parent 2 (opening_relay setting) last ending turned.3.turns in
    let parent : ArePlainLines last.parent.lines = plain setting last relay sides.Parent in
    let child : ArePlainLines last.child.lines = plain setting last relay sides.Child in
    record {
      halves = halves_of last.parent.lines last.child.lines;
      ending = ending;
      gives = ended_so (RelayedByTurns setting) last.parent.lines last.child.lines ending parent child (record { last = last; turns = turned.3.turns; parent_lines = refl; child_lines = refl });
      relayed = ended_so (Relayed setting) last.parent.lines last.child.lines ending parent child
          (record { state = last; relay = relay; parent_lines = refl; child_lines = refl; ends = turns-end setting sides.Parent (opening_relay setting) last ending turned.3.turns });
    }
