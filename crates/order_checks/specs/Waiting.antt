-- The packets that wait at each end, as the code keeps them.
use Rattle.std.specs.Prelude.{◌≡◌, ◌∷◌, ◌++◌, [], List, not}
use Rattle.std.specs.List.{filter}
use Rattle.ipdl_base.specs.declared.kinds.Side.{Side}
use Rattle.ipdl_base.specs.declared.kinds.Side.TheVariants as side
use Rattle.ipdl_base.specs.declared.line.Line.{Line}
use Rattle.ipdl_base.specs.declared.schema.Schema.{Schema}
use Rattle.history_reading.specs.declared.parts.PacketKind.{PacketKind}
use Rattle.history_reading.specs.Numbers.{same_packet}
use Rattle.law_statements.specs.Arrived as the
use Rattle.law_statements.specs.Arrived.{passings}
use Rattle.law_statements.specs.Said.{said_by}
use Rattle.order_statements.specs.Waiting.{waiting}
use Rattle.order_checks.specs.declared.waiting.Passing.{Passing}
use Rattle.order_checks.specs.declared.waiting.Passing.TheVariants as passing
use Rattle.order_checks.specs.declared.waiting.WaitingPackets.{WaitingPackets}

-- the code's words for what passes
abbrev pub passing_view : Passing → the.Passing
passing_view (passing.Arrives packet) = the.arrives packet
passing_view (passing.Leaves packet) = the.leaves packet
passing_view passing.GivesUp = the.gives_up

-- what waits after one more passing
abbrev pub waiting_after : the.Passing → List PacketKind → List PacketKind
waiting_after (the.arrives packet) packets = packets ++ packet ∷ []
waiting_after (the.leaves packet) packets = filter (λ p. not (same_packet p packet)) packets
waiting_after the.gives_up packets = []

abbrev pub packets_of : Side → WaitingPackets → List PacketKind
packets_of side.Parent w = w.parent.items
packets_of side.Child w = w.child.items

-- they are those that wait at each end after some lines
abbrev pub AreWaiting : Schema → List Line → WaitingPackets → Type 0
AreWaiting schema lines w = (end : Side) → packets_of end w ≡ waiting (passings schema (said_by end lines))
