-- What waits at an end, in order, by its passings.
use Rattle.std.specs.Prelude.{if◌then◌else◌, List, [], ◌∷◌}
use Rattle.history_reading.specs.declared.parts.PacketKind.{PacketKind}
use Rattle.law_statements.specs.Arrived.{Passing, arrives, gives_up, leaves}
use Rattle.order_statements.specs.Order.{still_waits}

-- the packets that arrive and still wait
abbrev pub waiting : List Passing → List PacketKind
waiting [] = []
waiting (arrives p ∷ later) = if still_waits p later then p ∷ waiting later else waiting later
waiting (leaves p ∷ later) = waiting later
waiting (gives_up ∷ later) = waiting later
