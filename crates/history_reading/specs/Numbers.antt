-- Lists of numbers, ids and packets.
use Rattle.std.specs.Prelude.{ℕ, ◌+◌, ◌*◌, ℤ, pos, Bool, true, false, not, List, length, Option, Some, None, unwrap_or, position}
use Rattle.std.specs.List.{list_any}
use Rattle.std.specs.Ordering.{int_eq}
use Rattle.ipdl_base.specs.declared.kinds.Side.{Side}
use Rattle.ipdl_base.specs.declared.kinds.Side.TheVariants.{Parent, Child}
use Rattle.history_reading.specs.declared.parts.PacketKind.{PacketKind}
use Rattle.history_reading.specs.declared.parts.PacketKind.TheVariants as seen

-- a list has this number
abbrev pub has : List ℤ → ℤ → Bool
has numbers n = list_any (λ m. int_eq m n) numbers

-- the id of the k-th actor that an end constructs, k from 1
abbrev pub id_of : Side → ℕ → ℤ
id_of Parent k = pos (4 * k + 2)
id_of Child k = pos (4 * k)

-- whether both show the same packet
abbrev pub same_packet : PacketKind → PacketKind → Bool
same_packet (seen.Request m) (seen.Request n) = int_eq m n
same_packet (seen.Reply m) (seen.Reply n) = int_eq m n
same_packet seen.Goodbye seen.Goodbye = true
same_packet seen.Broken seen.Broken = true
same_packet _ _ = false

-- a list has this packet
abbrev pub has_packet : List PacketKind → PacketKind → Bool
has_packet packets one = list_any (λ p. same_packet p one) packets
