-- The law Prefix: what is delivered was sent, in order, and what is taken was delivered, once.
use Rattle.std.specs.Prelude.{ℕ, ℤ, Bool, true, false, not, ◌&&◌, ◌==◌, List, length, slice_get}
use Rattle.std.specs.Option.{option_map_or}
use Rattle.std.specs.Ordering.{int_eq}
use Rattle.ipdl_base.specs.declared.schema.Schema.{Schema}
use Rattle.ipdl_base.specs.declared.value.Values.{Values}
use Rattle.ipdl_base.specs.declared.line.What.{What}
use Rattle.ipdl_base.specs.declared.line.What.TheVariants as what
use Rattle.history_reading.specs.declared.parts.PacketKind.{PacketKind}
use Rattle.history_reading.specs.declared.parts.PacketKind.TheVariants as seen
use Rattle.history_reading.specs.EndReading.{EndReading, lives, own_request}
use Rattle.history_reading.specs.Nulled.{is_nulled}
use Rattle.history_reading.specs.Numbers.{has, has_packet, same_packet}
use Rattle.ipdl_base.specs.Signatures.{params_of}
use Rattle.history_reading.specs.SentPacket.{Request, SentPacket, packet_kind}

-- a packet is the next of those that were sent after that many
abbrev pub is_next_of : List SentPacket → ℕ → PacketKind → Bool
is_next_of sent count packet = option_map_or (λ told. same_packet (packet_kind told) packet) (slice_get sent count) false

-- a packet is the next of those that the other end has sent
abbrev pub is_next : PacketKind → EndReading → EndReading → Bool
is_next packet own other = is_next_of other.sent (length own.delivered) packet

-- a request was delivered, and has neither been replaced nor taken or dropped
abbrev pub is_there : EndReading → ℤ → Bool
is_there own n = has_packet own.delivered (seen.Request n) && (not (has own.replaced n) && not (has own.gone n))

-- a request goes to this actor, and is of this message
abbrev pub is_for : ℤ → ℕ → Request → Bool
is_for route number r = int_eq r.route route && (r.number == number)

-- the other end's request of a number does so
abbrev pub was_sent : EndReading → ℤ → ℤ → ℕ → Bool
was_sent other n route number = option_map_or (is_for route number) (own_request other n) false

-- and has these values, in which dead actors are null
abbrev pub was_sent_with : Schema → EndReading → EndReading → ℤ → ℤ → ℕ → Values → Bool
was_sent_with schema own other n route number values =
    option_map_or (λ r. is_for route number r && is_nulled schema (lives own) (params_of schema number) r.values values) (own_request other n) false

-- a reply was delivered, and has not been taken
abbrev pub is_reply_there : EndReading → ℤ → Bool
is_reply_there own n = has_packet own.delivered (seen.Reply n) && not (has own.replies n)

-- a line of an end, after what is read of that end and of the other, obeys the law
abbrev pub prefix_line : Schema → EndReading → EndReading → What → Bool
prefix_line schema own other (what.DeliverRequest n) = is_next (seen.Request n) own other
prefix_line schema own other (what.DeliverReply n) = is_next (seen.Reply n) own other
prefix_line schema own other what.DeliverGoodbye = is_next seen.Goodbye own other
prefix_line schema own other what.DeliverBroken = is_next seen.Broken own other
prefix_line schema own other (what.Take n route number values) = is_there own n && was_sent_with schema own other n route number values
prefix_line schema own other (what.Drop n route number id) = is_there own n && was_sent other n route number
prefix_line schema own other (what.TakeReply n) = is_reply_there own n
prefix_line schema own other _ = true
