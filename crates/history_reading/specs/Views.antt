-- How the code keeps what is read: its records show what is read of each end and of both.
use Rattle.std.specs.Prelude.{◌≡◌, ℤ, if◌then◌else◌, List, map, Option, Some, None, option_map}
use Rattle.std.specs.Option.{option_or}
use Rattle.std.specs.HashMap.{HashMap, get}
use Rattle.std.specs.HashSet.{HashSet, contains}
use Rattle.std.specs.Ordering.{int_eq}
use Rattle.std.specs.declared.hash.FoldHasher.{FoldHasher}
use Rattle.std.specs.declared.hash.BuildHasherDefault.{BuildHasherDefault}
use Rattle.history_reading.specs.declared.sent_packet.Request as kept
use Rattle.history_reading.specs.declared.sent_packet.ReplyContent as kept_said
use Rattle.history_reading.specs.declared.sent_packet.ReplyContent.TheVariants as said
use Rattle.history_reading.specs.declared.sent_packet.SentPacket as kept_told
use Rattle.history_reading.specs.declared.sent_packet.SentPacket.TheVariants as told
use Rattle.history_reading.specs.Numbers.{has}
use Rattle.history_reading.specs.SentPacket as the
use Rattle.history_reading.specs.SentPacket.{Request, ReplyContent, SentPacket, request_of}

abbrev pub request_view : kept.Request → Request
request_view r = record { seq = r.seq; transaction = r.transaction; sync = r.sync; wants = r.wants; route = r.route; number = r.number; made = r.made; values = r.values.now }

abbrev pub reply_view : kept_said.ReplyContent → ReplyContent
reply_view (said.Resolved vs) = the.resolved vs.now
reply_view said.Rejected = the.rejected
reply_view (said.Ok vs) = the.ok vs.now
reply_view (said.Fault r) = the.fault r

abbrev pub packet_view : kept_told.SentPacket → SentPacket
packet_view (told.Request r) = the.request (request_view r)
packet_view (told.Reply n what) = the.said n (reply_view what)
packet_view told.Goodbye = the.goodbye
packet_view told.Broken = the.broken

abbrev pub sent_view : List kept_told.SentPacket → List SentPacket
sent_view sent = map packet_view sent

-- a set has the numbers of a list
abbrev pub AreMembers : List ℤ → HashSet ℤ (BuildHasherDefault FoldHasher) → Type 0
AreMembers list members = (n : ℤ) → contains int_eq members n ≡ has list n

-- a map has the first request of each number among packets
abbrev pub AreRequests : List kept_told.SentPacket → HashMap ℤ kept.Request (BuildHasherDefault FoldHasher) → Type 0
AreRequests sent requests = (n : ℤ) → option_map request_view (get int_eq requests n) ≡ request_of (sent_view sent) n

-- a map has got a request where it had none of its number
abbrev pub InsertsFirst : HashMap ℤ kept.Request (BuildHasherDefault FoldHasher) → HashMap ℤ kept.Request (BuildHasherDefault FoldHasher) → kept.Request → Type 0
InsertsFirst old new request = (n : ℤ) → get int_eq new n ≡ option_or (get int_eq old n) (if int_eq request.seq n then Some request else None)
