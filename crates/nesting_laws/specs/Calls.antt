-- The part of an end that decides who waits for whom: its sync requests that wait or are handled, and those that come
-- to it. Async requests, the replies to them, and answered waits are left out.
use Rattle.std.specs.Prelude.{ℕ, ◌+◌, ℤ, List, ◌++◌}
use Rattle.ipdl_base.specs.declared.kinds.Level.{Level}

-- A sync request: its level, its number and transaction, the actor that it goes to, and the number of its message.
pub record Call : Type 0 where
  pub level : Level
  pub seq : ℤ
  pub transaction : ℤ
  pub route : ℤ
  pub number : ℕ

-- What identifies a reply: the number of its request, the actor of that request, and the number of its own message.
pub record ReplyHead : Type 0 where
  pub seq : ℤ
  pub route : ℤ
  pub number : ℕ

-- the reply to a call
abbrev pub reply_of : Call → ReplyHead
reply_of q = record { seq = q.seq; route = q.route; number = q.number + 1 }

-- An unanswered wait, or a dispatch, of a sync request.
pub data SyncFrame : Type 0 where
  wait : Call → SyncFrame
  dispatch : Call → SyncFrame

-- What a link carries of sync calls: a sync request, the reply to one, or the last packet of the end that sends.
pub data SyncPacket : Type 0 where
  request : Call → SyncPacket
  reply : ReplyHead → SyncPacket
  farewell : SyncPacket

-- a packet is not the last packet of an end
abbrev pub IsNoFarewell : SyncPacket → Type 0
IsNoFarewell (request q) = Unit {0}
IsNoFarewell (reply r) = Unit {0}
IsNoFarewell farewell = ⊥

-- An end: its stack, the innermost frame first; its arrived sync requests and the link toward it, both oldest first.
pub data SyncEnd : Type 0 where
  sync_end : List SyncFrame → List Call → List SyncPacket → SyncEnd

-- an end with more packets on the link toward it
abbrev pub with_packets : SyncEnd → List SyncPacket → SyncEnd
with_packets (sync_end stack arrived link) sent = sync_end stack arrived (link ++ sent)
