-- How an open end waits when its other end has closed or died.
use Rattle.std.specs.Prelude.{List, [], ◌∷◌}
use Rattle.std.specs.List.{AllByRecursion}
use Rattle.ipdl_base.specs.declared.kinds.Side.{Side}
use Rattle.nesting_laws.specs.Calls.{Call, reply_of, SyncFrame, wait, SyncPacket, request, reply, farewell, SyncEnd, sync_end}
use Rattle.nesting_laws.specs.Steps.{DefersCall}

-- Requests, and then the last packet.
pub data RequestsThenFarewell : List SyncPacket → Type 0 where
  only_farewell : RequestsThenFarewell (farewell ∷ [])
  request_first : {q : Call} {rest : List SyncPacket} → RequestsThenFarewell rest → RequestsThenFarewell (request q ∷ rest)

-- The reply to w among requests, followed by the last packet. The wait for w defers the requests ahead of the reply.
pub data ReplyThenFarewell (side : Side) (w : Call) : List SyncPacket → Type 0 where
  reply_first : {rest : List SyncPacket} → RequestsThenFarewell rest → ReplyThenFarewell side w (reply (reply_of w) ∷ rest)
  request_ahead : {q : Call} {rest : List SyncPacket} → DefersCall side w q → ReplyThenFarewell side w rest → ReplyThenFarewell side w (request q ∷ rest)

-- An open end whose other end sends nothing more. Either no reply comes, or the reply that comes is for the wait on
-- top, which defers all requests that come before it.
pub data IsAlone (side : Side) : SyncEnd → Type 0 where
  no_reply_comes : {stack : List SyncFrame} {arrived : List Call} {link : List SyncPacket} → RequestsThenFarewell link → IsAlone side (sync_end stack arrived link)
  reply_comes : {w : Call} {below : List SyncFrame} {arrived : List Call} {link : List SyncPacket} → AllByRecursion (DefersCall side w) arrived → ReplyThenFarewell side w link → IsAlone side (sync_end (wait w ∷ below) arrived link)
