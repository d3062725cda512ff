-- The effect of a step of an open end on sync requests.
use Rattle.std.proofs.Common.{◌≡◌, false, List, [], ◌∷◌, refl, sym, ap, subst, map, ◌∙◌}
use Rattle.std.specs.List.{AllByRecursion}
use Rattle.ipdl_base.specs.declared.kinds.Side.{Side}
use Rattle.ipdl_base.specs.declared.message.Message.{Message}
use Rattle.ipdl_base.specs.declared.schema.Schema.{Schema}
use Rattle.pending_queue.specs.declared.item.Item.{Item}
use Rattle.ipdl_base.specs.declared.kinds.EndState.TheVariants.{Draining}
use Rattle.channel_model.specs.Ends.{End, StackEntry, Packet, message}
use Rattle.channel_model.specs.Outputs.{Output, is_open}
use Rattle.channel_model.specs.Sends.{frames_of}
use Rattle.channel_model.specs.States.{IsAnswered}
use Rattle.channel_laws.proofs.Track.{Track, IsOnTrack}
use Rattle.channel_laws.specs.NestedWorlds.{EndsInLastPacket}
use Rattle.channel_laws.specs.OpenEnds.{EntryAgrees, ItemAgrees, PacketAgrees, NamingAgrees, IsOpenEnd}
use Rattle.channel_laws.specs.SyncCalls.{sync_packets, sync_calls}
use Rattle.channel_laws.specs.SyncStack.{Shows}
use Rattle.nesting_laws.specs.Calls.{SyncPacket, farewell, sync_end, SyncFrame}
use Rattle.nesting_laws.specs.Steps.{Step}

-- The end stays open and nothing happens with sync requests; or a step with them happens; or the end closes or dies,
-- which is the last that it sends; or it receives the last packet of the other end.
pub data SyncStep (schema : Schema) (e : End) (stack : List SyncFrame) (link rest : List Packet) (o : Output) : Type 0 where
  no_step : IsOpenEnd schema o.end stack → sync_calls o.end.arrived ≡ sync_calls e.arrived → sync_packets schema rest ≡ sync_packets schema link → sync_packets schema o.packets ≡ [] → AllByRecursion (PacketAgrees schema) o.packets → SyncStep schema e stack link rest o
  one_step : {new : List SyncFrame} → IsOpenEnd schema o.end new → Step e.side (sync_end stack (sync_calls e.arrived) (sync_packets schema link)) (sync_end new (sync_calls o.end.arrived) (sync_packets schema rest)) (sync_packets schema o.packets) → AllByRecursion (PacketAgrees schema) o.packets → SyncStep schema e stack link rest o
  ends : is_open o.end.state ≡ false → (o.end.state ≡ Draining → ⊥) → AllByRecursion IsAnswered (frames_of o.end) → EndsInLastPacket o.packets → sync_packets schema o.packets ≡ farewell ∷ [] → AllByRecursion (PacketAgrees schema) o.packets → SyncStep schema e stack link rest o
  drains : {following : List SyncPacket} → o.end.state ≡ Draining → AllByRecursion IsAnswered (frames_of o.end) → o.packets ≡ [] → sync_packets schema link ≡ farewell ∷ following → SyncStep schema e stack link rest o

abbrev pub track_of : End → Track
track_of e = record { side = e.side; stack = e.stack; arrived = e.arrived; sent = [] }

-- an end before it has sent anything, which is open as another end is
pub at-start : (schema : Schema) (e next : End) (stack : List SyncFrame) → next.state ≡ e.state → next.names ≡ e.names → next.outbox ≡ e.outbox → IsOpenEnd schema e stack → IsOnTrack schema (track_of next) next []
at-start schema e next stack s n o h = record {
  side_is = refl;
  state_is = s ∙ h.state;
  stack_is = refl;
  arrived_is = refl;
  sent_is = refl;
  agree = tt;
  named = subst (AllByRecursion (NamingAgrees schema)) (sym n) h.names;
  outbox_is = ap (λ (ms : List Message). sync_packets schema (map message ms)) o ∙ h.outbox;
  waiting = subst (λ (ms : List Message). AllByRecursion (PacketAgrees schema) (map message ms)) (sym o) h.waiting;
}

pub at-beginning : (schema : Schema) (e : End) (stack : List SyncFrame) → IsOpenEnd schema e stack → IsOnTrack schema (track_of e) e []
at-beginning schema e stack h = at-start schema e e stack refl refl refl h

pub at-open : (schema : Schema) (w : Track) (e : End) (packets : List Packet) (stack : List SyncFrame) → IsOnTrack schema w e packets → Shows w.side w.stack stack → AllByRecursion (EntryAgrees schema) w.stack → AllByRecursion (ItemAgrees schema) w.arrived → IsOpenEnd schema e stack
at-open schema w e packets stack h shows entries items = record {
  state = h.state_is;
  shows = subst (λ (side : Side). Shows side e.stack stack) (sym h.side_is) (subst (λ (s : List StackEntry). Shows w.side s stack) (sym h.stack_is) shows);
  entries = subst (AllByRecursion (EntryAgrees schema)) (sym h.stack_is) entries;
  arrived = subst (AllByRecursion (ItemAgrees schema)) (sym h.arrived_is) items;
  names = h.named;
  outbox = h.outbox_is;
  waiting = h.waiting;
}

-- a step that keeps its track
pub keeps-sync_step : (schema : Schema) (e : End) (stack : List SyncFrame) (link : List Packet) (o : Output) → IsOpenEnd schema e stack → IsOnTrack schema (track_of e) o.end o.packets → SyncStep schema e stack link link o
keeps-sync_step schema e stack link o h a =
    no_step (at-open schema (track_of e) o.end o.packets stack a h.shows h.entries h.arrived) (ap sync_calls a.arrived_is) refl a.sent_is a.agree

-- a step of sync requests that delivers nothing
pub track-steps : (schema : Schema) (e : End) (stack new : List SyncFrame) (link : List Packet) (w : Track) (o : Output) → IsOnTrack schema w o.end o.packets → Shows w.side w.stack new → AllByRecursion (EntryAgrees schema) w.stack → AllByRecursion (ItemAgrees schema) w.arrived
    → Step e.side (sync_end stack (sync_calls e.arrived) (sync_packets schema link)) (sync_end new (sync_calls w.arrived) (sync_packets schema link)) w.sent → SyncStep schema e stack link link o
track-steps schema e stack new link w o a shows entries items step =
    one_step (at-open schema w o.end o.packets new a shows entries items)
    (subst (λ (sent : List SyncPacket). Step e.side (sync_end stack (sync_calls e.arrived) (sync_packets schema link)) (sync_end new (sync_calls o.end.arrived) (sync_packets schema link)) sent) (sym a.sent_is)
    (subst (λ (items : List Item). Step e.side (sync_end stack (sync_calls e.arrived) (sync_packets schema link)) (sync_end new (sync_calls items) (sync_packets schema link)) w.sent) (sym a.arrived_is) step)) a.agree
