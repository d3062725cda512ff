-- A line that shows that a packet is taken begins a take of an item that shows this packet.
use Rattle.std.proofs.Common.{◌≡◌, ℕ, false, IsTrue, List, ◌∷◌, ◌++◌, map, Some, refl, sym, ap, subst, ◌∙◌}
use Rattle.ipdl_base.specs.declared.kinds.Side.{Side}
use Rattle.ipdl_base.specs.declared.line.Line.{Line}
use Rattle.ipdl_base.specs.declared.line.What.{What}
use Rattle.ipdl_base.specs.declared.line.What.TheVariants as what
use Rattle.ipdl_base.specs.declared.message.Body.{Body}
use Rattle.ipdl_base.specs.declared.message.Body.TheVariants.{Request, Reply, Fault, Goodbye}
use Rattle.ipdl_base.specs.declared.schema.Schema.{Schema}
use Rattle.ipdl_base.specs.Lines.{is_effect}
use Rattle.ipdl_base.specs.Sound.{IsSound}
use Rattle.pending_queue.specs.declared.item.Item.{Item}
use Rattle.pending_queue.specs.declared.item.Item.TheVariants as item
use Rattle.pending_queue.specs.DeferralContext.{arrival_of, arrival_of_body}
use Rattle.history_reading.specs.declared.parts.PacketKind.{PacketKind}
use Rattle.history_reading.specs.declared.parts.PacketKind.TheVariants as seen
use Rattle.channel_model.specs.Ends.{World, end_of, link_to}
use Rattle.channel_model.specs.Events.{Event, Move}
use Rattle.channel_model.specs.Events as event
use Rattle.channel_model.specs.Outputs.{Output}
use Rattle.channel_model.specs.Runs.{history_of}
use Rattle.channel_model.specs.Steps.{step}
use Rattle.channel_laws.specs.Arrivals.{item_kind}
use Rattle.channel_laws.specs.Delivered.{body_kind}
use Rattle.channel_laws.specs.Laws.{world_of}
use Rattle.law_statements.specs.Said.{line_of}
use Rattle.order_laws.specs.Order.{IsShut, IsTakeOf, IsTakeOfBody}
use Rattle.order_statements.specs.Order.{is_shut, packet_taken}
use Rattle.order_statements.proofs.FirstLines.{IsLineOf, line-of-event}
use Rattle.order_statements.proofs.Overtaking.{IsNoFarewell}
use Rattle.order_statements.proofs.Places.{EventIn, MoveAt, event-at}

-- Lines

-- a line that takes a packet is an event
taking-event : (w : What) (packet : PacketKind) → packet_taken w ≡ Some packet → is_effect w ≡ false
taking-event (what.Take n route number values) packet e = refl
taking-event (what.Drop n route number id) packet e = refl
taking-event (what.TakeReply n) packet e = refl
taking-event what.ShutNormal packet e = refl
taking-event what.ShutAbnormal packet e = refl
taking-event _ packet e = cc

-- and that event is a take
event-takes : (w : What) (packet : PacketKind) (ev : Event) → packet_taken w ≡ Some packet → IsLineOf ev w → ev ≡ event.take
event-takes (what.Take n route number values) packet event.take e h = refl
event-takes (what.Take n route number values) packet _ e h = absurd h
event-takes (what.Drop n route number id) packet event.take e h = refl
event-takes (what.Drop n route number id) packet _ e h = absurd h
event-takes (what.TakeReply n) packet event.take e h = refl
event-takes (what.TakeReply n) packet _ e h = absurd h
event-takes what.ShutNormal packet event.take e h = refl
event-takes what.ShutNormal packet _ e h = absurd h
event-takes what.ShutAbnormal packet event.take e h = refl
event-takes what.ShutAbnormal packet _ e h = absurd h
event-takes _ packet ev e h = cc

pub shut-is : (w : What) → IsTrue (is_shut w) → IsShut w
shut-is what.ShutNormal s = tt
shut-is what.ShutAbnormal s = tt
shut-is _ s = cc

-- Items

-- the item that a line takes shows the packet that it takes
pub taken-shows : (x : Item) (w : What) (packet : PacketKind) → IsTakeOf x w → packet_taken w ≡ Some packet → item_kind x ≡ packet
taken-shows item.Broken what.ShutAbnormal packet h e = cc
taken-shows item.Broken _ packet h e = absurd h
taken-shows (item.Message m sync level) w packet h e = by m.body w h e
  where
    by : (body : Body) (w : What) → IsTakeOfBody m body w → packet_taken w ≡ Some packet → body_kind m.seq body ≡ packet
    by (Request vs) (what.Take n route number values) h e = let same : seen.Request n ≡ packet = cc e in ap seen.Request (sym h.0) ∙ same
    by (Request vs) (what.Drop n route number id) h e = let same : seen.Request n ≡ packet = cc e in ap seen.Request (sym h.0) ∙ same
    by (Request vs) _ h e = absurd h
    by (Reply vs) (what.TakeReply n) h e = let same : seen.Reply n ≡ packet = cc e in ap seen.Reply (sym h) ∙ same
    by (Reply vs) _ h e = absurd h
    by (Fault reason) (what.TakeReply n) h e = let same : seen.Reply n ≡ packet = cc e in ap seen.Reply (sym h) ∙ same
    by (Fault reason) _ h e = absurd h
    by Goodbye what.ShutNormal h e = cc e
    by Goodbye _ h e = absurd h

-- and the item is no farewell if the end does not shut
pub taken-stays : (x : Item) (w : What) → IsTakeOf x w → is_shut w ≡ false → IsNoFarewell (arrival_of x)
taken-stays item.Broken what.ShutAbnormal h s = cc
taken-stays item.Broken _ h s = absurd h
taken-stays (item.Message m sync level) w h s = by m.body w h s
  where
    by : (body : Body) (w : What) → IsTakeOfBody m body w → is_shut w ≡ false → IsNoFarewell (arrival_of_body sync level m.transaction body)
    by (Request vs) w h s = tt
    by (Reply vs) w h s = tt
    by (Fault reason) w h s = tt
    by Goodbye what.ShutNormal h s = cc s
    by Goodbye _ h s = absurd h

-- Places

-- A take of an end after the lines of some moves, which this line begins.
pub record TakenAfter (schema : Schema) (top : ℕ) (end : Side) (w : What) (before : List Line) : Type 0 where
  pub moves : List Move
  pub before_is : before ≡ history_of schema top moves
  pub output : Output
  pub made : step schema (end_of end (world_of schema top moves)) (link_to end (world_of schema top moves)) event.take ≡ Some output
  pub effects : List What
  pub lines : output.lines ≡ map (line_of end) (w ∷ effects)

pub taken-after : (schema : Schema) → IsSound schema → (top : ℕ) (moves : List Move) (end : Side) (w : What) (packet : PacketKind) (before following : List Line) → history_of schema top moves ≡ before ++ line_of end w ∷ following → packet_taken w ≡ Some packet → TakenAfter schema top end w before
taken-after schema sound top moves end w packet before following e is = by (event-at schema sound top moves end w before following (taking-event w packet is) e)
  where
    by : EventIn (MoveAt schema top moves end) end w before following → TakenAfter schema top end w before
    by at =
        let m : MoveAt schema top moves end before at.output = at.by in
        let world : World = world_of schema top m.front in
        let takes : m.move.event ≡ event.take = event-takes w packet m.move.event is (line-of-event schema (end_of m.move.side world) (link_to m.move.side world) m.move.event at.output end w at.effects m.made at.lines) in
        record {
          moves = m.front;
          before_is = m.start_is;
          output = at.output;
          made = subst (λ (s : Side). step schema (end_of s world) (link_to s world) event.take ≡ Some at.output) m.side_is
              (subst (λ (ev : Event). step schema (end_of m.move.side world) (link_to m.move.side world) ev ≡ Some at.output) takes m.made);
          effects = at.effects;
          lines = at.lines;
        }
