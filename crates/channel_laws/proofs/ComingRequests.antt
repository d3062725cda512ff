-- In every run the request that comes first to an open end is the next of the other end.
use Rattle.std.proofs.Common.{◌≡◌, true, List, ◌∷◌, drop, Some, subst}
use Rattle.ipdl_base.specs.declared.kinds.Side.{Side}
use Rattle.ipdl_base.specs.declared.kinds.Side.TheVariants.{Parent, Child}
use Rattle.ipdl_base.specs.declared.message.Body.{Body}
use Rattle.ipdl_base.specs.declared.message.Body.TheVariants.{Request}
use Rattle.ipdl_base.specs.declared.message.Message.{Message}
use Rattle.ipdl_base.specs.declared.schema.Schema.{Schema}
use Rattle.ipdl_base.specs.declared.value.Values.{Values}
use Rattle.ipdl_base.specs.Sound.{IsSound}
use Rattle.history_reading.specs.Reading.{Reading}
use Rattle.channel_model.specs.Ends.{End, World, Packet, message, end_of, link_to}
use Rattle.ipdl_base.specs.Sides.{other}
use Rattle.channel_model.specs.Outputs.{is_open}
use Rattle.channel_model.specs.Steps.{first_packet}
use Rattle.channel_laws.specs.RequestOrder.{IsNextRequest, BodyInOrder, InOrder, on_way, ComesInOrder, WorldInOrder}
use Rattle.channel_laws.proofs.OrderRuns.{requests_come_in_order}
use Rattle.channel_laws.proofs.TwoEnds.{first-is}
use Rattle.channel_laws.proofs.Runs.{IsReached}

pub comes-at : (schema : Schema) (side : Side) (w : World) → WorldInOrder schema w → ComesInOrder schema (other side) (end_of side w) (end_of (other side) w) (link_to side w)
comes-at schema Parent w h = h.comes
comes-at schema Child w h = h.goes

-- a world that moves have led to is in order
pub reached-in-order : (schema : Schema) → IsSound schema → (w : World) (r : Reading) → IsReached schema w r → WorldInOrder schema w
reached-in-order schema sound w r h = subst (WorldInOrder schema) h.world (requests_come_in_order schema sound h.top h.front)

module _ (schema : Schema) (side : Side) (w : World) (order : WorldInOrder schema w) where
  pub coming-request : (m : Message) (vs : Values) → first_packet (link_to side w) ≡ Some (message m) → m.body ≡ Request vs → is_open (end_of side w).state ≡ true → IsNextRequest schema (other side) m (end_of side w).delivered (end_of side w).constructors_delivered
  coming-request m vs first body o =
      let e : End = end_of side w in
      let theirs : End = end_of (other side) w in
      let rest : List Packet = on_way theirs (drop 1 (link_to side w)) in
      let h : InOrder schema (other side) (message m ∷ rest) theirs.sent theirs.constructors_sent e.delivered e.constructors_delivered =
      subst (λ (l : List Packet). InOrder schema (other side) (on_way theirs l) theirs.sent theirs.constructors_sent e.delivered e.constructors_delivered) (first-is (link_to side w) (message m) first) (comes-at schema side w order o)
      in
      (subst (λ (b : Body). BodyInOrder schema (other side) m b (InOrder schema (other side) rest theirs.sent theirs.constructors_sent) e.delivered e.constructors_delivered) body h).0
