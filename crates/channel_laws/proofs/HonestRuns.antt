-- In every run an open end does not refuse what comes to it.
use Rattle.std.proofs.Common.{◌≡◌, ℕ, List, ◌∷◌, Some, refl, sym, ap, subst, ◌∙◌}
use Rattle.std.specs.List.{AllByRecursion}
use Rattle.ipdl_base.specs.declared.kinds.Side.{Side}
use Rattle.ipdl_base.specs.declared.kinds.Side.TheVariants.{Parent, Child}
use Rattle.ipdl_base.specs.declared.schema.Schema.{Schema}
use Rattle.history_reading.specs.Reading.{Reading, end_reading_of, other_of, read}
use Rattle.channel_model.specs.Ends.{End, World, Packet, end_of, link_to}
use Rattle.ipdl_base.specs.Sides.{other}
use Rattle.channel_model.specs.Outputs.{is_open}
use Rattle.channel_model.specs.Runs.{history_of}
use Rattle.channel_model.specs.Steps.{first_packet}
use Rattle.channel_laws.specs.TwoEndLaws.{HonestPacketsAreAccepted}
use Rattle.channel_laws.specs.Exchanges.{ReadsExchanges}
use Rattle.channel_laws.specs.Laws.{world_of}
use Rattle.channel_laws.specs.NestedWorlds.{IsNestedWorld}
use Rattle.channel_laws.specs.NotedArrivals.{IsNoted}
use Rattle.channel_laws.specs.Notes.{told_notes}
use Rattle.channel_laws.specs.Origins.{PacketReplies}
use Rattle.channel_laws.specs.Protocols.{HasProtocols, PacketHasProtocols, WorldHasProtocols}
use Rattle.channel_laws.specs.RequestOrder.{IsNextRequest, WorldInOrder}
use Rattle.channel_laws.specs.TwoEnds.{TwoEnds, ReadingIs}
use Rattle.channel_laws.proofs.ComingRequests.{coming-request}
use Rattle.channel_laws.proofs.EveryRun.{end-side, nesting_in_every_run}
use Rattle.channel_laws.proofs.Exchanges.{opening-exchanges}
use Rattle.channel_laws.proofs.HonestPackets.{comes-accepted}
use Rattle.channel_laws.proofs.Moves.{flip}
use Rattle.channel_laws.proofs.OrderRuns.{requests_come_in_order}
use Rattle.channel_laws.proofs.ProtocolRuns.{protocols_in_every_run}
use Rattle.channel_laws.proofs.Reached.{noted-reached}
use Rattle.channel_laws.proofs.Replies.{sync_replies_are_not_stray}
use Rattle.channel_laws.proofs.Runs.{IsReached, at-ends, across-ends, every-run}
use Rattle.channel_laws.proofs.Taken.{ReadExchanges, exchanges-keep}
use Rattle.channel_laws.specs.Taken.{there_line}
use Rattle.channel_laws.specs.Tested.{test_at}

side-protocols : (schema : Schema) (top : ℕ) (side : Side) (w : World) (packet : Packet) (rest : List Packet) (h : WorldHasProtocols schema top w) → link_to side w ≡ packet ∷ rest → HasProtocols schema h.made (end_of side w) × PacketHasProtocols schema h.made packet
side-protocols schema top Parent w packet rest h link = (h.keeps, (subst (AllByRecursion (PacketHasProtocols schema h.made)) link h.comes).0)
side-protocols schema top Child w packet rest h link = (h.their_keeps, (subst (AllByRecursion (PacketHasProtocols schema h.made)) link h.goes).0)

side-ends : (schema : Schema) (side : Side) (w : World) (r : Reading) → ReadingIs schema w r → TwoEnds schema (end_of side w) (end_of (other side) w) (end_reading_of side r) (other_of side r) (link_to side w) (link_to (other side) w)
side-ends schema Parent w r h = h.ends
side-ends schema Child w r h = flip h.ends

pub honest_packets_are_accepted : HonestPacketsAreAccepted
honest_packets_are_accepted schema sound top moves side packet rest opened link =
    let w : World = world_of schema top moves in
    let r : Reading = read schema (history_of schema top moves) in
    let reached : IsReached schema w r = record { top = top; front = moves; world = refl; reading = refl } in
    let nested : IsNestedWorld schema w = nesting_in_every_run schema sound top moves in
    let order : WorldInOrder schema w = requests_come_in_order schema sound top moves in
    let protocols : WorldHasProtocols schema top w = protocols_in_every_run schema sound top moves in
    let run = every-run schema sound (ReadExchanges schema sound) (test_at there_line) (exchanges-keep schema sound) top moves (opening-exchanges schema top Parent, opening-exchanges schema top Child) in
    let exchanges = at-ends schema (ReadsExchanges schema) side w r run.kept in
    let noted = across-ends schema (IsNoted schema) side w r (noted-reached schema sound w r reached) in
    let ends = side-ends schema side w r run.reads in
    let of_packet = side-protocols schema top side w packet rest protocols link in
    let e : End = end_of side w in
    let is : e.side ≡ side = end-side schema side w nested in
    let first : first_packet (link_to side w) ≡ Some packet = ap first_packet link in
    comes-accepted schema sound protocols.made e (end_reading_of side r) packet (record {
      keeps = of_packet.0;
      protocols = of_packet.1;
      next = λ m vs packet_is body. subst (λ (s : Side). IsNextRequest schema (other s) m e.delivered e.constructors_delivered) (sym is)
          (coming-request schema side w order m vs (first ∙ ap (λ (p : Packet). Some p) packet_is) body (ap is_open opened));
      waited = λ m packet_is reply sync. sync_replies_are_not_stray schema sound top moves side m rest opened (link ∙ ap (λ (p : Packet). p ∷ rest) packet_is) reply sync;
      replies = (subst (AllByRecursion (PacketReplies schema (told_notes e.side (end_reading_of side r).sent))) link ends.replies).0;
      wants = noted.0.wants;
      promises = exchanges.0.promises;
    })
