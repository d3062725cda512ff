-- What lines show of deliveries, and what packets and arrived items show.
use Rattle.std.specs.Prelude.{ℤ, List, [], ◌∷◌}
use Rattle.std.specs.List.{flat_map}
use Rattle.ipdl_base.specs.declared.line.What.{What}
use Rattle.ipdl_base.specs.declared.line.What.TheVariants as what
use Rattle.ipdl_base.specs.declared.message.Body.{Body}
use Rattle.ipdl_base.specs.declared.message.Body.TheVariants.{Request, Reply, Fault, Goodbye}
use Rattle.history_reading.specs.declared.parts.PacketKind.{PacketKind}
use Rattle.history_reading.specs.declared.parts.PacketKind.TheVariants as seen
use Rattle.channel_model.specs.Ends.{Packet, message, mark}

abbrev pub body_kind : ℤ → Body → PacketKind
body_kind seq (Request vs) = seen.Request seq
body_kind seq (Reply vs) = seen.Reply seq
body_kind seq (Fault r) = seen.Reply seq
body_kind seq Goodbye = seen.Goodbye

-- what the delivery of a packet on a link shows of it
abbrev pub delivered_kind : Packet → PacketKind
delivered_kind (message m) = body_kind m.seq m.body
delivered_kind mark = seen.Broken

-- what was delivered, by a line
abbrev pub delivered_by : What → List PacketKind
delivered_by (what.DeliverRequest n) = seen.Request n ∷ []
delivered_by (what.DeliverReply n) = seen.Reply n ∷ []
delivered_by what.DeliverGoodbye = seen.Goodbye ∷ []
delivered_by what.DeliverBroken = seen.Broken ∷ []
delivered_by _ = []

abbrev pub delivered_by_lines : List What → List PacketKind
delivered_by_lines whats = flat_map delivered_by whats
