-- Which packets are the last of an end.
use Rattle.std.proofs.Common.{◌≡◌, Bool, false, List, [], ◌∷◌, ◌++◌, drop, refl, sym, subst}
use Rattle.std.specs.List.{AllByRecursion}
use Rattle.ipdl_base.specs.declared.kinds.Level.{Level}
use Rattle.ipdl_base.specs.declared.message.Body.{Body}
use Rattle.ipdl_base.specs.declared.message.Body.TheVariants.{Request, Reply, Fault, Goodbye}
use Rattle.ipdl_base.specs.declared.message.Message.{Message}
use Rattle.ipdl_base.specs.declared.schema.Schema.{Schema}
use Rattle.channel_model.specs.Ends.{Packet, message, mark}
use Rattle.channel_model.specs.States.{is_goodbye}
use Rattle.channel_model.proofs.Known.{all-before, all-following}
use Rattle.channel_laws.specs.NestedWorlds.{is_last_packet, HasNoLastPacket, EndsInLastPacket, last_alone, last_later}
use Rattle.channel_laws.specs.SyncCalls.{is_sync_number, level_of, sync_body, sync_packet, sync_packets}
use Rattle.nesting_laws.specs.Calls.{IsNoFarewell}

body-goes_on : (sync : Bool) (level : Level) (m : Message) (body : Body) → AllByRecursion IsNoFarewell (sync_body sync level m body) → is_goodbye body ≡ false
body-goes_on sync level m (Request vs) h = refl
body-goes_on sync level m (Reply vs) h = refl
body-goes_on sync level m (Fault why) h = refl
body-goes_on sync level m Goodbye h = absurd h.0

packet-goes_on : (schema : Schema) (packet : Packet) → AllByRecursion IsNoFarewell (sync_packet schema packet) → is_last_packet packet ≡ false
packet-goes_on schema (message m) h = body-goes_on (is_sync_number schema m.number) (level_of schema m.number) m m.body h
packet-goes_on schema mark h = absurd h.0

pub link-goes_on : (schema : Schema) (link : List Packet) → AllByRecursion IsNoFarewell (sync_packets schema link) → HasNoLastPacket link
link-goes_on schema [] h = tt
link-goes_on schema (packet ∷ link) h =
    (packet-goes_on schema packet (all-before IsNoFarewell (sync_packet schema packet) (sync_packets schema link) h), link-goes_on schema link (all-following IsNoFarewell (sync_packet schema packet) (sync_packets schema link) h))

pub empty-goes_on : (schema : Schema) (link : List Packet) → sync_packets schema link ≡ [] → HasNoLastPacket link
empty-goes_on schema link e = link-goes_on schema link (subst (AllByRecursion IsNoFarewell) (sym e) tt)

pub ends-following : (front back : List Packet) → HasNoLastPacket front → EndsInLastPacket back → EndsInLastPacket (front ++ back)
ends-following [] back h e = e
ends-following (p ∷ front) back h e = last_later h.0 (ends-following front back h.1 e)

-- a link that ends in a last packet, after a delivery that leaves something
pub ends-left : (link : List Packet) → (drop 1 link ≡ [] → ⊥) → EndsInLastPacket link → EndsInLastPacket (drop 1 link)
ends-left [] h e = elim e [ ]
ends-left (p ∷ rest) h (last_alone l) = absurd (h refl)
ends-left (p ∷ rest) h (last_later l e) = e
