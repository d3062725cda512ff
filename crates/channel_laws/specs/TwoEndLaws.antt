-- What holds of the two ends of every run: each id has one protocol, requests come in order, no packet that comes is
-- refused, and histories obey the law of the living.
use Rattle.std.specs.Prelude.{◌≡◌, ℕ, List, ◌∷◌, None}
use Rattle.actor_tree.specs.Tree.{lives}
use Rattle.ipdl_base.specs.declared.kinds.EndState.TheVariants.{Open}
use Rattle.ipdl_base.specs.declared.kinds.Side.{Side}
use Rattle.ipdl_base.specs.declared.schema.Schema.{Schema}
use Rattle.ipdl_base.specs.Sound.{IsSound}
use Rattle.history_reading.specs.declared.law.Law.TheVariants as law
use Rattle.history_reading.specs.Holds.{Holds}
use Rattle.channel_model.specs.Ends.{End, Packet, end_of, link_to}
use Rattle.channel_model.specs.Events.{Move}
use Rattle.channel_model.specs.Refusals.{packet_refusal}
use Rattle.channel_model.specs.Runs.{history_of}
use Rattle.channel_model.specs.ValueActors.{ActorValue, lives_as}
use Rattle.channel_laws.specs.FittingWorlds.{IsFittingWorld, IsShort}
use Rattle.channel_laws.specs.Laws.{world_of}
use Rattle.channel_laws.specs.Protocols.{Protocols, HasItsProtocol, HasProtocols, WorldHasProtocols}
use Rattle.channel_laws.specs.RequestOrder.{WorldInOrder}

-- In every run each id has one protocol, which all that the ends keep and send uses for it.
abbrev pub ProtocolsInEveryRun : Type 0
ProtocolsInEveryRun = (schema : Schema) → IsSound schema → (top : ℕ) (moves : List Move) → WorldHasProtocols schema top (world_of schema top moves)

-- So an actor that has the protocol of its type lives as one of that protocol if it lives at all.
abbrev pub TypesTellWhoLives : Type 0
TypesTellWhoLives =
    (schema : Schema) (made : Protocols) (e : End) → HasProtocols schema made e → (a : ActorValue) → HasItsProtocol made a → lives_as e.actors a.protocol a.id ≡ lives a.id e.actors

-- In every run the requests that come to an open end have the next numbers of the other end: those on the link and in
-- the outbox continue those that were delivered, up to all that it has sent. The same holds for the ids of
-- constructors.
abbrev pub RequestsComeInOrder : Type 0
RequestsComeInOrder = (schema : Schema) → IsSound schema → (top : ℕ) (moves : List Move) → WorldInOrder schema (world_of schema top moves)

-- Every legal history obeys the law of the living.
abbrev pub HistoriesObeyLiving : Type 0
HistoriesObeyLiving = (schema : Schema) → IsSound schema → (top : ℕ) (moves : List Move) → Holds law.Living schema (history_of schema top moves)

-- An end of a channel does not refuse what the other end sends: in every run an open end accepts the first packet
-- that comes to it.
abbrev pub HonestPacketsAreAccepted : Type 0
HonestPacketsAreAccepted =
    (schema : Schema) → IsSound schema → (top : ℕ) (moves : List Move) (side : Side) (packet : Packet) (rest : List Packet)
    → (end_of side (world_of schema top moves)).state ≡ Open → link_to side (world_of schema top moves) ≡ packet ∷ rest → packet_refusal schema (end_of side (world_of schema top moves)) packet ≡ None

-- As long as each end has sent less than 2^28 requests, what the ends keep and what is on the links fits the schema.
-- So an open end receives only what fits and what it does not refuse.
abbrev pub WorldsFitInRuns : Type 0
WorldsFitInRuns = (schema : Schema) → IsSound schema → (top : ℕ) (moves : List Move) → IsShort (world_of schema top moves) → IsFittingWorld schema (world_of schema top moves)
