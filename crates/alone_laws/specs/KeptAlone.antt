-- What a run of one end keeps, with its lines and the packets that were delivered to it.
use Rattle.std.specs.Prelude.{◌≡◌, ℕ, true, List, map}
use Rattle.std.specs.List.{AllByRecursion}
use Rattle.actor_tree.specs.declared.actor.Actor.{Actor}
use Rattle.ipdl_base.specs.declared.kinds.Side.{Side}
use Rattle.ipdl_base.specs.declared.line.Line.{Line}
use Rattle.ipdl_base.specs.declared.line.What.{What}
use Rattle.ipdl_base.specs.declared.schema.Schema.{Schema}
use Rattle.channel_model.specs.Ends.{End, Packet}
use Rattle.channel_model.specs.Fitting.{FitsPacket}
use Rattle.channel_model.specs.States.{IsSettled}
use Rattle.history_reading.specs.EndReading.{EndReading, opening}
use Rattle.history_reading.specs.Reading.{end_reading_of, other_of, read}
use Rattle.channel_laws.specs.Delivered.{delivered_kind}
use Rattle.channel_laws.specs.EndActors.{ReadsActors}
use Rattle.channel_laws.specs.Exchanges.{ReadsExchanges}
use Rattle.channel_laws.specs.Notes.{Note, In, notes, told_notes}
use Rattle.channel_laws.specs.Origins.{HasOrigins}
use Rattle.channel_laws.specs.Outlines.{HasOutline, outline}
use Rattle.channel_laws.specs.Replies.{ReadsReplies}
use Rattle.channel_laws.specs.SentAccounts.{EndAccount}
use Rattle.law_statements.specs.Said.{said_by}
use Rattle.alone_laws.specs.KeptReplies.{KeepsReplies}
use Rattle.alone_laws.specs.Received.{actors_built}

-- an actor of this id was built with this protocol
abbrev pub WasBuilt : ℕ → List What → Actor → Type 0
WasBuilt top said a = (b : Actor) × In b (actors_built top said) × (b.id ≡ a.id) × (b.protocol ≡ a.protocol)

-- What an end keeps with what is read of its lines: all that is known of one end whatever comes, if these packets
-- have come.
pub record KeepsRead (schema : Schema) (packets : List Packet) (e : End) (own : EndReading) : Type 0 where
  pub actors : ReadsActors schema e own
  pub exchanges : ReadsExchanges schema e own
  pub outlined : HasOutline e (outline own)
  pub origins : HasOrigins schema (notes schema packets) e
  pub left : List Note
  pub account : EndAccount schema e own left
  pub replied : ReadsReplies schema e own
  pub over : own.over ≡ true → AllByRecursion IsSettled e.promises
  pub replies : KeepsReplies e packets own.failed (told_notes e.side own.sent)
  pub delivered : own.delivered ≡ map delivered_kind packets
  pub fits : AllByRecursion (FitsPacket schema) packets

-- What an end keeps with its lines: nothing is read of the other side, and each living actor was built with its
-- protocol.
pub record KeepsAlone (schema : Schema) (top : ℕ) (side : Side) (e : End) (lines : List Line) (packets : List Packet) : Type 0 where
  pub side_is : e.side ≡ side
  pub read_is : KeepsRead schema packets e (end_reading_of side (read schema lines))
  pub others : other_of side (read schema lines) ≡ opening
  pub built : AllByRecursion (WasBuilt top (said_by side lines)) e.actors
