-- What is known of replies that have arrived, and of the replies that an end sends.
use Rattle.std.specs.Prelude.{List}
use Rattle.std.specs.List.{AllByRecursion}
use Rattle.ipdl_base.specs.declared.kinds.Reason.TheVariants.{ChannelClosed, HandlerRejected, ActorDestroyed, ResolverDestroyed}
use Rattle.ipdl_base.specs.declared.schema.Schema.{Schema}
use Rattle.pending_queue.specs.declared.item.Item.{Item}
use Rattle.pending_queue.specs.declared.item.Item.TheVariants as item
use Rattle.channel_model.specs.Ends.{End}
use Rattle.history_reading.specs.EndReading.{EndReading}
use Rattle.history_reading.specs.SentPacket.{SentPacket, ReplyContent, request, said, goodbye, broken, resolved, rejected, ok, fault}
use Rattle.channel_laws.specs.Notes.{Note, told_notes}
use Rattle.channel_laws.specs.Origins.{BodyReplies}

-- a reply that has arrived is to a request that was sent
abbrev pub ItemReplies : Schema → List Note → Item → Type 0
ItemReplies schema sent (item.Message m sync level) = BodyReplies schema sent m m.body
ItemReplies schema sent item.Broken = Unit {0}

-- no end replies that the channel has closed: it sends a goodbye or a mark for that
abbrev pub IsNoClosedFault : ReplyContent → Type 0
IsNoClosedFault (resolved vs) = Unit {0}
IsNoClosedFault rejected = Unit {0}
IsNoClosedFault (ok vs) = Unit {0}
IsNoClosedFault (fault ChannelClosed) = ⊥
IsNoClosedFault (fault HandlerRejected) = Unit {0}
IsNoClosedFault (fault ActorDestroyed) = Unit {0}
IsNoClosedFault (fault ResolverDestroyed) = Unit {0}

abbrev pub SaysNoClosedFault : SentPacket → Type 0
SaysNoClosedFault (request r) = Unit {0}
SaysNoClosedFault (said n content) = IsNoClosedFault content
SaysNoClosedFault goodbye = Unit {0}
SaysNoClosedFault broken = Unit {0}

-- What an end reads of replies: those that have arrived are to requests that it has sent, and no reply that it has
-- sent says that the channel has closed.
pub record ReadsReplies (schema : Schema) (e : End) (own : EndReading) : Type 0 where
  pub arrived : AllByRecursion (ItemReplies schema (told_notes e.side own.sent)) e.arrived
  pub said_by : AllByRecursion SaysNoClosedFault own.sent
