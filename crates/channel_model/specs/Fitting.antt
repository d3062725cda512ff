-- What an end keeps and sends fits the schema.
use Rattle.std.specs.Prelude.{◌≡◌, pos, Bool, true, false, List, [], ◌∷◌, Some, None}
use Rattle.std.specs.List.{AllByRecursion}
use Rattle.actor_tree.specs.declared.actor.Actor.{Actor}
use Rattle.ipdl_base.specs.declared.kinds.Level.{Level}
use Rattle.ipdl_base.specs.declared.message.Body.{Body}
use Rattle.ipdl_base.specs.declared.message.Message.{Message}
use Rattle.ipdl_base.specs.declared.schema.MessageRow.{MessageRow}
use Rattle.ipdl_base.specs.declared.schema.Schema.{Schema}
use Rattle.ipdl_base.specs.Sound.{message_of}
use Rattle.nesting_core.specs.declared.frame.Answer.{Answer}
use Rattle.nesting_core.specs.declared.frame.Answer.TheVariants as answer
use Rattle.nesting_core.specs.declared.frame.StackFrame.{StackFrame}
use Rattle.nesting_core.specs.declared.frame.StackFrame.TheVariants.{Dispatch, Wait}
use Rattle.nesting_core.specs.Frames.{head_of}
use Rattle.pending_queue.specs.declared.item.Item.{Item}
use Rattle.pending_queue.specs.declared.item.Item.TheVariants as item
use Rattle.value_types.specs.Fits.{IsLivingId, HasFields, GivesReturns, Fits}
use Rattle.channel_model.specs.Ends.{End, Packet, message, mark, Resolver, NameContent, actor, resolver, Naming, StackEntry, PromiseEntry}
use Rattle.channel_model.specs.Events.{Event}
use Rattle.channel_model.specs.Events as event
use Rattle.channel_model.specs.Numbers.{is_sync_row, makes_promise, request_row}
use Rattle.channel_model.specs.Outputs.{AnsweredRequest, resolver_answered, reply_to}
use Rattle.channel_model.specs.Refusals.{packet_refusal}
use Rattle.channel_model.specs.Returns.{dispatch_answered}
use Rattle.channel_model.specs.States.{is_goodbye}

-- A request of the row is kept: every answer to it has the fields of a message of the row.
pub record IsRequestKept (schema : Schema) (row : MessageRow) (q : AnsweredRequest) : Type 0 where
  pub found : request_row schema q.number ≡ Some row
  pub fields : (body : Body) → HasFields row (reply_to q body)

-- a message has the sync and the level of its row
abbrev pub HasRowOf : Schema → Message → Bool → Level → Type 0
HasRowOf schema m sync level = (row : MessageRow) × (message_of schema m.number ≡ Some row) × (sync ≡ is_sync_row row) × (level ≡ row.level)

-- what has arrived is a message that fits and has what its row requires, or a mark
abbrev pub FitsItem : Schema → Item → Type 0
FitsItem schema (item.Message m sync level) = Fits schema m × (is_goodbye m.body ≡ false → HasRowOf schema m sync level)
FitsItem schema item.Broken = Unit {0}

-- an answer with values has values of the row's returns
abbrev pub FitsAnswer : Schema → MessageRow → Answer → Type 0
FitsAnswer schema row (answer.Ok vs) = GivesReturns schema row vs
FitsAnswer schema row (answer.Fault reason) = Unit {0}

-- a wait is for the reply to a sync message, and its answer fits that message
abbrev pub FitsFrame : Schema → MessageRow → StackFrame → Type 0
FitsFrame schema row (Dispatch head) = Unit {0}
FitsFrame schema row (Wait head None) = is_sync_row row ≡ true
FitsFrame schema row (Wait head (Some a)) = (is_sync_row row ≡ true) × FitsAnswer schema row a

-- The request of a stack entry has a row, with the sync and level of the row, and a resolver only where it makes a
-- promise.
pub record FitsEntry (schema : Schema) (entry : StackEntry) : Type 0 where
  pub row : MessageRow
  pub request : IsRequestKept schema row (dispatch_answered entry)
  pub sync : (head_of entry.frame).sync ≡ is_sync_row row
  pub level : (head_of entry.frame).level ≡ row.level
  pub resolves : entry.resolves ≡ true → makes_promise row ≡ true
  pub frame : FitsFrame schema row entry.frame

-- what a promise keeps of its request
abbrev pub promise_answered : PromiseEntry → AnsweredRequest
promise_answered entry = record { seq = entry.promise.seq; route = entry.promise.actor; number = entry.number; transaction = pos 0 }

-- a request that makes a promise is kept
abbrev pub FitsPromised : Schema → AnsweredRequest → Type 0
FitsPromised schema q = (row : MessageRow) × IsRequestKept schema row q × (makes_promise row ≡ true)

-- a promise is for a request that makes one
abbrev pub FitsPromise : Schema → PromiseEntry → Type 0
FitsPromise schema entry = FitsPromised schema (promise_answered entry)

-- a resolver is for a request that makes a promise
abbrev pub FitsResolver : Schema → Resolver → Type 0
FitsResolver schema r = FitsPromised schema (resolver_answered r)

-- the content of a name is an actor, or a resolver that fits
abbrev pub FitsContent : Schema → NameContent → Type 0
FitsContent schema (actor id) = Unit {0}
FitsContent schema (resolver r) = FitsResolver schema r

-- the content of a naming fits
abbrev pub FitsNaming : Schema → Naming → Type 0
FitsNaming schema naming = FitsContent schema naming.holds

-- the id of an actor is one that a living actor may have
abbrev pub HasLivingId : Actor → Type 0
HasLivingId a = IsLivingId a.id

-- All that an end keeps fits the schema.
pub record IsFitting (schema : Schema) (e : End) : Type 0 where
  pub actors : AllByRecursion HasLivingId e.actors
  pub arrived : AllByRecursion (FitsItem schema) e.arrived
  pub stack : AllByRecursion (FitsEntry schema) e.stack
  pub promises : AllByRecursion (FitsPromise schema) e.promises
  pub names : AllByRecursion (FitsNaming schema) e.names
  pub outbox : AllByRecursion (Fits schema) e.outbox

-- a packet is a message that fits, or a mark
abbrev pub FitsPacket : Schema → Packet → Type 0
FitsPacket schema (message m) = Fits schema m
FitsPacket schema mark = Unit {0}

-- what is delivered, if anything, fits and is not refused
abbrev pub IsFittingDelivery : Schema → End → List Packet → Event → Type 0
IsFittingDelivery schema e [] event = Unit {0}
IsFittingDelivery schema e (packet ∷ rest) event.deliver = FitsPacket schema packet × (packet_refusal schema e packet ≡ None)
IsFittingDelivery schema e (packet ∷ rest) _ = Unit {0}
