-- Which messages a channel may carry under a schema.
use Rattle.std.specs.Prelude.{◌≡◌, ◌≢◌, ◌+◌, ℤ, pos, negsuc, ◌≤ℤ◌, IsTrue, List, [], ◌∷◌, ◌++◌, Some, unwrap_or}
use Rattle.std.specs.List.{All}
use Rattle.ipdl_base.specs.declared.kinds.Reason.{Reason}
use Rattle.ipdl_base.specs.declared.kinds.Reason.TheVariants.{ChannelClosed, HandlerRejected, ActorDestroyed, ResolverDestroyed}
use Rattle.ipdl_base.specs.declared.kinds.Semantics.{Semantics}
use Rattle.ipdl_base.specs.declared.kinds.Semantics.TheVariants.{Async, Sync}
use Rattle.ipdl_base.specs.declared.message.Body.{Body}
use Rattle.ipdl_base.specs.declared.message.Body.TheVariants.{Request, Reply, Fault, Goodbye}
use Rattle.ipdl_base.specs.declared.message.Message.{Message}
use Rattle.ipdl_base.specs.declared.schema.Kind.{Kind}
use Rattle.ipdl_base.specs.declared.schema.Kind.TheVariants.{Normal, Constructor, Delete}
use Rattle.ipdl_base.specs.declared.schema.MessageRow.{MessageRow}
use Rattle.ipdl_base.specs.declared.schema.Schema.{Schema}
use Rattle.ipdl_base.specs.declared.value.Value.{Value, Union', Maybe', Held-Value-Maybe-0, None', Some'}
use Rattle.ipdl_base.specs.declared.value.Value.TheVariants as value
use Rattle.ipdl_base.specs.declared.value.Values.{Values, First'}
use Rattle.ipdl_base.specs.declared.value.Values.TheVariants as values
use Rattle.ipdl_base.specs.Sound.{has_reply, message_of}
use Rattle.ipdl_base.specs.Sides.{goodbye_number}
use Rattle.value_types.specs.HasType.{HaveTypes}

-- the ids of the actors in a value, in their order there
abbrev mutual
  pub actor_ids : Value → List ℤ
  actor_ids (value.Bool b) = []
  actor_ids (value.Int n) = []
  actor_ids (value.Text text) = []
  actor_ids (value.Bytes bytes) = []
  actor_ids (value.Bits bits) = []
  actor_ids (value.Struct vs) = all_actor_ids vs
  actor_ids (Union' _ _ v) = actor_ids v
  actor_ids (value.Array vs) = all_actor_ids vs
  actor_ids (Maybe' held) = held_actor_ids held
  actor_ids (value.Actor id) = id ∷ []

  pub held_actor_ids : Held-Value-Maybe-0 → List ℤ
  held_actor_ids None' = []
  held_actor_ids (Some' _ v) = actor_ids v

  pub all_actor_ids : Values → List ℤ
  all_actor_ids values.Nothing = []
  all_actor_ids (First' _ v _ vs) = actor_ids v ++ all_actor_ids vs

-- a number is in the range of a field of a frame
abbrev pub IsFieldNumber : ℤ → Type 0
IsFieldNumber n = (negsuc 2147483647 ≤ℤ n) × (n ≤ℤ pos 2147483647)

-- a number is positive and in that range
abbrev pub IsLivingId : ℤ → Type 0
IsLivingId id = (pos 1 ≤ℤ id) × (id ≤ℤ pos 2147483647)

-- an id that a frame carries: that of an actor, or 0
abbrev pub IsCarriedId : ℤ → Type 0
IsCarriedId id = (pos 0 ≤ℤ id) × (id ≤ℤ pos 2147483647)

-- a sync message has a transaction, an async message has none
abbrev pub IsTransactionOf : Semantics → ℤ → Type 0
IsTransactionOf Sync transaction = (transaction ≢ pos 0) × IsFieldNumber transaction
IsTransactionOf Async transaction = transaction ≡ pos 0

-- a constructor's request has the id of the actor that it makes, any other request has 0
abbrev pub IsMadeBy : Kind → ℤ → Type 0
IsMadeBy (Constructor p) made = IsLivingId made
IsMadeBy Normal made = made ≡ pos 0
IsMadeBy Delete made = made ≡ pos 0

-- A reason that a reply may give: a handler rejected the request, its actor fell, or, for an async message, its
-- resolver was destroyed. No message gives the reason that the channel closed.
abbrev pub IsFaultOf : Semantics → Reason → Type 0
IsFaultOf semantics ChannelClosed = ⊥
IsFaultOf semantics HandlerRejected = Unit {0}
IsFaultOf semantics ActorDestroyed = Unit {0}
IsFaultOf Async ResolverDestroyed = Unit {0}
IsFaultOf Sync ResolverDestroyed = ⊥

-- A request or a reply has the fields of a message of the row, and the row is carried.
pub record HasFields (row : MessageRow) (message : Message) : Type 0 where
  pub carried : IsTrue row.carried
  pub route : IsLivingId message.route
  pub seq : (message.seq ≢ pos 0) × IsFieldNumber message.seq
  pub transaction : IsTransactionOf row.semantics message.transaction

-- A request with values is a request of the message of the row.
pub record IsRequestOf (schema : Schema) (row : MessageRow) (message : Message) (vs : Values) : Type 0 where
  pub found : message_of schema message.number ≡ Some row
  pub number : message.number ≡ row.number
  pub fields : HasFields row message
  pub made : IsMadeBy row.kind message.made
  pub types : HaveTypes schema row.params vs
  pub ids : All IsCarriedId (all_actor_ids vs)

-- A reply, whatever it carries, is a reply to the message of the row.
pub record IsReplyTo (schema : Schema) (row : MessageRow) (message : Message) : Type 0 where
  pub found : message_of schema message.number ≡ Some row
  pub number : message.number ≡ row.number + 1
  pub replies : IsTrue (has_reply row)
  pub fields : HasFields row message
  pub made : message.made ≡ pos 0

-- A reply has values of the types of the returns; for a message without returns it has no values.
pub record GivesReturns (schema : Schema) (row : MessageRow) (vs : Values) : Type 0 where
  pub types : HaveTypes schema (unwrap_or row.returns []) vs
  pub ids : All IsCarriedId (all_actor_ids vs)

-- A goodbye has its number, and every other field is 0.
pub record IsGoodbye (message : Message) : Type 0 where
  pub number : message.number ≡ goodbye_number
  pub route : message.route ≡ pos 0
  pub seq : message.seq ≡ pos 0
  pub transaction : message.transaction ≡ pos 0
  pub made : message.made ≡ pos 0

abbrev pub FitsBody : Schema → Message → Body → Type 0
FitsBody schema message (Request vs) = (row : MessageRow) × IsRequestOf schema row message vs
FitsBody schema message (Reply vs) = (row : MessageRow) × IsReplyTo schema row message × GivesReturns schema row vs
FitsBody schema message (Fault reason) = (row : MessageRow) × IsReplyTo schema row message × IsFaultOf row.semantics reason
FitsBody schema message Goodbye = IsGoodbye message

-- A message fits a schema: it is a request or a reply of a message of the schema, or a goodbye.
abbrev pub Fits : Schema → Message → Type 0
Fits schema message = FitsBody schema message message.body
