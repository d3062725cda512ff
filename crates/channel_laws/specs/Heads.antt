-- The heads of frames and of what has arrived are those of the rows and of what was sent.
use Rattle.std.specs.Prelude.{◌≡◌, ℕ, ℤ, Bool, false, List, Some}
use Rattle.std.specs.List.{AllByRecursion}
use Rattle.ipdl_base.specs.declared.kinds.Level.{Level}
use Rattle.ipdl_base.specs.declared.message.Body.{Body}
use Rattle.ipdl_base.specs.declared.message.Body.TheVariants.{Request, Reply, Fault, Goodbye}
use Rattle.ipdl_base.specs.declared.message.Message.{Message}
use Rattle.ipdl_base.specs.declared.schema.MessageRow.{MessageRow}
use Rattle.ipdl_base.specs.declared.schema.Schema.{Schema}
use Rattle.ipdl_base.specs.Sound.{message_of}
use Rattle.nesting_core.specs.declared.frame.StackFrame.{StackFrame}
use Rattle.nesting_core.specs.declared.frame.StackFrame.TheVariants.{Dispatch, Wait}
use Rattle.pending_queue.specs.declared.item.Item.{Item}
use Rattle.pending_queue.specs.declared.item.Item.TheVariants as item
use Rattle.channel_model.specs.Ends.{End, StackEntry}
use Rattle.channel_model.specs.Numbers.{is_sync_row}
use Rattle.channel_laws.specs.Notes.{Note, RequestNote, asks, In}

-- A message has the sync and level of its row.
pub record IsOfRow (schema : Schema) (number : ℕ) (sync : Bool) (level : Level) : Type 0 where
  pub row : MessageRow
  pub found : message_of schema number ≡ Some row
  pub sync_is : sync ≡ is_sync_row row
  pub level_is : level ≡ row.level

-- A request with this number, transaction and message was sent.
pub record IsSentHead (sent : List Note) (seq : ℤ) (transaction : ℤ) (number : ℕ) : Type 0 where
  pub request : RequestNote
  pub sent_it : In (asks request) sent
  pub seq_is : request.seq ≡ seq
  pub transaction_is : request.transaction ≡ transaction
  pub number_is : request.number ≡ number

-- the head of a frame is as its row requires, and that of a dispatch is of a request that was sent
abbrev pub FrameHead : Schema → List Note → ℕ → StackFrame → Type 0
FrameHead schema sent number (Dispatch head) = IsOfRow schema number head.sync head.level × IsSentHead sent head.seq head.transaction number
FrameHead schema sent number (Wait head a) = IsOfRow schema number head.sync head.level

abbrev pub EntryHead : Schema → List Note → StackEntry → Type 0
EntryHead schema sent entry = FrameHead schema sent entry.number entry.frame

-- what has arrived has the sync and level of its row; a reply is async
abbrev pub BodyHead : Schema → Message → Bool → Level → Body → Type 0
BodyHead schema m sync level (Request vs) = IsOfRow schema m.number sync level
BodyHead schema m sync level (Reply vs) = sync ≡ false
BodyHead schema m sync level (Fault reason) = sync ≡ false
BodyHead schema m sync level Goodbye = Unit {0}

abbrev pub ItemHead : Schema → Item → Type 0
ItemHead schema (item.Message m sync level) = BodyHead schema m sync level m.body
ItemHead schema item.Broken = Unit {0}

-- All that an end handles, waits for and has received has such heads.
pub record HasHeads (schema : Schema) (sent : List Note) (e : End) : Type 0 where
  pub entries : AllByRecursion (EntryHead schema sent) e.stack
  pub arrived : AllByRecursion (ItemHead schema) e.arrived
