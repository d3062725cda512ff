-- What an end reads of requests and replies from its own lines, whatever the other end sends.
use Rattle.std.specs.Prelude.{◌≡◌, ℕ, ◌≤◌, Bool, true, List, Some, None}
use Rattle.ipdl_base.specs.declared.kinds.Level.{Level}
use Rattle.ipdl_base.specs.declared.kinds.Side.{Side}
use Rattle.ipdl_base.specs.declared.line.What.{What}
use Rattle.ipdl_base.specs.declared.message.Body.TheVariants.{Request}
use Rattle.ipdl_base.specs.declared.message.Message.{Message}
use Rattle.ipdl_base.specs.declared.schema.MessageRow.{MessageRow}
use Rattle.ipdl_base.specs.declared.schema.Schema.{Schema}
use Rattle.ipdl_base.specs.declared.value.Values.{Values}
use Rattle.ipdl_base.specs.Sound.{message_of}
use Rattle.nesting_core.specs.declared.frame.Answer.{Answer}
use Rattle.pending_queue.specs.declared.item.Item.TheVariants as item
use Rattle.channel_model.specs.Ends.{End, Packet, message, opening_end}
use Rattle.channel_model.specs.Outputs.{body_of}
use Rattle.channel_model.specs.Parts.{OwnParts, DeliveryPart}
use Rattle.channel_model.specs.Phases.{Phase}
use Rattle.channel_model.specs.Refusals.{packet_refusal}
use Rattle.channel_model.specs.Takes.{taken_next}
use Rattle.history_reading.specs.EndReading.{EndReading, opening}
use Rattle.history_reading.specs.Prefix.{is_there, is_reply_there}
use Rattle.channel_laws.specs.Arrivals.{IsDue, arrival_reading, replies_delivered}
use Rattle.channel_laws.specs.Exchanges.{ReadsExchanges}
use Rattle.channel_laws.specs.Tested.{after_whats}

-- At the opening an end reads its exchanges. It still does after each step of its own, and after each delivery of
-- what is due. A message of the schema that the end does not refuse is due.
pub record EndsReadExchanges : Type 0 where
  pub begins : (schema : Schema) (top : ℕ) (side : Side) → ReadsExchanges schema (opening_end top side) opening
  pub acts : (schema : Schema) {q : Phase} {e f : End} {whats : List What} {packets : List Packet} (place : ℕ) (own : EndReading) → OwnParts schema e whats packets f q → ReadsExchanges schema e own → ReadsExchanges schema f (after_whats schema place whats own)
  pub delivers : (schema : Schema) {packet : Packet} {q : Phase} {e f : End} {whats : List What} {packets : List Packet} (place : ℕ) (own : EndReading) → DeliveryPart schema packet e whats packets f q → IsDue schema e own packet → ReadsExchanges schema e own → ReadsExchanges schema f (after_whats schema place whats own)
  pub accepts : (schema : Schema) (e : End) (own : EndReading) → ReadsExchanges schema e own → (m : Message) (row : MessageRow) → message_of schema m.number ≡ Some row → packet_refusal schema e (message m) ≡ None → IsDue schema e own (message m)

-- A request that the end takes or drops was delivered, and was not taken, dropped or replaced before. A reply that it
-- takes was not taken before, if it was delivered at most once.
pub record EndsTakeOnce : Type 0 where
  pub request : (schema : Schema) (e : End) (own : EndReading) (m : Message) (sync : Bool) (level : Level) (vs : Values) → ReadsExchanges schema e own → taken_next e ≡ Some (item.Message m sync level) → m.body ≡ Request vs → is_there own m.seq ≡ true
  pub reply : (schema : Schema) (e : End) (own : EndReading) (m : Message) (sync : Bool) (level : Level) (a : Answer) → ReadsExchanges schema e own → taken_next e ≡ Some (item.Message m sync level) → m.body ≡ body_of a → replies_delivered (arrival_reading own) m.seq ≤ 1 → is_reply_there own m.seq ≡ true
