-- Handlers that return, and calls that continue, do not depend on where the boxes of a schema are.
use Rattle.std.proofs.Common.{◌≡◌, map, Option, Some, None, refl}
use Rattle.std.specs.Prelude.{◌&&◌, ◌||◌, if◌then◌else◌, is_none}
use Rattle.ipdl_base.specs.declared.kinds.Reason.TheVariants.{HandlerRejected}
use Rattle.ipdl_base.specs.declared.line.What.TheVariants as what
use Rattle.ipdl_base.specs.declared.message.Body.TheVariants.{Reply}
use Rattle.ipdl_base.specs.declared.schema.MessageRow.{MessageRow}
use Rattle.ipdl_base.specs.declared.schema.Schema.{Schema}
use Rattle.ipdl_base.specs.declared.value.Values.{Values}
use Rattle.ipdl_base.specs.declared.value.Values.TheVariants.{Nothing}
use Rattle.nesting_core.specs.Frames.{head_of}
use Rattle.nesting_core.specs.declared.frame.Answer.TheVariants as answer
use Rattle.program_schema.specs.Laws.{plain_param_row, plain_message_row, plain_schema}
use Rattle.schema_laws.proofs.Rows.{still_there}
use Rattle.channel_model.specs.Answers.{resolver_in}
use Rattle.channel_model.specs.Ends.{End, StackEntry}
use Rattle.channel_model.specs.Falls.{deletes}
use Rattle.channel_model.specs.Numbers.{is_sync_row}
use Rattle.channel_model.specs.Outputs.{◌▷◌, when, line, answered, destroyed, reply_to}
use Rattle.channel_model.specs.Returns.{dispatch_answered, may_return, is_bad_return, given_answer, return_answer, popped, return, AnsweredWait, resume_line, resume}
use Rattle.schema_laws.proofs.AnswersAlike.{have_returns}
use Rattle.schema_laws.proofs.RowsAlike.{still_none}
use Rattle.schema_laws.proofs.SendsAlike.{too_large_alike}
use Rattle.schema_laws.proofs.ValuesAlike.{returns_dead, received_alike}

module _ (s : Schema) where
  pub may_return_alike : (row : MessageRow) (vs : Option Values) → may_return (plain_schema s) (plain_message_row row) vs ≡ may_return s row vs
  may_return_alike row vs = λ i. is_none vs || (is_sync_row row && (still_there (map plain_param_row) row.returns i && have_returns s row vs i))

  bad_alike : (e : End) (row : MessageRow) (entry : StackEntry) (vs : Values) → is_bad_return (plain_schema s) e (plain_message_row row) entry vs ≡ is_bad_return s e row entry vs
  bad_alike e row entry vs = λ i. too_large_alike s (reply_to (dispatch_answered entry) (Reply vs)) i || returns_dead s e.actors row vs i

  given_alike : (e : End) (row : MessageRow) (entry : StackEntry) (vs : Option Values) → given_answer (plain_schema s) e (plain_message_row row) entry vs ≡ given_answer s e row entry vs
  given_alike e row entry None = refl
  given_alike e row entry (Some vs) = λ i. if bad_alike e row entry vs i then answer.Fault HandlerRejected else answer.Ok vs

  answer_alike : (e : End) (row : MessageRow) (entry : StackEntry) (vs : Option Values) → return_answer (plain_schema s) e (plain_message_row row) entry vs ≡ return_answer s e row entry vs
  answer_alike e row entry vs = λ i. if still_none (map plain_param_row) row.returns i then answer.Ok Nothing else given_alike e row entry vs i

  pub return_alike : (e : End) (row : MessageRow) (entry : StackEntry) (vs : Option Values) → return (plain_schema s) e (plain_message_row row) entry vs ≡ return s e row entry vs
  return_alike e row entry vs = λ i.
      popped
      ▷ line (what.Return (head_of entry.frame).seq)
      ▷ when (is_sync_row row) (answered (dispatch_answered entry) (answer_alike e row entry vs i))
      ▷ when entry.resolves (destroyed (resolver_in entry))
      ▷ deletes entry.route row.kind

  pub resume_alike : (e : End) (wait : AnsweredWait) (row : MessageRow) → resume (plain_schema s) e wait (plain_message_row row) ≡ resume s e wait row
  resume_alike e wait row = λ i. popped ▷ line (resume_line wait.seq (received_alike s e.actors row wait.given i))
