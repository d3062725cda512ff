-- No step of an end depends on where the boxes of a schema are.
use Rattle.std.proofs.Common.{◌≡◌, ◌∙◌, ℕ, ℤ, List, true, Option, refl, sym}
use Rattle.std.specs.Prelude.{option_and_then}
use Rattle.ipdl_base.specs.declared.schema.MessageRow.{MessageRow}
use Rattle.ipdl_base.specs.declared.schema.Schema.{Schema}
use Rattle.ipdl_base.specs.declared.value.Values.{Values}
use Rattle.program_schema.specs.Laws.{plain_message_row, plain_schema}
use Rattle.channel_model.specs.Answers.{answered_row, may_answer, answer}
use Rattle.channel_model.specs.Ends.{End, StackEntry, Packet}
use Rattle.channel_model.specs.Events.{Event, Answering}
use Rattle.channel_model.specs.Events as event
use Rattle.channel_model.specs.Numbers.{request_row}
use Rattle.channel_model.specs.Outputs.{Output, is_open}
use Rattle.channel_model.specs.Returns.{dispatch_on_top, may_return, return, AnsweredWait, answered_wait_on_top, resume}
use Rattle.channel_model.specs.Sends.{may_send, send}
use Rattle.channel_model.specs.Steps.{provided, first_packet, step}
use Rattle.channel_model.specs.Takes.{taken_next}
use Rattle.schema_laws.specs.Runs.{StepsAlike}
use Rattle.schema_laws.proofs.AnswersAlike.{answered_alike, may_answer_alike, answer_alike}
use Rattle.schema_laws.proofs.DeliveriesAlike.{deliver_alike}
use Rattle.schema_laws.proofs.ReturnsAlike.{may_return_alike, return_alike, resume_alike}
use Rattle.schema_laws.proofs.RowsAlike.{then_same, request_alike}
use Rattle.schema_laws.proofs.SendsAlike.{may_send_alike, send_alike}
use Rattle.schema_laws.proofs.TakesAlike.{take_alike}

module _ (s : Schema) (e : End) where
  -- a step by the row of a request is the same if it is the same for each row
  by_request : (n : ℕ) (f g : MessageRow → Option Output) → ((row : MessageRow) → f (plain_message_row row) ≡ g row) → option_and_then f (request_row (plain_schema s) n) ≡ option_and_then g (request_row s n)
  by_request n f g same = (λ i. option_and_then f (request_alike s n i)) ∙ then_same plain_message_row f g same (request_row s n)

  sends : (link : List Packet) (route : ℤ) (number : ℕ) (vs : Values) (name : Option (List ℕ)) → step (plain_schema s) e link (event.send route number vs name) ≡ step s e link (event.send route number vs name)
  sends link route number vs name =
      by_request number (λ row. provided (may_send (plain_schema s) e row vs name) (send (plain_schema s) e row route vs name) e) (λ row. provided (may_send s e row vs name) (send s e row route vs name) e)
      (λ row. λ i. provided (may_send_alike s e row vs name i) (send_alike s e row route vs name i) e)

  answers : (link : List Packet) (by : Answering) (vs : Option Values) → step (plain_schema s) e link (event.answer by vs) ≡ step s e link (event.answer by vs)
  answers link by vs =
      (λ i. option_and_then (λ row. provided (may_answer (plain_schema s) e row vs) (answer (plain_schema s) e row by vs) e) (answered_alike s e by i))
      ∙ then_same plain_message_row (λ row. provided (may_answer (plain_schema s) e row vs) (answer (plain_schema s) e row by vs) e) (λ row. provided (may_answer s e row vs) (answer s e row by vs) e)
      (λ row. λ i. provided (may_answer_alike s e row vs i) (answer_alike s e row by vs i) e) (answered_row s e by)

  returns : (vs : Option Values) (entry : StackEntry)
      → option_and_then (λ row. provided (may_return (plain_schema s) row vs) (return (plain_schema s) e row entry vs) e) (request_row (plain_schema s) entry.number)
      ≡ option_and_then (λ row. provided (may_return s row vs) (return s e row entry vs) e) (request_row s entry.number)
  returns vs entry =
      by_request entry.number (λ row. provided (may_return (plain_schema s) row vs) (return (plain_schema s) e row entry vs) e) (λ row. provided (may_return s row vs) (return s e row entry vs) e)
      (λ row. λ i. provided (may_return_alike s row vs i) (return_alike s e row entry vs i) e)

  resumes : (wait : AnsweredWait)
      → option_and_then (λ row. provided true (resume (plain_schema s) e wait row) e) (request_row (plain_schema s) wait.number) ≡ option_and_then (λ row. provided true (resume s e wait row) e) (request_row s wait.number)
  resumes wait =
      by_request wait.number (λ row. provided true (resume (plain_schema s) e wait row) e) (λ row. provided true (resume s e wait row) e)
      (λ row. λ i. provided true (resume_alike s e wait row i) e)

  step_alike : (link : List Packet) (what : Event) → step (plain_schema s) e link what ≡ step s e link what
  step_alike link (event.send route number vs name) = sends link route number vs name
  step_alike link (event.answer by vs) = answers link by vs
  step_alike link (event.keep seq name) = refl
  step_alike link (event.name name id) = refl
  step_alike link event.close = refl
  step_alike link event.die = refl
  step_alike link event.deliver = λ i. option_and_then (λ packet. provided (is_open e.state) (deliver_alike s packet i) e) (first_packet link)
  step_alike link event.take = λ i. option_and_then (λ taken. provided true (take_alike s taken i) e) (taken_next e)
  step_alike link (event.return vs) = λ i. option_and_then (λ entry. returns vs entry i) (dispatch_on_top e.stack)
  step_alike link event.resume = λ i. option_and_then (λ wait. resumes wait i) (answered_wait_on_top e.stack)
  step_alike link event.flush = refl

pub steps_alike : StepsAlike
steps_alike a b alike e link what = sym (step_alike a e link what) ∙ (λ i. step (alike i) e link what) ∙ step_alike b e link what
