-- What the calls of an end answer.
use Rattle.std.specs.Prelude.{◌≡◌, ◌≢◌, ℕ, ℤ, pos, List, Option, Some, None, option_map, option_and_then, if◌then◌else◌}
use Rattle.std.specs.Option.{option_map_or}
use Rattle.ipdl_base.specs.declared.kinds.SendRefusal.{SendRefusal}
use Rattle.ipdl_base.specs.declared.value.Values.{Values}
use Rattle.nesting_core.specs.declared.frame.Answer.{Answer}
use Rattle.nesting_core.specs.declared.frame.StackTop.{StackTop}
use Rattle.nesting_core.specs.declared.frame.StackTop.TheVariants as stack_top
use Rattle.nesting_core.specs.Frames.{head_of}
use Rattle.nesting_core.specs.Plain.{plain_answer}
use Rattle.channel_model.specs.Acts.{close_refusal}
use Rattle.channel_model.specs.Answers.{answered_row, answer_refusal, resolver_in}
use Rattle.channel_model.specs.Ends.{Resolver, StackEntry}
use Rattle.channel_model.specs.Events.{Answering, handled, kept}
use Rattle.channel_model.specs.Events as event
use Rattle.channel_model.specs.Numbers.{request_row}
use Rattle.channel_model.specs.Returns.{AnsweredWait, answered_wait_on_top, dispatch_on_top}
use Rattle.channel_model.specs.Sends.{next_seq, next_made, send_refusal}
use Rattle.channel_model.specs.ValueActors.{received}
use Rattle.channel_core.specs.declared.answers.CloseAnswer.{CloseAnswer}
use Rattle.channel_core.specs.declared.answers.CloseAnswer.TheVariants as close
use Rattle.channel_core.specs.declared.answers.FinishAnswer.{FinishAnswer}
use Rattle.channel_core.specs.declared.answers.FinishAnswer.TheVariants as finish
use Rattle.channel_core.specs.declared.answers.KeepAnswer.{KeepAnswer}
use Rattle.channel_core.specs.declared.answers.KeepAnswer.TheVariants as keep
use Rattle.channel_core.specs.declared.answers.NamedAnswer.{NamedAnswer}
use Rattle.channel_core.specs.declared.answers.NamedAnswer.TheVariants as by_name
use Rattle.channel_core.specs.declared.answers.ResolveAnswer.{ResolveAnswer}
use Rattle.channel_core.specs.declared.answers.ResolveAnswer.TheVariants as resolve
use Rattle.channel_core.specs.declared.answers.RunningHandler.{RunningHandler}
use Rattle.channel_core.specs.declared.answers.SendAnswer.{SendAnswer}
use Rattle.channel_core.specs.declared.answers.SendAnswer.TheVariants as send
use Rattle.channel_core.specs.declared.answers.Top.{Top}
use Rattle.channel_core.specs.declared.answers.Top.TheVariants as top
use Rattle.channel_core.specs.EndView.{EndView}
use Rattle.channel_core.specs.Steps.{IsStep}

-- why a send is refused
unfoldable pub refusal_of_send : EndView → ℤ → ℕ → Values → Option SendRefusal
refusal_of_send seen route number vs = option_and_then (λ row. send_refusal seen.schema seen.end row route vs) (request_row seen.schema number)

-- the id of the actor that a send makes, or 0
unfoldable pub made_by_send : EndView → ℕ → ℤ
made_by_send seen number = option_map_or (λ row. next_made seen.end row.kind) (request_row seen.schema number) (pos 0)

abbrev pub SendGives : EndView → ℤ → ℕ → Values → Option (List ℕ) → SendAnswer → EndView → Type 0
SendGives before route number vs name (send.Sent seq made) after =
    (refusal_of_send before route number vs ≡ None) × (seq ≡ next_seq before.end) × (made ≡ made_by_send before number) × IsStep before (event.send route number vs name) after
SendGives before route number vs name (send.Refused cause) after =
    (refusal_of_send before route number vs ≡ Some cause) × IsStep before (event.send route number vs name) after
SendGives before route number vs name send.NoMemory after = after ≡ before

-- why an answer is refused
unfoldable pub refusal_of_answer : EndView → Answering → Option Values → Option SendRefusal
refusal_of_answer seen by vs = option_and_then (λ row. answer_refusal seen.schema seen.end row by vs) (answered_row seen.schema seen.end by)

abbrev pub ResolveGives : EndView → Resolver → Option Values → ResolveAnswer → EndView → Type 0
ResolveGives before r vs resolve.Sent after = (refusal_of_answer before (handled r.seq) vs ≡ None) × IsStep before (event.answer (handled r.seq) vs) after
ResolveGives before r vs (resolve.Refused cause back) after =
    (refusal_of_answer before (handled r.seq) vs ≡ Some cause) × (back ≡ r) × IsStep before (event.answer (handled r.seq) vs) after
ResolveGives before r vs (resolve.NoMemory back) after = (back ≡ r) × (after ≡ before)

-- what an answer gives, by whatever resolver
abbrev pub AnswerGives : EndView → Answering → Option Values → NamedAnswer → EndView → Type 0
AnswerGives before by vs by_name.Sent after = (refusal_of_answer before by vs ≡ None) × IsStep before (event.answer by vs) after
AnswerGives before by vs (by_name.Refused cause) after = (refusal_of_answer before by vs ≡ Some cause) × IsStep before (event.answer by vs) after
AnswerGives before by vs by_name.NoMemory after = after ≡ before

abbrev pub NamedGives : EndView → List ℕ → ℕ → Option Values → NamedAnswer → EndView → Type 0
NamedGives before name number vs answer after = AnswerGives before (kept name number) vs answer after

-- an answer with the resolver, which is handed back where it was not used
abbrev pub with_resolver : NamedAnswer → Resolver → ResolveAnswer
with_resolver by_name.Sent r = resolve.Sent
with_resolver (by_name.Refused cause) r = resolve.Refused cause r
with_resolver by_name.NoMemory r = resolve.NoMemory r

abbrev pub KeepGives : EndView → Resolver → List ℕ → KeepAnswer → EndView → Type 0
KeepGives before r name keep.Kept after = IsStep before (event.keep r.seq name) after
KeepGives before r name (keep.NoMemory back) after = (back ≡ r) × (after ≡ before)

abbrev pub CloseGives : EndView → CloseAnswer → EndView → Type 0
CloseGives before close.Done after = (close_refusal before.end ≡ None) × IsStep before event.close after
CloseGives before (close.Refused cause) after = (close_refusal before.end ≡ Some cause) × IsStep before event.close after
CloseGives before close.NoMemory after = (close_refusal before.end ≢ None) × (after ≡ before)

abbrev pub FinishGives : EndView → Option Resolver → Option Values → FinishAnswer → EndView → Type 0
FinishGives before r vs finish.Done after = IsStep before (event.return vs) after
FinishGives before r vs (finish.NoMemory back) after = (back ≡ r) × (after ≡ before)

-- the answer that a call resumes with, as its sender receives it
unfoldable pub resumed_with : EndView → AnsweredWait → Option Answer
resumed_with seen wait = option_map (λ row. received seen.schema seen.end.actors row wait.given) (request_row seen.schema wait.number)

abbrev pub ResumeGives : EndView → Option Answer → EndView → Type 0
ResumeGives before None after = (answered_wait_on_top before.end.stack ≡ None) × (after ≡ before)
ResumeGives before (Some a) after =
    (wait : AnsweredWait) × (answered_wait_on_top before.end.stack ≡ Some wait) × (resumed_with before wait ≡ Some (plain_answer a)) × IsStep before event.resume after

-- the frame on top, as it is reported
abbrev pub told_top : StackTop → Top
told_top stack_top.Empty = top.Empty
told_top (stack_top.Dispatch head) = top.Dispatch
told_top (stack_top.Unanswered head) = top.Unanswered
told_top (stack_top.Answered head) = top.Answered

-- what a return hands back: the resolver of the dispatch on top, where it was neither used nor kept
abbrev pub IsHandedBack : EndView → Option Resolver → Type 0
IsHandedBack seen r = option_and_then (λ entry. if entry.resolves then Some (resolver_in entry) else None) (dispatch_on_top seen.end.stack) ≡ r

-- the handler of a dispatch
abbrev pub running_handler : StackEntry → RunningHandler
running_handler entry = record { seq = (head_of entry.frame).seq; route = entry.route; number = entry.number; has_resolver = entry.resolves }
