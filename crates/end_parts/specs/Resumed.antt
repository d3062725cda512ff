-- A wait with its answer that comes off a stack.
use Rattle.std.specs.Prelude.{◌≡◌, List, drop, Option, Some, None}
use Rattle.nesting_core.specs.declared.frame.PoppedFrame.{PoppedFrame}
use Rattle.nesting_core.specs.declared.frame.PoppedFrame.TheVariants as popped
use Rattle.nesting_core.specs.Plain.{plain_answer}
use Rattle.channel_model.specs.Ends.{StackEntry}
use Rattle.channel_model.specs.Returns.{AnsweredWait, answered_wait_on_top}
use Rattle.end_parts.specs.CopiedAnswers.{IsCopied}
use Rattle.end_parts.specs.declared.stack_entries.EntryDetail.{EntryDetail}
use Rattle.end_parts.specs.declared.stack_entries.ResumedCall.{ResumedCall}

-- the wait of a call that resumes
abbrev pub wait_of : ResumedCall → AnsweredWait
wait_of call = record { seq = call.seq; number = call.number; given = plain_answer call.given.answer }

-- the wait on top, if it has its answer, has come off, with a second copy of its values
abbrev pub IsTakenOff : List StackEntry → Option ResumedCall → List StackEntry → Type 0
IsTakenOff before None after = (answered_wait_on_top before ≡ None) × (after ≡ before)
IsTakenOff before (Some call) after =
    (answered_wait_on_top before ≡ Some (wait_of call)) × (after ≡ drop 1 before) × IsCopied call.given

-- what came off is a wait
abbrev pub IsWaitPopped : PoppedFrame → Type 0
IsWaitPopped (popped.Dispatch head) = ⊥
IsWaitPopped (popped.Wait head a) = Unit {0}

-- the call that resumes is that of the wait that came off
abbrev pub IsResumed : Option PoppedFrame → Option EntryDetail → ResumedCall → Type 0
IsResumed (Some (popped.Wait head a)) (Some detail) call = call ≡ record { seq = head.seq; number = detail.request.number; given = record { answer = a; copy = detail.answer_copy } }
IsResumed _ _ call = ⊥
