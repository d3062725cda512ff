-- Frames with every box of their answers at one place.
use Rattle.std.specs.Prelude.{option_map}
use Rattle.ipdl_base.specs.Plain.{plain_values}
use Rattle.nesting_core.specs.declared.frame.Answer.{Answer}
use Rattle.nesting_core.specs.declared.frame.Answer.TheVariants as answer
use Rattle.nesting_core.specs.declared.frame.StackFrame.{StackFrame}
use Rattle.nesting_core.specs.declared.frame.StackFrame.TheVariants as frame
use Rattle.nesting_core.specs.declared.frame.PoppedFrame.{PoppedFrame}
use Rattle.nesting_core.specs.declared.frame.PoppedFrame.TheVariants as popped

-- an answer with its boxes there
abbrev pub plain_answer : Answer → Answer
plain_answer (answer.Ok values) = answer.Ok (plain_values values)
plain_answer (answer.Fault reason) = answer.Fault reason

-- a frame with the boxes of its answer there
abbrev pub plain_frame : StackFrame → StackFrame
plain_frame (frame.Dispatch head) = frame.Dispatch head
plain_frame (frame.Wait head answer) = frame.Wait head (option_map plain_answer answer)

-- what came off a stack, with its boxes there
abbrev pub plain_popped : PoppedFrame → PoppedFrame
plain_popped (popped.Dispatch head) = popped.Dispatch head
plain_popped (popped.Wait head answer) = popped.Wait head (plain_answer answer)
