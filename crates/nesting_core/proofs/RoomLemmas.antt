use Rattle.std.proofs.Common.{List, [], ◌∷◌, length, Some, None, arith}
use Rattle.nesting_core.specs.declared.frame.Answer.{Answer}
use Rattle.nesting_core.specs.declared.frame.StackFrame.{StackFrame}
use Rattle.nesting_core.specs.declared.frame.StackFrame.TheVariants.{Dispatch, Wait}
use Rattle.nesting_core.specs.Answers.{with_answer}
use Rattle.nesting_core.specs.Room.{FitsRoom, LeavesRoom}
use Rattle.nesting_core.specs.Top.{top_of}
use Rattle.nesting_core.proofs.AnswerLemmas.{length-with_answer}

-- an answer moves no frame
pub FitsRoom-with_answer : (answer : Answer) (frames : List StackFrame) → FitsRoom frames → FitsRoom (with_answer answer frames)
FitsRoom-with_answer answer [] fits = tt
FitsRoom-with_answer answer (Dispatch head ∷ below) fits =
    (rw (length-with_answer answer below) fits.0, FitsRoom-with_answer answer below fits.1)
FitsRoom-with_answer answer (Wait head None ∷ below) fits = fits
FitsRoom-with_answer answer (Wait head (Some earlier) ∷ below) fits =
    (rw (length-with_answer answer below) fits.0, FitsRoom-with_answer answer below fits.1)

-- there is room for a dispatch unless one is on top
pub leaves_room : (frames : List StackFrame) → FitsRoom frames → LeavesRoom (top_of frames) (length frames)
leaves_room [] fits = omega arith
leaves_room (Dispatch head ∷ below) fits = tt
leaves_room (Wait head None ∷ below) fits = omega (arith, fits.0)
leaves_room (Wait head (Some answer) ∷ below) fits = omega (arith, fits.0)
