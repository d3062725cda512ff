use Rattle.std.specs.Prelude.{ℤ, List, [], ◌∷◌, Option, Some, None, option_map}
use Rattle.nesting_core.specs.declared.frame.Answer.{Answer}
use Rattle.nesting_core.specs.declared.frame.StackFrame.{StackFrame}
use Rattle.nesting_core.specs.declared.frame.StackFrame.TheVariants.{Dispatch, Wait}
use Rattle.nesting_core.specs.Frames.{innermost, is_unanswered}

-- the number of the innermost wait whose answer has not come
abbrev pub awaited : List StackFrame → Option ℤ
awaited frames = option_map (λ head. head.seq) (innermost is_unanswered frames)

-- the frames with this answer in the innermost wait whose answer had not come, the others as they were
abbrev pub with_answer : Answer → List StackFrame → List StackFrame
with_answer answer [] = []
with_answer answer (Wait head None ∷ below) = Wait head (Some answer) ∷ below
with_answer answer (Wait head (Some earlier) ∷ below) = Wait head (Some earlier) ∷ with_answer answer below
with_answer answer (Dispatch head ∷ below) = Dispatch head ∷ with_answer answer below
