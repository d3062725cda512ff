use Rattle.std.proofs.Common.{◌≡◌, suc, ℤ, List, [], ◌∷◌, length, Option, Some, None, IfNone, refl, sym, ap, ◌∙◌}
use Rattle.nesting_core.specs.declared.frame.Answer.{Answer}
use Rattle.nesting_core.specs.declared.frame.StackFrame.{StackFrame}
use Rattle.nesting_core.specs.declared.frame.StackFrame.TheVariants.{Dispatch, Wait}
use Rattle.nesting_core.specs.Frames.{has_wait}
use Rattle.nesting_core.specs.Answers.{awaited, with_answer}

-- an answer that no wait asks for goes nowhere
pub with_answer-none : (answer : Answer) (frames : List StackFrame) → awaited frames ≡ None → with_answer answer frames ≡ frames
with_answer-none answer [] h = refl
with_answer-none answer (Dispatch head ∷ below) h = ap (λ xs. Dispatch head ∷ xs) (with_answer-none answer below h)
with_answer-none answer (Wait head None ∷ below) h = cc
with_answer-none answer (Wait head (Some earlier) ∷ below) h = ap (λ xs. Wait head (Some earlier) ∷ xs) (with_answer-none answer below h)

-- an answer changes no count of frames
pub length-with_answer : (answer : Answer) (frames : List StackFrame) → length (with_answer answer frames) ≡ length frames
length-with_answer answer [] = refl
length-with_answer answer (Dispatch head ∷ below) = ap (λ n. suc n) (length-with_answer answer below)
length-with_answer answer (Wait head None ∷ below) = refl
length-with_answer answer (Wait head (Some earlier) ∷ below) = ap (λ n. suc n) (length-with_answer answer below)

-- nor whether there is a wait
pub has_wait-with_answer : (answer : Answer) (frames : List StackFrame) → has_wait (with_answer answer frames) ≡ has_wait frames
has_wait-with_answer answer [] = refl
has_wait-with_answer answer (Dispatch head ∷ below) = has_wait-with_answer answer below
has_wait-with_answer answer (Wait head None ∷ below) = refl
has_wait-with_answer answer (Wait head (Some earlier) ∷ below) = refl

-- where no wait asked for an answer, storing one changed nothing
pub unchanged_if_none : (number : Option ℤ) (answer : Answer) (was now : List StackFrame) → number ≡ awaited was → now ≡ with_answer answer was → IfNone number (now ≡ was)
unchanged_if_none None answer was now asked stored = stored ∙ with_answer-none answer was (sym asked)
unchanged_if_none (Some seq) answer was now asked stored = tt
