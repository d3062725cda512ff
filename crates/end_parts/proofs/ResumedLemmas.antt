-- A wait with its answer comes off.
use Rattle.std.proofs.Common.{◌≡◌, List, [], ◌∷◌, ◌++◌, reverse, Option, Some, None, refl, ap, sym, subst, ◌∙◌}
use Rattle.std.specs.Option.{option_to_list}
use Rattle.std.proofs.lemmas.List.{reverse-append}
use Rattle.nesting_core.specs.declared.frame.Answer.{Answer}
use Rattle.nesting_core.specs.declared.frame.StackFrame.{StackFrame}
use Rattle.nesting_core.specs.declared.frame.StackFrame.TheVariants.{Dispatch, Wait}
use Rattle.nesting_core.specs.declared.frame.Head.{Head}
use Rattle.nesting_core.specs.declared.frame.PoppedFrame.{PoppedFrame}
use Rattle.nesting_core.specs.declared.frame.PoppedFrame.TheVariants as popped
use Rattle.nesting_core.specs.declared.frame.StackTop.TheVariants as top
use Rattle.nesting_core.specs.Top.{top_of, popped_of, after_pop}
use Rattle.end_parts.specs.declared.stack_entries.EntryDetail.{EntryDetail}
use Rattle.end_parts.specs.declared.stack_entries.ResumedCall.{ResumedCall}
use Rattle.end_parts.specs.StackDetails.{entries_of, AreDetails}
use Rattle.end_parts.specs.Resumed.{IsTakenOff, IsResumed}

-- the last is the first of the reverse
turned : (rest : List EntryDetail) (b : EntryDetail) → reverse (rest ++ b ∷ []) ≡ b ∷ reverse rest
turned rest b = reverse-append rest (b ∷ [])

off_at : (h : Head) (a : Answer) (below : List StackFrame) (b : EntryDetail) (bs : List EntryDetail) (r : ResumedCall) → AreDetails (Wait h (Some a) ∷ below) (b ∷ bs) → IsResumed (Some (popped.Wait h a)) (Some b) r
    → IsTakenOff (entries_of (Wait h (Some a) ∷ below) (b ∷ bs)) (Some r) (entries_of below bs)
off_at h a below b bs r are is = rw is (refl, refl, are.0.copy)

off_with : (h : Head) (a : Answer) (below : List StackFrame) (items rest : List EntryDetail) (b : Option EntryDetail) (r : ResumedCall) → AreDetails (Wait h (Some a) ∷ below) (reverse items) → items ≡ rest ++ option_to_list b → IsResumed (Some (popped.Wait h a)) b r
    → IsTakenOff (entries_of (Wait h (Some a) ∷ below) (reverse items)) (Some r) (entries_of below (reverse rest))
off_with h a below items rest None r are e is = absurd is
off_with h a below items rest (Some b) r are e is =
    let back : reverse items ≡ b ∷ reverse rest = ap reverse e ∙ turned rest b in
    let there : AreDetails (Wait h (Some a) ∷ below) (b ∷ reverse rest) = subst (AreDetails (Wait h (Some a) ∷ below)) back are in
    subst (λ bs. IsTakenOff (entries_of (Wait h (Some a) ∷ below) bs) (Some r) (entries_of below (reverse rest))) (sym back) (off_at h a below b (reverse rest) r there is)

pub off : (frames after : List StackFrame) (items rest : List EntryDetail) (came : Option PoppedFrame) (b : Option EntryDetail) (r : ResumedCall) (head : Head)
    → AreDetails frames (reverse items) → top_of frames ≡ top.Answered head → came ≡ popped_of frames → after ≡ after_pop frames → items ≡ rest ++ option_to_list b → IsResumed came b r
    → IsTakenOff (entries_of frames (reverse items)) (Some r) (entries_of after (reverse rest))
off [] after items rest came b r head are t p l e is = cc
off (Dispatch h ∷ below) after items rest came b r head are t p l e is = cc
off (Wait h None ∷ below) after items rest came b r head are t p l e is = cc
off (Wait h (Some a) ∷ below) after items rest came b r head are t p l e is =
    let is' : IsResumed (Some (popped.Wait h a)) b r = subst (λ x. IsResumed x b r) p is in
    rw l (off_with h a below items rest b r are e is')
