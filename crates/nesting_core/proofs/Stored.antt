use Rattle.std.proofs.Common.{◌≡◌, ◌≢◌, ℕ, zero, suc, pos, ◌<◌, ◌≤◌, true, false, List, [], ◌∷◌, length, get_or, set, take, reverse, Some, None, refl, sym, ap, ◌∙◌, ⊎_elim, arith, get_or-set_other}
use Rattle.std.proofs.Math.Seq.{take-suc, take-suc-set}
use Rattle.std.proofs.lemmas.List.{reverse-append, length-set, get_or_default}
use Rattle.std.proofs.lemmas.Bool.{cases_order}
use Rattle.ipdl_base.specs.declared.kinds.Level.TheVariants.{Not}
use Rattle.nesting_core.specs.declared.frame.Answer.{Answer}
use Rattle.nesting_core.specs.declared.frame.StackFrame.{StackFrame}
use Rattle.nesting_core.specs.declared.frame.Head.{Head}
use Rattle.nesting_core.specs.declared.frame.StackFrame.TheVariants.{Dispatch, Wait}
use Rattle.nesting_core.specs.Frames.{head_of, is_unanswered}
use Rattle.nesting_core.specs.Answers.{with_answer}

-- some frame, for a read past the end
abbrev pub vacant : StackFrame
vacant = Dispatch (record { sync = false; level = Not; seq = pos 0; transaction = pos 0 })

-- the innermost of one more frame comes first
pub inward-suc : (xs : List StackFrame) (n : ℕ) (d : StackFrame) → n < length xs → reverse (take (suc n) xs) ≡ get_or xs n d ∷ reverse (take n xs)
inward-suc xs n d h = ap reverse (take-suc xs n d h) ∙ reverse-append (take n xs) (get_or xs n d ∷ [])

-- and so after a write in its place
pub inward-set : (xs : List StackFrame) (n : ℕ) (y : StackFrame) → n < length xs → reverse (take (suc n) (set xs n y)) ≡ y ∷ reverse (take n xs)
inward-set xs n y h = ap reverse (take-suc-set xs n y h) ∙ reverse-append (take n xs) (y ∷ [])

-- an answer goes into a wait on top whose answer has not come
pub with_answer-hit : (answer : Answer) (frame : StackFrame) (below : List StackFrame) → is_unanswered frame ≡ true → with_answer answer (frame ∷ below) ≡ Wait (head_of frame) (Some answer) ∷ below
with_answer-hit answer (Dispatch head) below h = cc
with_answer-hit answer (Wait head None) below h = refl
with_answer-hit answer (Wait head (Some earlier)) below h = cc

-- an answer goes past any other frame on top
pub with_answer-miss : (answer : Answer) (frame : StackFrame) (below : List StackFrame) → is_unanswered frame ≡ false → with_answer answer (frame ∷ below) ≡ frame ∷ with_answer answer below
with_answer-miss answer (Dispatch head) below h = refl
with_answer-miss answer (Wait head None) below h = cc
with_answer-miss answer (Wait head (Some earlier)) below h = refl

-- where no frame waits for its answer, nothing is stored
pub with_answer-none : (answer : Answer) (xs : List StackFrame) (n : ℕ) → n ≤ length xs → ((k : ℕ) (d : StackFrame) → k < n → is_unanswered (get_or xs k d) ≡ false) → reverse (take n xs) ≡ with_answer answer (reverse (take n xs))
with_answer-none answer xs zero h none = refl
with_answer-none answer xs (suc n) h none =
    let step = inward-suc xs n vacant (omega arith) in
    let miss = with_answer-miss answer (get_or xs n vacant) (reverse (take n xs)) (none n vacant (omega arith)) in
    let rest = with_answer-none answer xs n (omega arith) (λ k d lt. none k d (omega arith)) in
    step ∙ ap (λ ys. get_or xs n vacant ∷ ys) rest ∙ sym miss ∙ ap (with_answer answer) (sym step)

-- where no frame above it waits for its answer, a wait in the place i is the one that is answered
pub with_answer-set : (answer : Answer) (xs : List StackFrame) (i n : ℕ) → i < n → n ≤ length xs → is_unanswered (get_or xs i vacant) ≡ true → ((k : ℕ) (d : StackFrame) → i < k → k < n → is_unanswered (get_or xs k d) ≡ false) → reverse (take n (set xs i (Wait (head_of (get_or xs i vacant)) (Some answer)))) ≡ with_answer answer (reverse (take n xs))
with_answer-set answer xs i zero lt h waits none = absurd (omega arith)
with_answer-set answer xs i (suc n) lt h waits none =
    let y = Wait (head_of (get_or xs i vacant)) (Some answer) in
    let step = inward-suc xs n vacant (omega arith) in
    ⊎_elim
    (λ (e : i ≡ n).
    let hit = with_answer-hit answer (get_or xs i vacant) (reverse (take i xs)) waits in
    let here = inward-set xs i y (omega arith) in
    let there = inward-suc xs i vacant (omega arith) in
    rw (sym e) (here ∙ sym hit ∙ ap (with_answer answer) (sym there)))
    (⊎_elim
    (λ (below : i < n).
    let miss = with_answer-miss answer (get_or xs n vacant) (reverse (take n xs)) (none n vacant (omega arith) (omega arith)) in
    let rest = with_answer-set answer xs i n below (omega arith) waits (λ k d gt lt2. none k d (omega arith) (omega arith)) in
    let other : n ≢ i = omega arith in
    let same = get_or-set_other xs i n y vacant other in
    let more = inward-suc (set xs i y) n vacant (omega (arith, length-set xs i y)) in
    more ∙ ap (λ f. f ∷ reverse (take n (set xs i y))) same ∙ ap (λ ys. get_or xs n vacant ∷ ys) rest ∙ sym miss ∙ ap (with_answer answer) (sym step))
    (λ (above : n < i). absurd (omega arith)))
    (cases_order i n)

-- the same as the loop knows it, with its reads at any default
pub stored : (answer : Answer) (now was : List StackFrame) (d e : StackFrame) (head : Head) (i n : ℕ) → now ≡ was → i < n → n ≤ length now → is_unanswered (get_or now i d) ≡ true → head ≡ head_of (get_or now i e) → ((k : ℕ) (f : StackFrame) → i < k → k < n → is_unanswered (get_or now k f) ≡ false) → reverse (take n (set now i (Wait head (Some answer)))) ≡ with_answer answer (reverse (take n was))
stored answer now was d e head i n same lt h waits at none =
    let in_range : i < length now = omega arith in
    let read_d = get_or_default now i vacant d in_range in
    let read_e = get_or_default now i e vacant in_range in
    let hit = with_answer-set answer now i n lt h (ap is_unanswered read_d ∙ waits) none in
    ap (λ g. reverse (take n (set now i (Wait g (Some answer))))) (at ∙ ap head_of read_e) ∙ hit ∙ ap (λ ys. with_answer answer (reverse (take n ys))) same
