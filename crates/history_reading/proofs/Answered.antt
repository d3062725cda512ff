-- The innermost wait of a number among frames that are kept the outermost first.
use Rattle.std.proofs.Common.{◌≡◌, ◌≢◌, ℕ, ℤ, zero, suc, pos, ◌<◌, ◌≤◌, true, false, cond, List, [], ◌∷◌, length, get_or, set, take, reverse, refl, sym, ap, ◌∙◌, ⊎_elim, arith, get_or-set_other}
use Rattle.std.proofs.Math.Seq.{take-suc, take-suc-set}
use lib.Seq.{take-length}
use Rattle.std.proofs.lemmas.List.{reverse-append, length-set, get_or_default}
use Rattle.std.proofs.lemmas.Bool.{cases_order}
use Rattle.history_reading.specs.declared.parts.CallFrame.{CallFrame}
use Rattle.history_reading.specs.declared.parts.CallFrame.TheVariants.{Dispatch}
use Rattle.history_reading.specs.EndReading.{is_wait_for}
use Rattle.history_reading.specs.Reading.{answered, answered_frame}

-- some frame, for a read past the end
abbrev vacant : CallFrame
vacant = Dispatch (record { seq = pos 0; route = pos 0; number = 0 })

-- the innermost of one more frame comes first, and so after a write in its place
inward-suc : (xs : List CallFrame) (n : ℕ) (d : CallFrame) → n < length xs → reverse (take (suc n) xs) ≡ get_or xs n d ∷ reverse (take n xs)
inward-suc xs n d h = ap reverse (take-suc xs n d h) ∙ reverse-append (take n xs) (get_or xs n d ∷ [])

inward-set : (xs : List CallFrame) (n : ℕ) (y : CallFrame) → n < length xs → reverse (take (suc n) (set xs n y)) ≡ y ∷ reverse (take n xs)
inward-set xs n y h = ap reverse (take-suc-set xs n y h) ∙ reverse-append (take n xs) (y ∷ [])

hit : (n : ℤ) (frame : CallFrame) (below : List CallFrame) → is_wait_for n frame ≡ true → answered n (frame ∷ below) ≡ answered_frame frame ∷ below
hit n frame below h = ap (λ b. cond b (answered_frame frame ∷ below) (frame ∷ answered n below)) h

miss : (n : ℤ) (frame : CallFrame) (below : List CallFrame) → is_wait_for n frame ≡ false → answered n (frame ∷ below) ≡ frame ∷ answered n below
miss n frame below h = ap (λ b. cond b (answered_frame frame ∷ below) (frame ∷ answered n below)) h

-- where no frame is the wait, nothing is answered
none_below : (m : ℤ) (xs : List CallFrame) (n : ℕ) → n ≤ length xs → ((k : ℕ) (d : CallFrame) → k < n → is_wait_for m (get_or xs k d) ≡ false) → reverse (take n xs) ≡ answered m (reverse (take n xs))
none_below m xs zero h none = refl
none_below m xs (suc n) h none =
    let step = inward-suc xs n vacant (omega arith) in
    let other = miss m (get_or xs n vacant) (reverse (take n xs)) (none n vacant (omega arith)) in
    let rest = none_below m xs n (omega arith) (λ k d lt. none k d (omega arith)) in
    step ∙ ap (λ ys. get_or xs n vacant ∷ ys) rest ∙ sym other ∙ ap (answered m) (sym step)

-- where no frame above it is the wait, the one in the place i is answered
set_at : (m : ℤ) (xs : List CallFrame) (i n : ℕ) → i < n → n ≤ length xs → is_wait_for m (get_or xs i vacant) ≡ true → ((k : ℕ) (d : CallFrame) → i < k → k < n → is_wait_for m (get_or xs k d) ≡ false) → reverse (take n (set xs i (answered_frame (get_or xs i vacant)))) ≡ answered m (reverse (take n xs))
set_at m xs i zero lt h waits none = absurd (omega arith)
set_at m xs i (suc n) lt h waits none =
    let y = answered_frame (get_or xs i vacant) in
    let step = inward-suc xs n vacant (omega arith) in
    ⊎_elim
    (λ (e : i ≡ n).
    let first = hit m (get_or xs i vacant) (reverse (take i xs)) waits in
    let here = inward-set xs i y (omega arith) in
    let there = inward-suc xs i vacant (omega arith) in
    rw (sym e) (here ∙ sym first ∙ ap (answered m) (sym there)))
    (⊎_elim
    (λ (below : i < n).
    let other_frame = miss m (get_or xs n vacant) (reverse (take n xs)) (none n vacant (omega arith) (omega arith)) in
    let rest = set_at m xs i n below (omega arith) waits (λ k d gt lt2. none k d (omega arith) (omega arith)) in
    let other : n ≢ i = omega arith in
    let same = get_or-set_other xs i n y vacant other in
    let more = inward-suc (set xs i y) n vacant (omega (arith, length-set xs i y)) in
    more ∙ ap (λ f. f ∷ reverse (take n (set xs i y))) same ∙ ap (λ ys. get_or xs n vacant ∷ ys) rest ∙ sym other_frame ∙ ap (answered m) (sym step))
    (λ (above : n < i). absurd (omega arith)))
    (cases_order i n)

-- the same as the loop knows it, with its reads at any default
pub answered_at : (m : ℤ) (now was : List CallFrame) (d e y : CallFrame) (i : ℕ) → now ≡ was → i < length now → is_wait_for m (get_or now i d) ≡ true → y ≡ answered_frame (get_or now i e) → ((k : ℕ) (f : CallFrame) → i < k → k < length now → is_wait_for m (get_or now k f) ≡ false) → reverse (set now i y) ≡ answered m (reverse was)
answered_at m now was d e y i same lt waits at none =
    let read_d = get_or_default now i vacant d lt in
    let read_e = get_or_default now i e vacant lt in
    let found = set_at m now i (length now) lt (omega arith) (ap (is_wait_for m) read_d ∙ waits) none in
    let whole : take (length now) (set now i (answered_frame (get_or now i vacant))) ≡ set now i (answered_frame (get_or now i vacant)) = ap (λ n. take n (set now i (answered_frame (get_or now i vacant)))) (sym (length-set now i (answered_frame (get_or now i vacant)))) ∙ take-length (set now i (answered_frame (get_or now i vacant))) in
    ap (λ g. reverse (set now i g)) (at ∙ ap answered_frame read_e) ∙ ap reverse (sym whole) ∙ found ∙ ap (λ ys. answered m (reverse ys)) (take-length now ∙ same)

pub answered_none : (m : ℤ) (now was : List CallFrame) → now ≡ was → ((k : ℕ) (f : CallFrame) → k < length now → is_wait_for m (get_or now k f) ≡ false) → reverse now ≡ answered m (reverse was)
answered_none m now was same none =
    ap reverse (sym (take-length now)) ∙ none_below m now (length now) (omega arith) none ∙ ap (λ ys. answered m (reverse ys)) (take-length now ∙ same)
