-- What has begun and not ended, by counts: how that changes with one more at the end.
use Rattle.std.proofs.Common.{◌≡◌, ℕ, zero, suc, ◌+◌, ◌-◌, ◌≤◌, ◌<◌, ◌==◌, leb, Bool, true, false, ◌&&◌, if◌then◌else◌, List, [], ◌∷◌, ◌++◌, map, fold, count_by, refl, sym, ap, ◌∙◌, arith}
use Rattle.std.specs.List.{list_all}
use Rattle.std.proofs.lemmas.List.Folds.{list_all-map}
use Rattle.law_statements.specs.Stack.{prefixes, is_unended}
use Rattle.std.proofs.lemmas.Bool.{leb-true, leb-false, le-leb, lt-leb, ne_eqb}

-- the number by which ends exceed begins, at most, in what follows
abbrev pub step : Bool → Bool → ℕ → ℕ
step true e n = n - 1
step false true n = n + 1
step false false n = n

abbrev pub excess : {A : Type 0} → (A → Bool) → (A → Bool) → List A → ℕ
excess begins ends [] = 0
excess begins ends (x ∷ xs) = step (begins x) (ends x) (excess begins ends xs)

-- the number that have begun and not ended
abbrev pub kept : Bool → ℕ → ℕ → ℕ
kept true zero u = u + 1
kept true (suc n) u = u
kept false n u = u

abbrev pub unended : {A : Type 0} → (A → Bool) → (A → Bool) → List A → ℕ
unended begins ends [] = 0
unended begins ends (x ∷ xs) = kept (begins x) (excess begins ends xs) (unended begins ends xs)

-- Counts and tests

fold-plus : {A : Type 0} (p : A → Bool) (xs : List A) (k n : ℕ) → fold (λ m y. m + (if p y then 1 else 0)) (k + n) xs ≡ k + fold (λ m y. m + (if p y then 1 else 0)) n xs
fold-plus p [] k n = refl
fold-plus p (x ∷ xs) k n = ap (λ m. fold (λ m y. m + (if p y then 1 else 0)) m xs) assoc ∙ fold-plus p xs k (n + (if p x then 1 else 0))
  where
    assoc : k + n + (if p x then 1 else 0) ≡ k + (n + (if p x then 1 else 0))
    assoc = omega arith

count-cons : {A : Type 0} (p : A → Bool) (x : A) (xs : List A) → count_by p (x ∷ xs) ≡ (if p x then 1 else 0) + count_by p xs
count-cons p x xs = ap (λ m. fold (λ m y. m + (if p y then 1 else 0)) m xs) flip ∙ fold-plus p xs (if p x then 1 else 0) 0
  where
    flip : 0 + (if p x then 1 else 0) ≡ (if p x then 1 else 0) + 0
    flip = omega arith

leb-same : (a b c d : ℕ) → (a ≤ b → c ≤ d) → (c ≤ d → a ≤ b) → leb a b ≡ leb c d
leb-same a b c d to from = by (leb c d) refl
  where
    by : (t : Bool) → leb c d ≡ t → leb a b ≡ leb c d
    by true is = le-leb a b (from (leb-true c d is)) ∙ sym is
    by false is = lt-leb a b (above (leb-false c d is)) ∙ sym is
      where
        above : d < c → b < a
        above h = by-above (leb a b) refl
          where
            by-above : (t : Bool) → leb a b ≡ t → b < a
            by-above true e = absurd (omega (arith, h, to (leb-true a b e)))
            by-above false e = leb-false a b e

all-same : {A : Type 0} (p q : A → Bool) (xs : List A) → ((x : A) → p x ≡ q x) → list_all p xs ≡ list_all q xs
all-same p q [] h = refl
all-same p q (x ∷ xs) h = ap (λ b. b && list_all p xs) (h x) ∙ ap (λ b. q x && b) (all-same p q xs h)

-- in no prefix do the ends exceed the begins by more than this number
within : {A : Type 0} → (A → Bool) → (A → Bool) → ℕ → List A → Bool
within begins ends d front = leb (count_by ends front) (count_by begins front + d)

all-within : {A : Type 0} → (A → Bool) → (A → Bool) → ℕ → List A → Bool
all-within begins ends d xs = list_all (within begins ends d) (prefixes xs)

first-within : {A : Type 0} (begins ends : A → Bool) (d : ℕ) → within begins ends d [] ≡ true
unfolding within
first-within begins ends d = le-leb 0 (0 + d) (omega arith)

following-first : {A : Type 0} (begins ends : A → Bool) (d : ℕ) (x : A) (xs : List A) → all-within begins ends d (x ∷ xs) ≡ list_all (λ front. within begins ends d (x ∷ front)) (prefixes xs)
unfolding all-within
following-first begins ends d x xs =
    ap (λ b. b && list_all (within begins ends d) (map (λ front. x ∷ front) (prefixes xs))) (first-within begins ends d) ∙ list_all-map (within begins ends d) (λ front. x ∷ front) (prefixes xs)

counts : {A : Type 0} (begins ends : A → Bool) (d : ℕ) (x : A) (front : List A)
    → within begins ends d (x ∷ front) ≡ leb ((if ends x then 1 else 0) + count_by ends front) ((if begins x then 1 else 0) + count_by begins front + d)
unfolding within
counts begins ends d x front =
    ap (λ m. leb m (count_by begins (x ∷ front) + d)) (count-cons ends x front) ∙ ap (λ m. leb ((if ends x then 1 else 0) + count_by ends front) (m + d)) (count-cons begins x front)

none-within : {A : Type 0} (begins ends : A → Bool) (xs : List A) (p : List A → Bool) → p [] ≡ false → list_all p (prefixes xs) ≡ false
none-within begins ends [] p e = ap (λ b. b && true) e
none-within begins ends (x ∷ xs) p e = ap (λ b. b && list_all p (map (λ front. x ∷ front) (prefixes xs))) e

step-within : {A : Type 0} (begins ends : A → Bool) (x : A) (xs : List A) → ((d : ℕ) → all-within begins ends d xs ≡ leb (excess begins ends xs) d)
    → (b e : Bool) → begins x ≡ b → ends x ≡ e → (b ≡ true → e ≡ false) → (d : ℕ) → list_all (λ front. within begins ends d (x ∷ front)) (prefixes xs) ≡ leb (step b e (excess begins ends xs)) d
unfolding within all-within
step-within begins ends x xs more true e bis eis apart d =
    all-same (λ front. within begins ends d (x ∷ front)) (within begins ends (d + 1)) (prefixes xs) one ∙ more (d + 1)
    ∙ leb-same (excess begins ends xs) (d + 1) (excess begins ends xs - 1) d (λ h. omega (arith, h)) (λ h. omega (arith, h))
  where
    one : (front : _) → within begins ends d (x ∷ front) ≡ within begins ends (d + 1) front
    one front =
        counts begins ends d x front
        ∙ ap (λ (t : Bool). leb ((if t then 1 else 0) + count_by ends front) ((if begins x then 1 else 0) + count_by begins front + d)) (eis ∙ apart refl)
        ∙ ap (λ (t : Bool). leb (0 + count_by ends front) ((if t then 1 else 0) + count_by begins front + d)) bis
        ∙ leb-same (0 + count_by ends front) (1 + count_by begins front + d) (count_by ends front) (count_by begins front + (d + 1)) (λ h. omega (arith, h)) (λ h. omega (arith, h))
step-within begins ends x xs more false true bis eis apart zero =
    none-within begins ends xs (λ front. within begins ends 0 (x ∷ front)) (counts begins ends 0 x [] ∙ ap (λ (t : Bool). leb ((if t then 1 else 0) + 0) ((if begins x then 1 else 0) + 0 + 0)) eis ∙ ap (λ (t : Bool). leb (1 + 0) ((if t then 1 else 0) + 0 + 0)) bis)
    ∙ sym (lt-leb (excess begins ends xs + 1) 0 (omega arith))
step-within begins ends x xs more false true bis eis apart (suc d) =
    all-same (λ front. within begins ends (suc d) (x ∷ front)) (within begins ends d) (prefixes xs) one ∙ more d
    ∙ leb-same (excess begins ends xs) d (excess begins ends xs + 1) (suc d) (λ h. omega (arith, h)) (λ h. omega (arith, h))
  where
    one : (front : _) → within begins ends (suc d) (x ∷ front) ≡ within begins ends d front
    one front =
        counts begins ends (suc d) x front
        ∙ ap (λ (t : Bool). leb ((if t then 1 else 0) + count_by ends front) ((if begins x then 1 else 0) + count_by begins front + suc d)) eis
        ∙ ap (λ (t : Bool). leb (1 + count_by ends front) ((if t then 1 else 0) + count_by begins front + suc d)) bis
        ∙ leb-same (1 + count_by ends front) (0 + count_by begins front + suc d) (count_by ends front) (count_by begins front + d) (λ h. omega (arith, h)) (λ h. omega (arith, h))
step-within begins ends x xs more false false bis eis apart d = all-same (λ front. within begins ends d (x ∷ front)) (within begins ends d) (prefixes xs) one ∙ more d
  where
    one : (front : _) → within begins ends d (x ∷ front) ≡ within begins ends d front
    one front =
        counts begins ends d x front
        ∙ ap (λ (t : Bool). leb ((if t then 1 else 0) + count_by ends front) ((if begins x then 1 else 0) + count_by begins front + d)) eis
        ∙ ap (λ (t : Bool). leb (0 + count_by ends front) ((if t then 1 else 0) + count_by begins front + d)) bis
        ∙ leb-same (0 + count_by ends front) (0 + count_by begins front + d) (count_by ends front) (count_by begins front + d) (λ h. omega (arith, h)) (λ h. omega (arith, h))

within-excess : {A : Type 0} (begins ends : A → Bool) → ((x : A) → begins x ≡ true → ends x ≡ false) → (xs : List A) (d : ℕ) → all-within begins ends d xs ≡ leb (excess begins ends xs) d
unfolding within all-within
within-excess begins ends apart [] d = ap (λ b. b && true) (first-within begins ends d) ∙ sym (le-leb 0 d (omega arith))
within-excess begins ends apart (x ∷ xs) d =
    following-first begins ends d x xs ∙ step-within begins ends x xs (within-excess begins ends apart xs) (begins x) (ends x) refl refl (apart x) d

leb-zero : (n : ℕ) → leb n 0 ≡ (n == 0)
leb-zero zero = refl
leb-zero (suc n) = lt-leb (suc n) 0 (omega arith) ∙ sym (ne_eqb (suc n) 0 (λ e. omega (arith, e)))

pub unended-is : {A : Type 0} (begins ends : A → Bool) → ((x : A) → begins x ≡ true → ends x ≡ false) → (xs : List A) → is_unended begins ends xs ≡ (excess begins ends xs == 0)
unfolding within all-within
unended-is begins ends apart xs =
    all-same (λ front. leb (count_by ends front) (count_by begins front)) (within begins ends 0) (prefixes xs) (λ front. ap (leb (count_by ends front)) (plus (count_by begins front)))
    ∙ within-excess begins ends apart xs 0 ∙ leb-zero (excess begins ends xs)
  where
    plus : (n : ℕ) → n ≡ n + 0
    plus n = omega arith

-- One more at the end

pub excess-same : {A : Type 0} (begins ends : A → Bool) (xs : List A) (w : A) → ends w ≡ false → excess begins ends (xs ++ w ∷ []) ≡ excess begins ends xs
excess-same begins ends [] w e = ap (λ (t : Bool). step (begins w) t 0) e ∙ by (begins w)
  where
    by : (b : Bool) → step b false 0 ≡ 0
    by true = refl
    by false = refl
excess-same begins ends (x ∷ xs) w e = ap (step (begins x) (ends x)) (excess-same begins ends xs w e)

record Ended (n u m : ℕ) : Type 0 where
  none : u ≡ 0 → m ≡ n + 1
  some : 0 < u → m ≡ n

ended-step : (b e : Bool) (n u m : ℕ) → Ended n u m → Ended (step b e n) (kept b n u) (step b e m)
ended-step true e zero zero m h = record { none = λ z. absurd (omega (arith, z)); some = λ p. omega (arith, h.none refl) }
ended-step true e zero (suc u) m h = record { none = λ z. absurd (omega (arith, z)); some = λ p. ap (λ k. k - 1) (h.some (omega arith)) }
ended-step true e (suc n) u m h = record { none = λ z. omega (arith, h.none z); some = λ p. omega (arith, h.some p) }
ended-step false true n u m h = record { none = λ z. omega (arith, h.none z); some = λ p. omega (arith, h.some p) }
ended-step false false n u m h = h

excess-ended : {A : Type 0} (begins ends : A → Bool) (xs : List A) (w : A) → begins w ≡ false → ends w ≡ true → Ended (excess begins ends xs) (unended begins ends xs) (excess begins ends (xs ++ w ∷ []))
excess-ended begins ends [] w b e = record { none = λ z. ap (λ (t : Bool). step t (ends w) 0) b ∙ ap (λ (t : Bool). step false t 0) e; some = λ p. absurd (omega (arith, p)) }
excess-ended begins ends (x ∷ xs) w b e = ended-step (begins x) (ends x) (excess begins ends xs) (unended begins ends xs) (excess begins ends (xs ++ w ∷ [])) (excess-ended begins ends xs w b e)

pub unended-same : {A : Type 0} (begins ends : A → Bool) → ((x : A) → begins x ≡ true → ends x ≡ false) → (xs : List A) (w : A) → ends w ≡ false → is_unended begins ends (xs ++ w ∷ []) ≡ is_unended begins ends xs
unended-same begins ends apart xs w e = unended-is begins ends apart (xs ++ w ∷ []) ∙ ap (λ n. n == 0) (excess-same begins ends xs w e) ∙ sym (unended-is begins ends apart xs)

-- where an end comes, an unended begin stays so exactly where another after it is unended too
pub unended-kept : {A : Type 0} (begins ends : A → Bool) → ((x : A) → begins x ≡ true → ends x ≡ false) → (xs : List A) (w : A) → begins w ≡ false → ends w ≡ true → 0 < unended begins ends xs
    → is_unended begins ends (xs ++ w ∷ []) ≡ is_unended begins ends xs
unended-kept begins ends apart xs w b e p = unended-is begins ends apart (xs ++ w ∷ []) ∙ ap (λ n. n == 0) ((excess-ended begins ends xs w b e).some p) ∙ sym (unended-is begins ends apart xs)

pub unended-ends : {A : Type 0} (begins ends : A → Bool) → ((x : A) → begins x ≡ true → ends x ≡ false) → (xs : List A) (w : A) → begins w ≡ false → ends w ≡ true → unended begins ends xs ≡ 0
    → is_unended begins ends (xs ++ w ∷ []) ≡ false
unended-ends begins ends apart xs w b e z = unended-is begins ends apart (xs ++ w ∷ []) ∙ ne_eqb (excess begins ends (xs ++ w ∷ [])) 0 (λ n. omega (arith, n, (excess-ended begins ends xs w b e).none z))

-- one more that begins is counted if it is unended
kept-if : (n u : ℕ) → kept true n u ≡ (if n == 0 then u + 1 else u)
kept-if zero u = refl
kept-if (suc n) u = ap (λ (t : Bool). if t then u + 1 else u) (sym (ne_eqb (suc n) 0 (λ e. omega (arith, e))))

pub unended-cons : {A : Type 0} (begins ends : A → Bool) → ((x : A) → begins x ≡ true → ends x ≡ false) → (x : A) (xs : List A)
    → unended begins ends (x ∷ xs) ≡ (if begins x && is_unended begins ends xs then unended begins ends xs + 1 else unended begins ends xs)
unended-cons begins ends apart x xs = by (begins x) ∙ ap (λ (t : Bool). if begins x && t then unended begins ends xs + 1 else unended begins ends xs) (sym (unended-is begins ends apart xs))
  where
    by : (b : Bool) → kept b (excess begins ends xs) (unended begins ends xs) ≡ (if b && (excess begins ends xs == 0) then unended begins ends xs + 1 else unended begins ends xs)
    by true = kept-if (excess begins ends xs) (unended begins ends xs)
    by false = refl

-- what has ended stays ended
pub unended-before : {A : Type 0} (begins ends : A → Bool) → ((x : A) → begins x ≡ true → ends x ≡ false) → (xs : List A) (w : A) → is_unended begins ends (xs ++ w ∷ []) ≡ true → is_unended begins ends xs ≡ true
unended-before begins ends apart xs w e = by (ends w) refl (begins w) refl
  where
    more : begins w ≡ false → ends w ≡ true → (u : ℕ) → unended begins ends xs ≡ u → is_unended begins ends xs ≡ true
    more b is zero z = cc (unended-ends begins ends apart xs w b is z, e)
    more b is (suc u) z = sym (unended-kept begins ends apart xs w b is (omega (arith, z))) ∙ e

    by : (t : Bool) → ends w ≡ t → (b : Bool) → begins w ≡ b → is_unended begins ends xs ≡ true
    by false is b bis = sym (unended-same begins ends apart xs w is) ∙ e
    by true is true bis = cc (apart w bis, is)
    by true is false bis = more bis is (unended begins ends xs) refl
