-- Counts of the elements of a list that pass a test, and numbers that are counted once.
use Rattle.std.proofs.Common.{◌≡◌, ℕ, zero, suc, ◌+◌, ◌≤◌, ℤ, Bool, true, false, ◌||◌, int_eq, List, [], ◌∷◌, ◌++◌, refl, sym, ap, ◌∙◌, arith}
use Rattle.std.specs.List.{AllByRecursion, list_any}
use Rattle.std.proofs.lemmas.Bool.Decides.{Decides-int_eq}
use Rattle.ipdl_base.specs.declared.kinds.Side.{Side}
use Rattle.channel_model.specs.Numbers.{seq_of}
use Rattle.channel_model.specs.Requests.{IsSeqOf}
use Rattle.channel_model.proofs.Numbered.{more_seqs, next-is_free}
use Rattle.channel_laws.specs.Counts.{one_if, how_many, AreNumberedOnce}

-- Lists

pub many-append : {A : Type 0} (test : A → Bool) (xs ys : List A) → how_many test (xs ++ ys) ≡ how_many test xs + how_many test ys
many-append test [] ys = omega arith
many-append test (x ∷ xs) ys = let rest = many-append test xs ys in omega arith

-- one more in the middle
pub many-middle : {A : Type 0} (test : A → Bool) (front : List A) (x : A) (back : List A) → how_many test (front ++ x ∷ back) ≡ one_if (test x) + how_many test (front ++ back)
many-middle test [] x back = refl
many-middle test (y ∷ front) x back = let rest = many-middle test front x back in omega arith

-- one more at the end
pub many-last : {A : Type 0} (test : A → Bool) (xs : List A) (x : A) → how_many test (xs ++ x ∷ []) ≡ how_many test xs + one_if (test x)
many-last test xs x = let all = many-append test xs (x ∷ []) in omega arith

none-case : {A : Type 0} (test : A → Bool) (b : Bool) (x : A) (xs : List A) → test x ≡ b → one_if b + how_many test xs ≡ 0 → (test x ≡ false) × (how_many test xs ≡ 0)
none-case test true x xs is e = absurd (omega arith)
none-case test false x xs is e = (is, omega arith)

-- if no element is counted, each fails the test
pub none-passes : {A : Type 0} (test : A → Bool) (xs : List A) → how_many test xs ≡ 0 → AllByRecursion (λ x. test x ≡ false) xs
none-passes test [] e = tt
none-passes test (x ∷ xs) e = let r = none-case test (test x) x xs refl e in (r.0, none-passes test xs r.1)

-- and no element of the list passes
pub none-any : {A : Type 0} (test : A → Bool) (xs : List A) → how_many test xs ≡ 0 → list_any test xs ≡ false
none-any test [] e = refl
none-any test (x ∷ xs) e = let r = none-case test (test x) x xs refl e in ap (λ (b : Bool). b || list_any test xs) r.0 ∙ none-any test xs r.1

any-case : {A : Type 0} (test : A → Bool) (b : Bool) (xs : List A) → (1 ≤ how_many test xs → list_any test xs ≡ true) → 1 ≤ one_if b + how_many test xs → b || list_any test xs ≡ true
any-case test true xs rest h = refl
any-case test false xs rest h = rest (omega arith)

-- if some are counted, an element of the list passes
pub some-any : {A : Type 0} (test : A → Bool) (xs : List A) → 1 ≤ how_many test xs → list_any test xs ≡ true
some-any test [] h = absurd (omega arith)
some-any test (x ∷ xs) h = any-case test (test x) xs (some-any test xs) h

-- Numbers

pub int-same : (n : ℤ) → int_eq n n ≡ true
int-same n = (Decides-int_eq n n).1 refl

one-more : (side : Side) (sent : ℕ) (count : ℤ → ℕ) (n m : ℤ) (b : Bool) → AreNumberedOnce side sent count → n ≡ seq_of side (sent + 1) → int_eq n m ≡ b → (c : ℕ) → c ≡ count m → c + one_if b ≤ 1
one-more side sent count n m false h is same c at = let low = h.once m in omega arith
one-more side sent count n m true h is same zero at = omega arith
one-more side sent count n m true h is same (suc c) at = absurd (next-is_free side sent m (h.known m (let e = at in omega arith)) (sym ((Decides-int_eq n m).0 same) ∙ is))

more-known : (side : Side) (sent : ℕ) (count : ℤ → ℕ) (n m : ℤ) (b : Bool) → AreNumberedOnce side sent count → n ≡ seq_of side (sent + 1) → int_eq n m ≡ b → 1 ≤ count m + one_if b → IsSeqOf side (sent + 1) m
more-known side sent count n m true h is same low = (sent + 1, omega arith, omega arith, sym ((Decides-int_eq n m).0 same) ∙ is)
more-known side sent count n m false h is same low = more_seqs side sent m (h.known m (omega arith))

-- the next number is counted once more
pub next-once : (side : Side) (sent : ℕ) (count next : ℤ → ℕ) (n : ℤ) → AreNumberedOnce side sent count → n ≡ seq_of side (sent + 1) → ((m : ℤ) → next m ≡ count m + one_if (int_eq n m)) → AreNumberedOnce side (sent + 1) next
next-once side sent count next n h is more = record {
  once = λ m. let e = more m in let low = one-more side sent count n m (int_eq n m) h is refl (count m) refl in omega arith;
  known = λ m low. more-known side sent count n m (int_eq n m) h is refl (let e = more m in omega arith);
}

-- a smaller count keeps numbers counted once
pub fewer-once : (side : Side) (sent : ℕ) (count next : ℤ → ℕ) → AreNumberedOnce side sent count → ((m : ℤ) → next m ≤ count m) → AreNumberedOnce side sent next
fewer-once side sent count next h less = record {
  once = λ m. let e = less m in let low = h.once m in omega arith;
  known = λ m low. h.known m (let e = less m in omega arith);
}
