-- When texts are the same, and how they end.
use Rattle.std.proofs.Common.{◌≡◌, ℕ, ◌-◌, Bool, true, false, List, ◌++◌, length, take, drop, refl, sym, ◌∙◌, ap, arith}
use Rattle.std.specs.Prelude.{nat_eq}
use Rattle.std.specs.Bool.{Decides}
use Rattle.std.specs.Cmp.Lexicographic.{pointwise}
use Rattle.std.proofs.lemmas.Bool.Decides.{Decides-eqb}
use Rattle.std.proofs.lemmas.List.{take-append-drop, length-append}
use Rattle.std.proofs.lemmas.Slice.Eq.{slice_eq-Decides}
use Rattle.std.proofs.Math.Seq.{drop-append_seam}

-- by the two answers of a test
pub by_test : {P : Type 0} (t : Bool) → (t ≡ true → P) → (t ≡ false → P) → P
by_test true one two = one refl
by_test false one two = two refl

-- whether two texts are the same, byte by byte
abbrev same : List ℕ → List ℕ → Bool
same one other = pointwise nat_eq one other

-- the test of two texts says whether they are the same
pub decided : (xs ys : List ℕ) → Decides (same xs ys) (xs ≡ ys)
decided xs ys = slice_eq-Decides Decides-eqb xs ys (same xs ys) refl

pub same_is : (xs ys : List ℕ) → same xs ys ≡ true → xs ≡ ys
same_is xs ys = (decided xs ys).0

pub is_itself : (xs : List ℕ) → same xs xs ≡ true
is_itself xs = (decided xs xs).1 refl

-- a text whose last bytes are the ending has the ending after some prefix
pub ends : (text ending : List ℕ) → same ending (drop (length text - length ending) text) ≡ true → (front : List ℕ) × (text ≡ front ++ ending)
ends text ending h =
    let n = length text - length ending in
    (take n text, sym (take-append-drop n text) ∙ ap (λ back. take n text ++ back) (sym (same_is ending (drop n text) h)))

-- a text that has the ending after a prefix has it as its last bytes
pub has_ending : (text ending front : List ℕ) → text ≡ front ++ ending → same ending (drop (length text - length ending) text) ≡ true
has_ending text ending front e =
    let n : length text - length ending ≡ length front = omega (arith, ap length e, length-append front ending) in
    (decided ending (drop (length text - length ending) text)).1 (sym (ap (λ k. drop k text) n ∙ ap (drop (length front)) e ∙ drop-append_seam front ending))
