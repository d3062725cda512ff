-- Comparing texts.
use Rattle.std.proofs.Common.{◌≡◌, ◌≢◌, ◌∙◌, ◌==◌, ℕ, Bool, true, false, List, [], ◌∷◌, refl, sym, ap, ap₂, arith, true≢false}
use Rattle.std.specs.Str.{bytes_eq}
use Rattle.std.proofs.lemmas.Bool.{and_parts, and_from}
use Rattle.std.proofs.lemmas.Bool.Decides.{nat_tests}

pub same_byte : (b : ℕ) → (b == b) ≡ true
same_byte b = grind (arith, nat_tests)

pub other_byte : (b c : ℕ) → b ≢ c → (b == c) ≡ false
other_byte b c ne = grind (arith, nat_tests)

pub byte_is : (b c : ℕ) → (b == c) ≡ true → b ≡ c
byte_is b c e = grind (arith, nat_tests)

pub byte_is_not : (b c : ℕ) → (b == c) ≡ false → b ≢ c
byte_is_not b c e = grind (arith, nat_tests)

-- a text is itself
pub same_text : (text : List ℕ) → bytes_eq text text ≡ true
same_text [] = refl
same_text (b ∷ bs) = and_from (b == b) (bytes_eq bs bs) (same_byte b) (same_text bs)

-- texts that are the same by the test are the same
pub text_is : (a b : List ℕ) → bytes_eq a b ≡ true → a ≡ b
text_is [] [] e = refl
text_is [] (y ∷ ys) e = cc
text_is (x ∷ xs) [] e = cc
text_is (x ∷ xs) (y ∷ ys) e =
    let both = and_parts (x == y) (bytes_eq xs ys) e in
    ap₂ (λ (h : ℕ) (t : List ℕ). h ∷ t) (byte_is x y both.0) (text_is xs ys both.1)

-- a test that fails fails the other way too
pub differs : (a b : List ℕ) → bytes_eq a b ≡ false → bytes_eq b a ≡ false
differs a b e = go (bytes_eq b a) refl
  where
    go : (t : Bool) → bytes_eq b a ≡ t → t ≡ false
    go true f = absurd (true≢false (sym (same_text a) ∙ ap (bytes_eq a) (sym (text_is b a f)) ∙ e))
    go false f = refl
