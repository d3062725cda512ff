-- The number 2 in decimal digits.
use Rattle.std.proofs.Common.{◌≡◌, ◌↔◌, ◌∙◌, ◌==◌, ◌&&◌, ◌-◌, ℕ, Bool, true, false, List, [], ◌∷◌, ◌++◌, length, take, drop, refl, sym, ap}
use Rattle.std.specs.Cmp.Lexicographic.{pointwise}
use Rattle.std.specs.List.{AllByRecursion, list_all}
use Rattle.std.specs.Prelude.{nat_eq}
use Rattle.std.proofs.lemmas.Bool.{and_from}
use Rattle.std.proofs.lemmas.List.{take-append-drop, append_cancel_right}
use Rattle.std.proofs.lemmas.Slice.Eq.{bytes_eq-Decides}
use Rattle.command_words.specs.Frames.{IsTwo}
use Rattle.command_words.proofs.Comparisons.{byte_is, same_byte}

both : (a b : Bool) → (a && b) ≡ true → (a ≡ true) × (b ≡ true)
both true b e = (refl, e)
both false b e = absurd (let x : ⊥ = cc in x)

zeros_of : (digits : List ℕ) → list_all (λ b. b == 48) digits ≡ true → AllByRecursion (λ b. b ≡ 48) digits
zeros_of [] e = tt
zeros_of (d ∷ ds) e = let parts = both (d == 48) (list_all (λ b. b == 48) ds) e in (byte_is d 48 parts.0, zeros_of ds parts.1)

are_zeros : (digits : List ℕ) → AllByRecursion (λ b. b ≡ 48) digits → list_all (λ b. b == 48) digits ≡ true
are_zeros [] h = refl
are_zeros (d ∷ ds) h = and_from (d == 48) (list_all (λ b. b == 48) ds) (ap (λ b. b == 48) h.0 ∙ same_byte 48) (are_zeros ds h.1)

-- a text that ends with the digit 2 is the number 2 if zeros are before it
pub two_is : (text zeros : List ℕ) → pointwise nat_eq (drop (length text - 1) text) (50 ∷ []) ≡ true → zeros ≡ take (length text - 1) text → (list_all (λ b. b == 48) zeros ≡ true) ↔ IsTwo text
two_is text zeros last front =
    let whole : text ≡ zeros ++ 50 ∷ [] =
    sym (take-append-drop (length text - 1) text) ∙ ap (λ xs. take (length text - 1) text ++ xs) ((bytes_eq-Decides (drop (length text - 1) text) (50 ∷ [])).0 last) ∙ ap (λ xs. xs ++ 50 ∷ []) (sym front) in (
      λ all. record { zeros = zeros; each = zeros_of zeros all; text_is = whole },
      λ two. let same : zeros ≡ two.zeros = append_cancel_right zeros two.zeros (50 ∷ []) (sym whole ∙ two.text_is) in ap (list_all (λ b. b == 48)) same ∙ are_zeros two.zeros two.each,
    )
