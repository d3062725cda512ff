-- The test that finds a word among the reserved ones.
use Rattle.std.proofs.Common.{◌≡◌, ℕ, Bool, ◌==◌, List, length, filter, Contains, true, rules, refl, sym, subst, ap, ◌∙◌, map, [], ◌∷◌, ◌||◌, Bor}
use Rattle.std.specs.Prelude.{◌↔◌, IsTrue}
use Rattle.std.specs.List.{list_any}
use Rattle.std.specs.Str.{bytes_eq}
use Rattle.std.specs.Bool.{Decides}
use Rattle.std.proofs.lemmas.Bool.Decides.{Decides-by_or}
use Rattle.std.proofs.lemmas.Slice.Eq.{bytes_eq-Decides}
use Rattle.std.proofs.lemmas.List.Elements.{Decides-contains}
use Rattle.std.proofs.lemmas.Map.Views.{any-filter_same}
use Rattle.ipdl_lex.specs.Pieces.{reserved_words}
use Rattle.ipdl_lex.specs.Scan.{is_reserved, reserved_of_length}

-- some word of a list has these bytes exactly if the list contains them
Contains-decides : (words : List (List ℕ)) (bytes : List ℕ) → Decides (list_any (λ w. bytes_eq bytes w) words) (Contains words bytes)
Contains-decides words bytes =
    Decides-contains words bytes _
    (Decides-by_or (λ w. bytes_eq bytes w) (λ w. w ≡ bytes) (list_any (λ w. bytes_eq bytes w))
    (λ w. let d = bytes_eq-Decides bytes w in (λ h. sym (d.0 h), λ e. d.1 (sym e))) refl (λ _ _. refl) words)

pub reserved_decided : (word : List ℕ) → IsTrue (is_reserved word) ↔ Contains reserved_words word
reserved_decided word = Contains-decides reserved_words word

-- words with the same bytes have the same length
as_long : (word w : List ℕ) → bytes_eq word w ≡ true → (length w == length word) ≡ true
as_long word w same = subst (λ (u : List ℕ). (length u == length word) ≡ true) ((bytes_eq-Decides word w).0 same) (search rules)

among_as_long : (words : List (List ℕ)) (word : List ℕ) → list_any (λ w. bytes_eq word w) (filter (λ w. length w == length word) words) ≡ list_any (λ w. bytes_eq word w) words
among_as_long words word = any-filter_same (λ w. bytes_eq word w) (λ w. length w == length word) true (as_long word) words

-- a test asks the same of words and of references to them
any_after : (p : List ℕ → Bool) (words : List (Bor (List ℕ))) → list_any (λ w. p w.now) words ≡ list_any p (map (λ (w : Bor (List ℕ)). w.now) words)
any_after p [] = refl
any_after p (w ∷ words) = ap (λ b. p w.now || b) (any_after p words)

-- the same as the code does it, of words that it has by reference
pub found_as_long : (word : List ℕ) (words : List (Bor (List ℕ))) → map (λ (w : Bor (List ℕ)). w.now) words ≡ reserved_of_length (length word) → IsTrue (list_any (λ w. bytes_eq word w.now) words) ↔ Contains reserved_words word
found_as_long word words same =
    let found = any_after (λ w. bytes_eq word w) words ∙ (ap (list_any (λ w. bytes_eq word w)) same ∙ among_as_long reserved_words word) in
    subst (λ (b : Bool). IsTrue b ↔ Contains reserved_words word) (sym found) (reserved_decided word)
