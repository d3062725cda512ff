-- The order of words: it is strict and total, and it is decided.
use Rattle.std.proofs.Common.{◌≡◌, ◌⊎◌, ℕ, zero, suc, ◌<◌, ◌≤◌, Bool, true, false, List, [], ◌∷◌, refl, sym, ap, subst, ◌∙◌, inl, inr, ⊎_elim, arith}
use Rattle.std.proofs.lemmas.Bool.{cases_lt}
use Rattle.ipdl_base.specs.declared.kinds.Side.{Side}
use Rattle.ipdl_base.specs.declared.kinds.Side.TheVariants as sides
use Rattle.schedules.specs.declared.turn.Turn.{Turn}
use Rattle.explorations.specs.Words.{place_in_order, rank, Precedes, ends, differs, continues}

-- Letters

letter_at : ℕ → Turn
letter_at zero = record { side = sides.Parent; only_deliver = false }
letter_at (suc zero) = record { side = sides.Child; only_deliver = false }
letter_at (suc (suc zero)) = record { side = sides.Parent; only_deliver = true }
letter_at (suc (suc (suc n))) = record { side = sides.Child; only_deliver = true }

letter_again : (only : Bool) (side : Side) → letter_at (place_in_order only side) ≡ record { side = side; only_deliver = only }
unfolding letter_at
letter_again false sides.Parent = refl
letter_again false sides.Child = refl
letter_again true sides.Parent = refl
letter_again true sides.Child = refl

-- letters with the same rank are one letter
pub same_rank : (turn other : Turn) → rank turn ≡ rank other → turn ≡ other
same_rank turn other e = sym (letter_again turn.only_deliver turn.side) ∙ ap letter_at e ∙ letter_again other.only_deliver other.side

-- of two letters one is before the other, or they are one letter
pub letters_compared : (turn other : Turn) → (rank turn < rank other) ⊎ ((turn ≡ other) ⊎ (rank other < rank turn))
letters_compared turn other =
    ⊎_elim
    (λ (less : rank turn < rank other). inl less)
    (λ (most : rank other ≤ rank turn).
    ⊎_elim
    (λ (less : rank other < rank turn). inr (inr less))
    (λ (more : rank turn ≤ rank other). let e : rank turn ≡ rank other = omega (arith, most, more) in inr (inl (same_rank turn other e)))
    (cases_lt (rank other) (rank turn)))
    (cases_lt (rank turn) (rank other))

-- What precedes what

-- what it means for one word to precede another, by their first letters
abbrev pub Parts : List Turn → List Turn → Type 0
Parts [] [] = ⊥
Parts [] (other ∷ more) = Unit {0}
Parts (turn ∷ word) [] = ⊥
Parts (turn ∷ word) (other ∷ more) = (rank turn < rank other) ⊎ ((turn ≡ other) × Precedes word more)

pub parts : (word other : List Turn) → Precedes word other → Parts word other
parts _ _ (ends turn word) = tt
parts _ _ (differs turn other word more less) = inl less
parts _ _ (continues turn word more before) = inr (refl, before)

pub from_parts : (word other : List Turn) → Parts word other → Precedes word other
from_parts [] [] h = absurd h
from_parts [] (other ∷ more) h = ends other more
from_parts (turn ∷ word) [] h = absurd h
from_parts (turn ∷ word) (other ∷ more) (inl less) = differs turn other word more less
from_parts (turn ∷ word) (other ∷ more) (inr h) = subst (λ (letter : Turn). Precedes (turn ∷ word) (letter ∷ more)) h.0 (continues turn word more h.1)

-- no word precedes the empty word
pub none_before_empty : (word : List Turn) → Precedes word [] → ⊥
none_before_empty [] before = parts [] [] before
none_before_empty (turn ∷ word) before = parts (turn ∷ word) [] before

-- no word precedes itself
pub irreflexive : (word : List Turn) → Precedes word word → ⊥
irreflexive [] before = parts [] [] before
irreflexive (turn ∷ word) before =
    ⊎_elim (λ (less : rank turn < rank turn). absurd (omega (arith, less))) (λ (rest : (turn ≡ turn) × Precedes word word). irreflexive word rest.1) (parts (turn ∷ word) (turn ∷ word) before)

pub transitive : (one two three : List Turn) → Precedes one two → Precedes two three → Precedes one three
transitive one [] three before later = absurd (none_before_empty one before)
transitive one (t ∷ two) [] before later = absurd (none_before_empty (t ∷ two) later)
transitive [] (t ∷ two) (u ∷ three) before later = ends u three
transitive (s ∷ one) (t ∷ two) (u ∷ three) before later = by (transitive one two three) (parts (s ∷ one) (t ∷ two) before) (parts (t ∷ two) (u ∷ three) later)
  where
    by : (Precedes one two → Precedes two three → Precedes one three) → (rank s < rank t) ⊎ ((s ≡ t) × Precedes one two) → (rank t < rank u) ⊎ ((t ≡ u) × Precedes two three) → Precedes (s ∷ one) (u ∷ three)
    by shorter (inl less) (inl more) = differs s u one three (omega (arith, less, more))
    by shorter (inl less) (inr h) = differs s u one three (subst (λ (letter : Turn). rank s < rank letter) h.0 less)
    by shorter (inr h) (inl less) = differs s u one three (subst (λ (letter : Turn). rank letter < rank u) (sym h.0) less)
    by shorter (inr h) (inr k) = from_parts (s ∷ one) (u ∷ three) (inr (h.0 ∙ k.0, shorter h.1 k.1))

-- no two words precede one another
pub asymmetric : (word other : List Turn) → Precedes word other → Precedes other word → ⊥
asymmetric word other before after = irreflexive word (transitive word other word before after)

-- of two words one precedes the other, or they are one word
pub compared : (word other : List Turn) → Precedes word other ⊎ ((word ≡ other) ⊎ Precedes other word)
compared [] [] = inr (inl refl)
compared [] (other ∷ more) = inl (ends other more)
compared (turn ∷ word) [] = inr (inr (ends turn word))
compared (turn ∷ word) (other ∷ more) = by (compared word more) (letters_compared turn other)
  where
    by : Precedes word more ⊎ ((word ≡ more) ⊎ Precedes more word) → (rank turn < rank other) ⊎ ((turn ≡ other) ⊎ (rank other < rank turn)) → Precedes (turn ∷ word) (other ∷ more) ⊎ ((turn ∷ word ≡ other ∷ more) ⊎ Precedes (other ∷ more) (turn ∷ word))
    by rest (inl less) = inl (differs turn other word more less)
    by rest (inr (inr less)) = inr (inr (differs other turn more word less))
    by (inl before) (inr (inl same)) = inl (from_parts (turn ∷ word) (other ∷ more) (inr (same, before)))
    by (inr (inl equal)) (inr (inl same)) = inr (inl (λ i. same i ∷ equal i))
    by (inr (inr after)) (inr (inl same)) = inr (inr (from_parts (other ∷ more) (turn ∷ word) (inr (sym same, after))))

-- words of which neither precedes the other are one word
pub same_if_neither : (word other : List Turn) → (Precedes word other → ⊥) → (Precedes other word → ⊥) → word ≡ other
same_if_neither word other never nor =
    ⊎_elim
    (λ (before : Precedes word other). absurd (never before))
    (λ (rest : (word ≡ other) ⊎ Precedes other word). ⊎_elim (λ (same : word ≡ other). same) (λ (after : Precedes other word). absurd (nor after)) rest)
    (compared word other)

-- whether a word precedes another is decided
pub decided : (word other : List Turn) → Precedes word other ⊎ (Precedes word other → ⊥)
decided word other =
    ⊎_elim
    (λ (before : Precedes word other). inl before)
    (λ (rest : (word ≡ other) ⊎ Precedes other word).
    ⊎_elim
    (λ (same : word ≡ other). inr (λ before. irreflexive other (subst (λ (w : List Turn). Precedes w other) same before)))
    (λ (after : Precedes other word). inr (λ before. asymmetric word other before after))
    rest)
    (compared word other)
