-- Words before a place of a search.
use Rattle.std.proofs.Common.{◌≡◌, ◌⊎◌, inl, inr, ℕ, suc, ◌+◌, ◌<◌, ◌≤◌, Bool, true, false, List, [], ◌∷◌, ◌++◌, length, refl, sym, ap, subst, ◌∙◌, arith}
use Rattle.std.proofs.lemmas.Bool.{cases_lt}
use Rattle.ipdl_base.specs.declared.kinds.Side.{Side}
use Rattle.ipdl_base.specs.declared.kinds.Side.TheVariants as sides
use Rattle.schedules.specs.declared.turn.Turn.{Turn}
use Rattle.explorations.proofs.Order.{none_before_empty, parts, same_rank}
use Rattle.explorations.specs.Words.{Precedes, ends, differs, continues, place_in_order, rank}
use Rattle.explorer.specs.Places.{IsBefore}

-- Letters by their places in the order

small : (b : Bool) (s : Side) → place_in_order b s < 4
small false sides.Parent = omega arith
small false sides.Child = omega arith
small true sides.Parent = omega arith
small true sides.Child = omega arith

pub rank-small : (turn : Turn) → rank turn < 4
rank-small turn = small turn.only_deliver turn.side

same-or-less : (turn letter : Turn) → rank turn < rank letter + 1 → (rank turn < rank letter) ⊎ (turn ≡ letter)
same-or-less turn letter h = by (cases_lt (rank turn) (rank letter))
  where
    by : (rank turn < rank letter) ⊎ (rank letter ≤ rank turn) → (rank turn < rank letter) ⊎ (turn ≡ letter)
    by (inl less) = inl less
    by (inr more) = inr (same_rank turn letter (omega arith))

-- Before the place of a letter are the words that precede the word with that letter

pub before-precedes : (word : List Turn) (turn : Turn) (one : List Turn) → IsBefore word (rank turn) one → Precedes one (word ++ turn ∷ [])
before-precedes [] turn [] h = ends turn []
before-precedes [] turn (x ∷ one) h = differs x turn one [] h
before-precedes (y ∷ word) turn [] h = ends y (word ++ turn ∷ [])
before-precedes (y ∷ word) turn (x ∷ one) (inl h) = differs x y one (word ++ turn ∷ []) h
before-precedes (y ∷ word) turn (x ∷ one) (inr h) =
    subst (λ (l : Turn). Precedes (x ∷ one) (l ∷ (word ++ turn ∷ []))) h.0 (continues x one (word ++ turn ∷ []) (before-precedes word turn one h.1))

pub precedes-before : (word : List Turn) (turn : Turn) (one : List Turn) → Precedes one (word ++ turn ∷ []) → IsBefore word (rank turn) one
precedes-before [] turn [] h = tt
precedes-before [] turn (x ∷ one) h = by (parts (x ∷ one) (turn ∷ []) h)
  where
    by : (rank x < rank turn) ⊎ ((x ≡ turn) × Precedes one []) → rank x < rank turn
    by (inl k) = k
    by (inr k) = absurd (none_before_empty one k.1)
precedes-before (y ∷ word) turn [] h = tt
precedes-before (y ∷ word) turn (x ∷ one) h = by (precedes-before word turn one) (parts (x ∷ one) (y ∷ (word ++ turn ∷ [])) h)
  where
    by : (Precedes one (word ++ turn ∷ []) → IsBefore word (rank turn) one) → (rank x < rank y) ⊎ ((x ≡ y) × Precedes one (word ++ turn ∷ [])) → IsBefore (y ∷ word) (rank turn) (x ∷ one)
    by shorter (inl k) = inl k
    by shorter (inr k) = inr (k.0, shorter k.1)

-- What precedes a word before a place is before the place

less-before : (next : ℕ) (x y : Turn) → (rank x < rank y) ⊎ (x ≡ y) → rank y < next → rank x < next
less-before next x y (inl h) k = omega arith
less-before next x y (inr h) k = let e : rank x ≡ rank y = ap rank h in omega arith

pub before-earlier : (word : List Turn) (next : ℕ) (one other : List Turn) → Precedes one other → IsBefore word next other → IsBefore word next one
before-earlier [] next [] other h k = tt
before-earlier [] next (x ∷ one) [] h k = absurd (none_before_empty (x ∷ one) h)
before-earlier [] next (x ∷ one) (y ∷ other) h k = by (parts (x ∷ one) (y ∷ other) h)
  where
    by : (rank x < rank y) ⊎ ((x ≡ y) × Precedes one other) → rank x < next
    by (inl less) = less-before next x y (inl less) k
    by (inr same) = less-before next x y (inr same.0) k
before-earlier (z ∷ word) next [] other h k = tt
before-earlier (z ∷ word) next (x ∷ one) [] h k = absurd (none_before_empty (x ∷ one) h)
before-earlier (z ∷ word) next (x ∷ one) (y ∷ other) h k = by (before-earlier word next one other) (parts (x ∷ one) (y ∷ other) h) k
  where
    by : (Precedes one other → IsBefore word next other → IsBefore word next one) → (rank x < rank y) ⊎ ((x ≡ y) × Precedes one other) → IsBefore (z ∷ word) next (y ∷ other) → IsBefore (z ∷ word) next (x ∷ one)
    by shorter (inl less) (inl k) = inl (omega (arith, less, k))
    by shorter (inl less) (inr k) = inl (let e : rank y ≡ rank z = ap rank k.0 in omega (arith, less, e))
    by shorter (inr same) (inl k) = inl (let e : rank x ≡ rank y = ap rank same.0 in omega (arith, k, e))
    by shorter (inr same) (inr k) = inr (same.0 ∙ k.0, shorter same.1 k.1)

-- The next letter

pub before-more : (word : List Turn) (next later : ℕ) (one : List Turn) → next ≤ later → IsBefore word next one → IsBefore word later one
before-more [] next later [] h k = tt
before-more [] next later (x ∷ one) h k = omega arith
before-more (y ∷ word) next later [] h k = tt
before-more (y ∷ word) next later (x ∷ one) h (inl k) = inl k
before-more (y ∷ word) next later (x ∷ one) h (inr k) = inr (k.0, before-more word next later one h k.1)

-- One word goes on from another by a letter.
abbrev pub GoesOn : List Turn → Turn → List Turn → Type 0
GoesOn word turn one = (more : List Turn) × (one ≡ word ++ turn ∷ more)

pub before-next : (word : List Turn) (turn : Turn) (one : List Turn) → IsBefore word (rank turn + 1) one → IsBefore word (rank turn) one ⊎ GoesOn word turn one
before-next [] turn [] h = inl tt
before-next [] turn (x ∷ one) h = by (same-or-less x turn h)
  where
    by : (rank x < rank turn) ⊎ (x ≡ turn) → (rank x < rank turn) ⊎ GoesOn [] turn (x ∷ one)
    by (inl less) = inl less
    by (inr same) = inr (one, ap (λ (l : Turn). l ∷ one) same)
before-next (y ∷ word) turn [] h = inl tt
before-next (y ∷ word) turn (x ∷ one) (inl h) = inl (inl h)
before-next (y ∷ word) turn (x ∷ one) (inr h) = by (before-next word turn one h.1)
  where
    by : IsBefore word (rank turn) one ⊎ GoesOn word turn one → IsBefore (y ∷ word) (rank turn) (x ∷ one) ⊎ GoesOn (y ∷ word) turn (x ∷ one)
    by (inl k) = inl (inr (h.0, k))
    by (inr k) = inr (k.0, ap (λ (l : Turn). l ∷ one) h.0 ∙ ap (λ (ls : List Turn). y ∷ ls) k.1)

-- One letter further

pub before-self : (word : List Turn) → IsBefore word 0 word
before-self [] = tt
before-self (y ∷ word) = inr (refl, before-self word)

pub zero-before : (word one : List Turn) → Precedes one word ⊎ (one ≡ word) → IsBefore word 0 one
zero-before word one (inl h) = before-earlier word 0 one word h (before-self word)
zero-before word one (inr e) = subst (IsBefore word 0) (sym e) (before-self word)

pub before-zero : (word one : List Turn) → IsBefore word 0 one → Precedes one word ⊎ (one ≡ word)
before-zero [] [] h = inr refl
before-zero [] (x ∷ one) h = absurd (omega arith)
before-zero (y ∷ word) [] h = inl (ends y word)
before-zero (y ∷ word) (x ∷ one) (inl h) = inl (differs x y one word h)
before-zero (y ∷ word) (x ∷ one) (inr h) = by (before-zero word one h.1)
  where
    by : Precedes one word ⊎ (one ≡ word) → Precedes (x ∷ one) (y ∷ word) ⊎ (x ∷ one ≡ y ∷ word)
    by (inl k) = inl (subst (λ (l : Turn). Precedes (x ∷ one) (l ∷ word)) h.0 (continues x one word k))
    by (inr k) = inr (ap (λ (l : Turn). l ∷ one) h.0 ∙ ap (λ (ls : List Turn). y ∷ ls) k)

-- One letter back

pub any-before : (word : List Turn) → IsBefore [] 4 word
any-before [] = tt
any-before (x ∷ word) = rank-small x

pub before-back : (word : List Turn) (turn : Turn) (one : List Turn) → IsBefore word (rank turn + 1) one → IsBefore (word ++ turn ∷ []) 4 one
before-back [] turn [] h = tt
before-back [] turn (x ∷ one) h = by (same-or-less x turn h)
  where
    by : (rank x < rank turn) ⊎ (x ≡ turn) → (rank x < rank turn) ⊎ ((x ≡ turn) × IsBefore [] 4 one)
    by (inl less) = inl less
    by (inr same) = inr (same, any-before one)
before-back (y ∷ word) turn [] h = tt
before-back (y ∷ word) turn (x ∷ one) (inl h) = inl h
before-back (y ∷ word) turn (x ∷ one) (inr h) = inr (h.0, before-back word turn one h.1)

pub back-before : (word : List Turn) (turn : Turn) (one : List Turn) → IsBefore (word ++ turn ∷ []) 4 one → IsBefore word (rank turn + 1) one
back-before [] turn [] h = tt
back-before [] turn (x ∷ one) (inl h) = omega arith
back-before [] turn (x ∷ one) (inr h) = let e : rank x ≡ rank turn = ap rank h.0 in omega arith
back-before (y ∷ word) turn [] h = tt
back-before (y ∷ word) turn (x ∷ one) (inl h) = inl h
back-before (y ∷ word) turn (x ∷ one) (inr h) = inr (h.0, back-before word turn one h.1)

-- A word before a place, of one letter more, stays before it whatever follows

pub before-longer : (word : List Turn) (next : ℕ) (one more : List Turn) → IsBefore word next one → length one ≡ suc (length word) → IsBefore word next (one ++ more)
before-longer [] next [] more h size = cc
before-longer [] next (x ∷ one) more h size = h
before-longer (y ∷ word) next [] more h size = cc
before-longer (y ∷ word) next (x ∷ one) more (inl h) size = inl h
before-longer (y ∷ word) next (x ∷ one) more (inr h) size = inr (h.0, before-longer word next one more h.1 (omega (arith, size)))

-- and without its last letter it is the word, or precedes it
pub before-shorter : (word : List Turn) (next : ℕ) (one : List Turn) (turn : Turn) → IsBefore word next (one ++ turn ∷ []) → length one ≡ length word → Precedes one word ⊎ ((one ≡ word) × (rank turn < next))
before-shorter [] next [] turn h size = inr (refl, h)
before-shorter [] next (x ∷ one) turn h size = cc
before-shorter (y ∷ word) next [] turn h size = cc
before-shorter (y ∷ word) next (x ∷ one) turn (inl h) size = inl (differs x y one word h)
before-shorter (y ∷ word) next (x ∷ one) turn (inr h) size = by (before-shorter word next one turn h.1 (omega (arith, size)))
  where
    by : Precedes one word ⊎ ((one ≡ word) × (rank turn < next)) → Precedes (x ∷ one) (y ∷ word) ⊎ ((x ∷ one ≡ y ∷ word) × (rank turn < next))
    by (inl k) = inl (subst (λ (l : Turn). Precedes (x ∷ one) (l ∷ word)) h.0 (continues x one word k))
    by (inr k) = inr (ap (λ (l : Turn). l ∷ one) h.0 ∙ ap (λ (ls : List Turn). y ∷ ls) k.0, k.1)
