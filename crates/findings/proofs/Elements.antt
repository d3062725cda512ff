-- Elements with a property.
use Rattle.std.proofs.Common.{ℕ, ◌+◌, ◌<◌, List, [], ◌∷◌, ◌++◌, length, take, get_or, ◌⊎◌, inl, inr, subst, sym}
use Rattle.std.specs.List.{Any}
use Rattle.std.proofs.lemmas.List.{take_more}
use Rattle.std.proofs.lemmas.List.Elements.{Contains-push_cases, Contains-append_left}
use Rattle.std.proofs.lemmas.List.Quantifiers.{Any-push}

-- one more element has the property, or an earlier one has it
pub any_cases : {X : Type 0} (P : X → Type 0) (xs : List X) (y : X) → Any P (xs ++ y ∷ []) → Any P xs ⊎ P y
any_cases P xs y (k, x, lt, at, p) = elim (Contains-push_cases xs y x (k, lt, at)) [
  | inl h ↦ inl (h.0, x, h.1, h.2, p)
  | inr e ↦ inr (subst P (sym e) p)
]

-- a property of an element holds in a longer list
pub any_left : {X : Type 0} (P : X → Type 0) (xs ys : List X) → Any P xs → Any P (xs ++ ys)
any_left P xs ys (k, x, lt, at, p) = let h = Contains-append_left xs ys x (k, lt, at) in (h.0, x, h.1, h.2, p)

-- a property of one of the first elements, of one more than these, or of the next
pub any_more : {X : Type 0} (P : X → Type 0) (xs : List X) (i : ℕ) (d : X) → i < length xs → Any P (take (i + 1) xs) → Any P (take i xs) ⊎ P (get_or xs i d)
any_more P xs i d lt h = any_cases P (take i xs) (get_or xs i d) (rw (take_more xs i d lt) at h)

pub any_before : {X : Type 0} (P : X → Type 0) (xs : List X) (i : ℕ) (d : X) → i < length xs → Any P (take i xs) → Any P (take (i + 1) xs)
any_before P xs i d lt h = rw (take_more xs i d lt) (any_left P (take i xs) (get_or xs i d ∷ []) h)

pub any_here : {X : Type 0} (P : X → Type 0) (xs : List X) (i : ℕ) (d : X) → i < length xs → P (get_or xs i d) → Any P (take (i + 1) xs)
any_here P xs i d lt h = rw (take_more xs i d lt) (Any-push P (take i xs) (get_or xs i d) h)
