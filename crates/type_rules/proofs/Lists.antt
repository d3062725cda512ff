-- Elements of lists, and of lists that are made of others.
use Rattle.std.proofs.Common.{◌≡◌, ℕ, zero, suc, ◌<◌, List, [], ◌∷◌, ◌++◌, ◌⊎◌, ◌+◌, length, map, Option, Some, None, option_map, inl, inr, refl, sym, ap, subst, ◌∙◌, arith}
use Rattle.std.specs.Prelude.{slice_get}
use Rattle.std.specs.List.{Any, Contains, enumerate_from, flat_map}
use Rattle.std.proofs.lemmas.List.{length-map, get_or-map}
use Rattle.findings.proofs.Elements.{any_left}
use Rattle.std.proofs.lemmas.Option.{none-some, same_Some, slice_get_cases, slice_get-map, slice_get_within, get_or_from_slice_get}

-- an element stays at its index in a longer list
pub slice_get-left : {X : Type 0} (xs ys : List X) (k : ℕ) (x : X) → slice_get xs k ≡ Some x → slice_get (xs ++ ys) k ≡ Some x
slice_get-left [] ys k x h = absurd (none-some x h)
slice_get-left (y ∷ xs) ys zero x h = h
slice_get-left (y ∷ xs) ys (suc k) x h = slice_get-left xs ys k x h

-- of a list that is made element by element
pub any_of_map : {X Y : Type 0} (f : X → Y) (P : Y → Type 0) (xs : List X) → Any P (map f xs) → Any (λ x. P (f x)) xs
any_of_map f P xs (k, z, lt, at, p) =
    let less : k < length xs = omega (arith, length-map xs f, lt) in
    elim (slice_get_cases xs k).1 [
      | inl h ↦ (let same : z ≡ f h.0 = sym at ∙ get_or-map f xs k h.0 z less ∙ ap f h.3 in (k, h.0, less, h.3, subst P same p))
      | inr h ↦ absurd (omega (arith, h.0, less))
    ]

pub any_to_map : {X Y : Type 0} (f : X → Y) (P : Y → Type 0) (xs : List X) → Any (λ x. P (f x)) xs → Any P (map f xs)
any_to_map f P xs (k, x, lt, at, p) =
    let less : k < length (map f xs) = omega (arith, length-map xs f, lt) in
    (k, f x, less, get_or-map f xs k x (f x) lt ∙ ap f at, p)

pub contains_map : {X Y : Type 0} (f : X → Y) (xs : List X) (x : X) → Contains xs x → Contains (map f xs) (f x)
contains_map f xs x (k, lt, at) =
    let less : k < length (map f xs) = omega (arith, length-map xs f, lt) in
    (k, less, get_or-map f xs k x (f x) lt ∙ ap f at)

-- the element at an index of a list that is made of another
pub read_map : {X Y : Type 0} (f : X → Y) (xs : List X) (n : ℕ) (y : Y) → slice_get (map f xs) n ≡ Some y → (x : X) × (slice_get xs n ≡ Some x) × (f x ≡ y)
read_map {X} {Y} f xs n y h = go (slice_get xs n) (sym (slice_get-map f xs n) ∙ h)
  where
    go : (o : Option X) → option_map f o ≡ Some y → (x : X) × (o ≡ Some x) × (f x ≡ y)
    go None e = absurd (none-some y e)
    go (Some x) e = (x, refl, same_Some (f x) y e)

pub contains_read : {X : Type 0} (xs : List X) (n : ℕ) (x : X) → slice_get xs n ≡ Some x → Contains xs x
contains_read xs n x h = (n, slice_get_within xs n x h, get_or_from_slice_get xs n x x h)

-- An element with a property, in lists that are joined

pub any_nothing : {X : Type 0} (P : X → Type 0) → ¬ Any P []
any_nothing P (k, x, lt, at, p) = omega (arith, lt)

pub any_first : {X : Type 0} (P : X → Type 0) (x : X) (xs : List X) → P x → Any P (x ∷ xs)
any_first P x xs p = (0, x, omega arith, refl, p)

pub any_rest : {X : Type 0} (P : X → Type 0) (x : X) (xs : List X) → Any P xs → Any P (x ∷ xs)
any_rest P x xs (k, y, lt, at, p) = (suc k, y, omega (arith, lt), at, p)

pub any_parts : {X : Type 0} (P : X → Type 0) (x : X) (xs : List X) → Any P (x ∷ xs) → P x ⊎ Any P xs
any_parts P x xs (zero, y, lt, at, p) = inl (subst P (sym at) p)
any_parts P x xs (suc k, y, lt, at, p) = inr (k, y, omega (arith, lt), at, p)

pub any_either : {X : Type 0} (P : X → Type 0) (xs ys : List X) → Any P (xs ++ ys) → Any P xs ⊎ Any P ys
any_either P [] ys h = inr h
any_either P (x ∷ xs) ys h = elim (any_parts P x (xs ++ ys) h) [
  | inl p ↦ inl (any_first P x xs p)
  | inr more ↦ elim (any_either P xs ys more) [ inl l ↦ inl (any_rest P x xs l) | inr r ↦ inr r ]
]

pub any_right : {X : Type 0} (P : X → Type 0) (xs ys : List X) → Any P ys → Any P (xs ++ ys)
any_right P [] ys h = h
any_right P (x ∷ xs) ys h = any_rest P x (xs ++ ys) (any_right P xs ys h)

pub any_like : {X : Type 0} (P Q : X → Type 0) (xs : List X) → ((x : X) → P x → Q x) → Any P xs → Any Q xs
any_like P Q xs step (k, x, lt, at, p) = (k, x, lt, at, step x p)

pub any_joined : {X Y : Type 0} (P : Y → Type 0) (f : X → List Y) (xs : List X) → Any (λ x. Any P (f x)) xs → Any P (flat_map f xs)
any_joined P f [] h = absurd (any_nothing (λ x. Any P (f x)) h)
any_joined P f (x ∷ xs) h = elim (any_parts (λ x. Any P (f x)) x xs h) [
  | inl here ↦ any_left P (f x) (flat_map f xs) here
  | inr more ↦ any_right P (f x) (flat_map f xs) (any_joined P f xs more)
]

pub any_apart : {X Y : Type 0} (P : Y → Type 0) (f : X → List Y) (xs : List X) → Any P (flat_map f xs) → Any (λ x. Any P (f x)) xs
any_apart P f [] h = absurd (any_nothing P h)
any_apart P f (x ∷ xs) h = elim (any_either P (f x) (flat_map f xs) h) [
  | inl here ↦ any_first (λ x. Any P (f x)) x xs here
  | inr more ↦ any_rest (λ x. Any P (f x)) x xs (any_apart P f xs more)
]

-- of elements with their numbers
pub any_numbered : {X : Type 0} (P : ℕ × X → Type 0) (n : ℕ) (xs : List X) (k : ℕ) (x : X) → slice_get xs k ≡ Some x → P (n + k, x) → Any P (enumerate_from n xs)
any_numbered P n [] k x at p = absurd (none-some x at)
any_numbered {X} P n (y ∷ ys) zero x at p =
    let number : n + 0 ≡ n = omega arith in
    let A : ℕ → Type 0 = λ m. P (m, x) in
    let B : X → Type 0 = λ z. P (n, z) in
    any_first P (n, y) (enumerate_from (n + 1) ys) (subst B (sym (same_Some y x at)) (subst A number p))
any_numbered P n (y ∷ ys) (suc k) x at p =
    let number : n + suc k ≡ (n + 1) + k = omega arith in
    let A : ℕ → Type 0 = λ m. P (m, x) in
    any_rest P (n, y) (enumerate_from (n + 1) ys) (any_numbered P (n + 1) ys k x at (subst A number p))

pub any_with_number : {X : Type 0} (P : ℕ × X → Type 0) (n : ℕ) (xs : List X) → Any P (enumerate_from n xs) → (k : ℕ) × (x : X) × (slice_get xs k ≡ Some x) × P (n + k, x)
any_with_number P n [] h = absurd (any_nothing P h)
any_with_number P n (y ∷ ys) h = elim (any_parts P (n, y) (enumerate_from (n + 1) ys) h) [
  | inl p ↦ (
      let number : n ≡ n + 0 = omega arith in
      let A : ℕ → Type 0 = λ m. P (m, y) in
      (0, y, refl, subst A number p)
      )
  | inr more ↦ (
      let t = any_with_number P (n + 1) ys more in
      let number : (n + 1) + t.0 ≡ n + suc t.0 = omega arith in
      let A : ℕ → Type 0 = λ m. P (m, t.1) in
      (suc t.0, t.1, t.2, subst A number t.3)
      )
]
