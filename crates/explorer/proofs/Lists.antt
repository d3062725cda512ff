-- Elements of lists that go together, and of those that are kept.
use Rattle.std.proofs.Common.{◌≡◌, ℕ, zero, suc, List, [], ◌∷◌, ◌++◌, filter_map, slice_get, Option, Some, None, refl, sym, ap, subst, ◌∙◌, arith}
use Rattle.std.specs.Prelude.{Contains}
use Rattle.std.specs.List.{AllZip, cons_option}

-- Contained elements, one by one

module _ {X : Type 0} where
  pub contains-first : (x : X) (xs : List X) → Contains (x ∷ xs) x
  contains-first x xs = (0, omega arith, refl)

  pub contains-rest : (x y : X) (xs : List X) → Contains xs y → Contains (x ∷ xs) y
  contains-rest x y xs c = (suc c.0, omega (arith, c.1), c.2)

  pub split-contained : (P : X → Type 0) (x y : X) (xs : List X) → (y ≡ x → P y) → (Contains xs y → P y) → Contains (x ∷ xs) y → P y
  split-contained P x y xs first rest (zero, l, e) = first (sym e)
  split-contained P x y xs first rest (suc k, l, e) = rest (k, omega (arith, l), e)

-- Elements of two lists, side by side

module _ {A B : Type 0} (R : A → B → Type 0) where
  pub zip-right-of : (ks : List A) (ss : List B) (k : A) → AllZip R ks ss → Contains ks k → (s : B) × Contains ss s × R k s
  zip-right-of [] ss k all c = absurd (omega (arith, c.1))
  zip-right-of (x ∷ ks) [] k all c = absurd all
  zip-right-of (x ∷ ks) (y ∷ ss) k all c = split-contained (λ k. (s : B) × Contains (y ∷ ss) s × R k s) x k ks
      (λ same. (y, contains-first y ss, subst (λ z. R z y) (sym same) all.0))
      (λ c. let f = zip-right-of ks ss k all.1 c in (f.0, contains-rest y f.0 ss f.1, f.2)) c

  pub zip-left-of : (ks : List A) (ss : List B) (s : B) → AllZip R ks ss → Contains ss s → (k : A) × Contains ks k × R k s
  zip-left-of [] [] s all c = absurd (omega (arith, c.1))
  zip-left-of [] (y ∷ ss) s all c = absurd all
  zip-left-of (x ∷ ks) [] s all c = absurd all
  zip-left-of (x ∷ ks) (y ∷ ss) s all c = split-contained (λ s. (k : A) × Contains (x ∷ ks) k × R k s) y s ss
      (λ same. (x, contains-first x ks, subst (λ z. R x z) (sym same) all.0))
      (λ c. let f = zip-left-of ks ss s all.1 c in (f.0, contains-rest x f.0 ks f.1, f.2)) c

pub zip-more : {A B : Type 0} (R S : A → B → Type 0) → ((a : A) (b : B) → R a b → S a b) → (ks : List A) (ss : List B) → AllZip R ks ss → AllZip S ks ss
zip-more R S f [] [] all = tt
zip-more R S f [] (y ∷ ss) all = absurd all
zip-more R S f (x ∷ ks) [] all = absurd all
zip-more R S f (x ∷ ks) (y ∷ ss) all = (f x y all.0, zip-more R S f ks ss all.1)

-- What is kept of the elements of a list

module _ {X Y : Type 0} (h : X → Option Y) where
  kept-first : (x : X) (y : Y) (found : Option Y) (ys : List Y) → found ≡ Some y → Contains (cons_option found ys) y
  kept-first x y None ys e = cc
  kept-first x y (Some z) ys e = subst (λ w. Contains (w ∷ ys) y) (sym (same z e)) (contains-first y ys)
    where
      same : (z : Y) → Some z ≡ Some y → z ≡ y
      same z e = cc

  kept-rest : (y : Y) (found : Option Y) (ys : List Y) → Contains ys y → Contains (cons_option found ys) y
  kept-rest y None ys c = c
  kept-rest y (Some z) ys c = contains-rest z y ys c

  pub kept-in : (xs : List X) (x : X) (y : Y) → h x ≡ Some y → Contains xs x → Contains (filter_map h xs) y
  kept-in [] x y e c = absurd (omega (arith, c.1))
  kept-in (z ∷ xs) x y e c = split-contained (λ x. h x ≡ Some y → Contains (filter_map h (z ∷ xs)) y) z x xs
      (λ same e. kept-first z y (h z) (filter_map h xs) (ap h (sym same) ∙ e))
      (λ c e. kept-rest y (h z) (filter_map h xs) (kept-in xs x y e c)) c e

  from-kept : (found : Option Y) (y : Y) (ys : List Y) (P : Type 0) → (found ≡ Some y → P) → (Contains ys y → P) → Contains (cons_option found ys) y → P
  from-kept None y ys P first rest c = rest c
  from-kept (Some z) y ys P first rest c = split-contained (λ w. (Some z ≡ Some w → P) → (Contains ys w → P) → P) z y ys (λ same first rest. first (ap Some (sym same))) (λ c first rest. rest c) c first rest

  pub kept-from : (xs : List X) (y : Y) → Contains (filter_map h xs) y → (x : X) × Contains xs x × (h x ≡ Some y)
  kept-from [] y c = absurd (omega (arith, c.1))
  kept-from (z ∷ xs) y c = from-kept (h z) y (filter_map h xs) ((x : X) × Contains (z ∷ xs) x × (h x ≡ Some y))
      (λ e. (z, contains-first z xs, e))
      (λ c. let f = kept-from xs y c in (f.0, contains-rest z f.0 xs f.1, f.2)) c

-- Reads of a list that grows

pub get-append : {X : Type 0} (xs ys : List X) (i : ℕ) (x : X) → slice_get xs i ≡ Some x → slice_get (xs ++ ys) i ≡ Some x
get-append [] ys i x h = cc
get-append (z ∷ xs) ys zero x h = h
get-append (z ∷ xs) ys (suc i) x h = get-append xs ys i x h

-- Lists with a last element

pub same-last : {X : Type 0} (xs ys : List X) (x y : X) → xs ++ x ∷ [] ≡ ys ++ y ∷ [] → (xs ≡ ys) × (x ≡ y)
same-last [] [] x y h = (refl, cc)
same-last [] (b ∷ []) x y h = cc
same-last [] (b ∷ c ∷ ys) x y h = cc
same-last (a ∷ []) [] x y h = cc
same-last (a ∷ c ∷ xs) [] x y h = cc
same-last (a ∷ xs) (b ∷ ys) x y h =
    let tails : xs ++ x ∷ [] ≡ ys ++ y ∷ [] = cc in
    let heads : a ≡ b = cc in
    let rest = same-last xs ys x y tails in
    (ap (λ z. z ∷ xs) heads ∙ ap (λ zs. b ∷ zs) rest.0, rest.1)

pub none-last : {X : Type 0} (xs : List X) (x : X) → [] ≡ xs ++ x ∷ [] → ⊥
none-last [] x h = cc
none-last (y ∷ xs) x h = cc
