-- Lists in order, and the elements of lists that were made from others.
use Rattle.std.proofs.Common.{◌≡◌, ◌⊎◌, inl, inr, Bool, true, false, cond, List, [], ◌∷◌, ◌++◌, map, filter, refl, sym, ap, subst, ◌∙◌, arith}
use Rattle.std.specs.List.{AllByRecursion, AllPairs, Contains}
use Rattle.std.proofs.lemmas.List.Elements.{All-from_recursion}
use Rattle.std.proofs.lemmas.List.Kept.{AllPairs-cons}
use Rattle.wait_report.proofs.SchemaRows.{contains-cases, contains-here, contains-later, none-in-nothing}

-- each element is before all that follow it
abbrev pub IsOrdered : {A : Type 0} → (A → A → Type 0) → List A → Type 0
IsOrdered R [] = Unit {0}
IsOrdered R (x ∷ xs) = AllByRecursion (R x) xs × IsOrdered R xs

pub all-both : {A : Type 0} (P : A → Type 0) (xs ys : List A) → AllByRecursion P xs → AllByRecursion P ys → AllByRecursion P (xs ++ ys)
all-both P [] ys h k = k
all-both P (x ∷ xs) ys h k = (h.0, all-both P xs ys h.1 k)

pub all-turned : {A B : Type 0} (P : A → Type 0) (Q : B → Type 0) (f : A → B) (xs : List A) → ((x : A) → P x → Q (f x)) → AllByRecursion P xs → AllByRecursion Q (map f xs)
all-turned P Q f [] h k = tt
all-turned P Q f (x ∷ xs) h k = (h x k.0, all-turned P Q f xs h k.1)

pub all-kept : {A : Type 0} (P Q : A → Type 0) (xs : List A) → ((x : A) → P x → Q x) → AllByRecursion P xs → AllByRecursion Q xs
all-kept P Q [] h k = tt
all-kept P Q (x ∷ xs) h k = (h x k.0, all-kept P Q xs h k.1)

pub ordered-both : {A : Type 0} (R : A → A → Type 0) (xs ys : List A) → IsOrdered R xs → IsOrdered R ys → AllByRecursion (λ x. AllByRecursion (R x) ys) xs → IsOrdered R (xs ++ ys)
ordered-both R [] ys h k between = k
ordered-both R (x ∷ xs) ys h k between = (all-both (R x) xs ys h.0 between.0, ordered-both R xs ys h.1 k between.1)

pub ordered-turned : {A B : Type 0} (R : A → A → Type 0) (S : B → B → Type 0) (f : A → B) (xs : List A) → ((x y : A) → R x y → S (f x) (f y)) → IsOrdered R xs → IsOrdered S (map f xs)
ordered-turned R S f [] h k = tt
ordered-turned R S f (x ∷ xs) h k = (all-turned (R x) (S (f x)) f xs (λ y r. h x y r) k.0, ordered-turned R S f xs h k.1)

no-pairs : {A : Type 0} (R : A → A → Type 0) → AllPairs R []
no-pairs R i j d less within = absurd (omega (arith, within))

pub all-pairs : {A : Type 0} (R : A → A → Type 0) (xs : List A) → IsOrdered R xs → AllPairs R xs
all-pairs R [] h = no-pairs R
all-pairs R (x ∷ xs) h = AllPairs-cons R x xs (All-from_recursion (R x) xs h.0) (all-pairs R xs h.1)

-- The elements of these lists

pub map-in : {A B : Type 0} (f : A → B) (xs : List A) (x : A) → Contains xs x → Contains (map f xs) (f x)
map-in f [] x h = none-in-nothing x h
map-in f (y ∷ ys) x h = elim (contains-cases y x ys h) [
  | inl same ↦ subst (λ (z : _). Contains (map f (y ∷ ys)) (f z)) same (contains-here (f y) (map f ys))
  | inr later ↦ contains-later (f y) (f x) (map f ys) (map-in f ys x later)
]

pub map-there : {A B : Type 0} (f : A → B) (xs : List A) (y : B) → Contains (map f xs) y → (x : A) × Contains xs x × (f x ≡ y)
map-there f [] y h = none-in-nothing y h
map-there f (x ∷ xs) y h = elim (contains-cases (f x) y (map f xs) h) [
  | inl same ↦ (x, contains-here x xs, same)
  | inr later ↦ let found = map-there f xs y later in (found.0, contains-later x found.0 xs found.1, found.2)
]

pub filter-in : {A : Type 0} (test : A → Bool) (xs : List A) (x : A) → Contains xs x → test x ≡ true → Contains (filter test xs) x
filter-in test [] x h passes = none-in-nothing x h
filter-in test (y ∷ ys) x h passes = by (test y) refl (contains-cases y x ys h) (λ later. filter-in test ys x later passes)
  where
    by : (b : Bool) → test y ≡ b → (y ≡ x) ⊎ Contains ys x → (Contains ys x → Contains (filter test ys) x) → Contains (cond b (y ∷ filter test ys) (filter test ys)) x
    by true is (inl same) rec = subst (Contains (y ∷ filter test ys)) same (contains-here y (filter test ys))
    by true is (inr later) rec = contains-later y x (filter test ys) (rec later)
    by false is (inl same) rec = let both : true ≡ false = sym passes ∙ (ap test (sym same) ∙ is) in cc
    by false is (inr later) rec = rec later

pub filter-there : {A : Type 0} (test : A → Bool) (xs : List A) (x : A) → Contains (filter test xs) x → Contains xs x × (test x ≡ true)
filter-there test [] x h = none-in-nothing x h
filter-there test (y ∷ ys) x h = by (test y) refl h (λ later. filter-there test ys x later)
  where
    by : (b : Bool) → test y ≡ b → Contains (cond b (y ∷ filter test ys) (filter test ys)) x → (Contains (filter test ys) x → Contains ys x × (test x ≡ true)) → Contains (y ∷ ys) x × (test x ≡ true)
    by true is h rec = elim (contains-cases y x (filter test ys) h) [
      | inl same ↦ (subst (Contains (y ∷ ys)) same (contains-here y ys), ap test (sym same) ∙ is)
      | inr later ↦ (contains-later y x ys (rec later).0, (rec later).1)
    ]
    by false is h rec = (contains-later y x ys (rec h).0, (rec h).1)
