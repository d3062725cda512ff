-- Decisions on lists, where their elements are decided, and on texts and truth values.
use Rattle.std.proofs.Common.{◌≡◌, ◌⊎◌, ℕ, Bool, true, false, List, [], ◌∷◌, ◌++◌, Contains, refl, sym, inl, inr, ⊎_elim, subst}
use Rattle.std.proofs.lemmas.Bool.{cases_eq}
use Rattle.report_existence.proofs.Finite.{contains_cases, contains_more, contains_none}

same_head : {X : Type 0} (x y : X) (xs ys : List X) → x ∷ xs ≡ y ∷ ys → x ≡ y
same_head x y xs ys e = cc

same_tail : {X : Type 0} (x y : X) (xs ys : List X) → x ∷ xs ≡ y ∷ ys → xs ≡ ys
same_tail x y xs ys e = cc

-- two lists are the same, or not
pub same_or_not : {X : Type 0} → ((x y : X) → (x ≡ y) ⊎ (x ≡ y → ⊥)) → (xs ys : List X) → (xs ≡ ys) ⊎ (xs ≡ ys → ⊥)
same_or_not each [] [] = inl refl
same_or_not each [] (y ∷ ys) = inr (λ e. cc)
same_or_not each (x ∷ xs) [] = inr (λ e. cc)
same_or_not {X} each (x ∷ xs) (y ∷ ys) = by (each x y) (same_or_not each xs ys)
  where
    by : (x ≡ y) ⊎ (x ≡ y → ⊥) → (xs ≡ ys) ⊎ (xs ≡ ys → ⊥) → (x ∷ xs ≡ y ∷ ys) ⊎ (x ∷ xs ≡ y ∷ ys → ⊥)
    by (inl e) (inl f) = inl (λ i. e i ∷ f i)
    by (inl e) (inr differ) = inr (λ g. differ (same_tail x y xs ys g))
    by (inr differ) rest = inr (λ g. differ (same_head x y xs ys g))

pub text_or_not : (a b : List ℕ) → (a ≡ b) ⊎ (a ≡ b → ⊥)
text_or_not = same_or_not cases_eq

pub bool_or_not : (a b : Bool) → (a ≡ b) ⊎ (a ≡ b → ⊥)
bool_or_not true true = inl refl
bool_or_not false false = inl refl
bool_or_not true false = inr (λ e. cc)
bool_or_not false true = inr (λ e. cc)

-- a list begins with another, so it is that list and more elements
abbrev pub BeginsWith : {X : Type 0} → List X → List X → Type 0
BeginsWith {X} xs ys = (others : List X) × (ys ≡ xs ++ others)

pub begins_or_not : {X : Type 0} → ((x y : X) → (x ≡ y) ⊎ (x ≡ y → ⊥)) → (xs ys : List X) → BeginsWith xs ys ⊎ (BeginsWith xs ys → ⊥)
begins_or_not each [] ys = inl (ys, refl)
begins_or_not each (x ∷ xs) [] = inr (λ h. let e = h.1 in cc)
begins_or_not {X} each (x ∷ xs) (y ∷ ys) = by (each x y) (begins_or_not each xs ys)
  where
    by : (x ≡ y) ⊎ (x ≡ y → ⊥) → BeginsWith xs ys ⊎ (BeginsWith xs ys → ⊥) → BeginsWith (x ∷ xs) (y ∷ ys) ⊎ (BeginsWith (x ∷ xs) (y ∷ ys) → ⊥)
    by (inl e) (inl h) = inl (h.0, λ i. sym e i ∷ h.1 i)
    by (inl e) (inr differ) = inr (λ h. differ (h.0, same_tail y x ys (xs ++ h.0) h.1))
    by (inr differ) rest = inr (λ h. differ (sym (same_head y x ys (xs ++ h.0) h.1)))

-- a list ends with another, so it is more elements and that list
abbrev pub EndsWith : {X : Type 0} → List X → List X → Type 0
EndsWith {X} xs ys = (others : List X) × (ys ≡ others ++ xs)

pub ends_or_not : {X : Type 0} → ((x y : X) → (x ≡ y) ⊎ (x ≡ y → ⊥)) → (xs ys : List X) → EndsWith xs ys ⊎ (EndsWith xs ys → ⊥)
ends_or_not {X} each xs [] = by (same_or_not each [] xs)
  where
    no_end : ([] ≡ xs → ⊥) → (others : List X) → [] ≡ others ++ xs → ⊥
    no_end differ [] e = differ e
    no_end differ (z ∷ others) e = cc

    by : ([] ≡ xs) ⊎ ([] ≡ xs → ⊥) → EndsWith xs [] ⊎ (EndsWith xs [] → ⊥)
    by (inl e) = inl ([], e)
    by (inr differ) = inr (λ h. no_end differ h.0 h.1)
ends_or_not {X} each xs (y ∷ ys) = by (same_or_not each (y ∷ ys) xs) (ends_or_not each xs ys)
  where
    no_end : (y ∷ ys ≡ xs → ⊥) → (EndsWith xs ys → ⊥) → (others : List X) → y ∷ ys ≡ others ++ xs → ⊥
    no_end differ later [] e = differ e
    no_end differ later (z ∷ others) e = later (others, same_tail y z ys (others ++ xs) e)

    by : (y ∷ ys ≡ xs) ⊎ (y ∷ ys ≡ xs → ⊥) → EndsWith xs ys ⊎ (EndsWith xs ys → ⊥) → EndsWith xs (y ∷ ys) ⊎ (EndsWith xs (y ∷ ys) → ⊥)
    by (inl e) later = inl ([], e)
    by (inr differ) (inl h) = inl (y ∷ h.0, λ i. y ∷ h.1 i)
    by (inr differ) (inr later) = inr (λ h. no_end differ later h.0 h.1)

-- one property holds of some element, or another of each
pub some_or_each : {X : Type 0} (P Q : X → Type 0) → ((x : X) → P x ⊎ Q x) → (xs : List X) → ((x : X) × Contains xs x × P x) ⊎ ((x : X) → Contains xs x → Q x)
some_or_each P Q decide [] = inr (λ x c. absurd (contains_none x c))
some_or_each {X} P Q decide (x ∷ xs) = by (decide x) (some_or_each P Q decide xs)
  where
    by : P x ⊎ Q x → ((y : X) × Contains xs y × P y) ⊎ ((y : X) → Contains xs y → Q y) → ((y : X) × Contains (x ∷ xs) y × P y) ⊎ ((y : X) → Contains (x ∷ xs) y → Q y)
    by (inl p) rest = inl (x, contains_more x xs x (inl refl), p)
    by (inr q) (inl h) = inl (h.0, contains_more x xs h.0 (inr h.1), h.2)
    by (inr q) (inr all) = inr (λ y c. ⊎_elim (λ (e : x ≡ y). subst Q e q) (λ (later : Contains xs y). all y later) (contains_cases x xs y c))
