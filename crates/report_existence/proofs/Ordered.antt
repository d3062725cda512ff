-- The elements of a list in an order, each once.
use Rattle.std.proofs.Common.{◌≡◌, ◌⊎◌, ◌↔◌, ℕ, zero, suc, ◌<◌, List, [], ◌∷◌, Contains, length, get_or, refl, sym, ◌∙◌, inl, inr, ⊎_elim, arith}
use Rattle.std.specs.List.{AllPairs, AllByRecursion}
use Rattle.report_existence.proofs.Finite.{contains_more, contains_cases}

-- Of two among these that differ, one is before the other.
pub record IsOrder {X : Type 0} (Among : X → Type 0) (Before : X → X → Type 0) : Type 0 where
  pub compared : (a b : X) → Among a → Among b → Before a b ⊎ ((a ≡ b) ⊎ Before b a)
  pub trans : (a b c : X) → Among a → Among b → Among c → Before a b → Before b c → Before a c

-- each element is before all later ones
abbrev Rises : {X : Type 0} → (X → X → Type 0) → List X → Type 0
Rises Before [] = Unit {0}
Rises Before (x ∷ xs) = AllByRecursion (Before x) xs × Rises Before xs

all_at : {X : Type 0} (P : X → Type 0) (xs : List X) (j : ℕ) (d : X) → AllByRecursion P xs → j < length xs → P (get_or xs j d)
all_at P [] j d all within = absurd (omega arith)
all_at P (x ∷ xs) zero d all within = all.0
all_at P (x ∷ xs) (suc j) d all within = all_at P xs j d all.1 (omega arith)

in_pairs : {X : Type 0} (Before : X → X → Type 0) (xs : List X) → Rises Before xs → AllPairs Before xs
in_pairs Before [] rises i j d before within = absurd (omega arith)
in_pairs Before (x ∷ xs) rises zero zero d before within = absurd (omega arith)
in_pairs Before (x ∷ xs) rises zero (suc j) d before within = all_at (Before x) xs j d rises.0 (omega arith)
in_pairs Before (x ∷ xs) rises (suc i) zero d before within = absurd (omega arith)
in_pairs Before (x ∷ xs) rises (suc i) (suc j) d before within = in_pairs Before xs rises.1 i j d (omega arith) (omega arith)

-- what is before the first is before all
before_all : {X : Type 0} {Among : X → Type 0} {Before : X → X → Type 0} → IsOrder Among Before → (x y : X) (ys : List X) → Among x → Among y → AllByRecursion Among ys → Before x y → AllByRecursion (Before y) ys → AllByRecursion (Before x) ys
before_all order x y [] ax ay allowed before all = tt
before_all order x y (z ∷ zs) ax ay allowed before all = (order.trans x y z ax ay allowed.0 before all.0, before_all order x y zs ax ay allowed.1 before all.1)

-- a rising list with one element inserted
record IsPut {X : Type 0} (Among : X → Type 0) (Before : X → X → Type 0) (x : X) (old new : List X) : Type 0 where
  pub rises : Rises Before new
  pub among : AllByRecursion Among new
  pub keeps : (y : X) → (x ≡ y) ⊎ Contains old y → Contains new y
  pub only : (y : X) → Contains new y → (x ≡ y) ⊎ Contains old y
  pub above : (y : X) → Before y x → AllByRecursion (Before y) old → AllByRecursion (Before y) new

abbrev Put : {X : Type 0} → (X → Type 0) → (X → X → Type 0) → X → List X → Type 0
Put Among Before x old = (new : List _) × IsPut Among Before x old new

put_first : {X : Type 0} {Among : X → Type 0} {Before : X → X → Type 0} (x : X) (old : List X) → Among x → AllByRecursion Among old → AllByRecursion (Before x) old → Rises Before old → Put Among Before x old
put_first x old ax allowed all rises = (x ∷ old, record { rises = (all, rises); among = (ax, allowed); keeps = contains_more x old; only = contains_cases x old; above = λ y before more. (before, more) })

put_nowhere : {X : Type 0} {Among : X → Type 0} {Before : X → X → Type 0} (x y : X) (ys : List X) → x ≡ y → AllByRecursion Among (y ∷ ys) → Rises Before (y ∷ ys) → Put Among Before x (y ∷ ys)
put_nowhere x y ys same allowed rises = (
  y ∷ ys,
  record {
    rises = rises;
    among = allowed;
    keeps = λ z c. ⊎_elim (λ (e : x ≡ z). contains_more y ys z (inl (sym same ∙ e))) (λ (there : Contains (y ∷ ys) z). there) c;
    only = λ z c. inr c;
    above = λ z before more. more;
  },
)

put_later : {X : Type 0} {Among : X → Type 0} {Before : X → X → Type 0} (x y : X) (ys : List X) → Before y x → AllByRecursion Among (y ∷ ys) → Rises Before (y ∷ ys) → Put Among Before x ys → Put Among Before x (y ∷ ys)
put_later x y ys before allowed rises (new, p) = (
  y ∷ new,
  record {
    rises = (p.above y before rises.0, p.rises);
    among = (allowed.0, p.among);
    keeps = λ z c.
        ⊎_elim
        (λ (e : x ≡ z). contains_more y new z (inr (p.keeps z (inl e))))
        (λ (there : Contains (y ∷ ys) z).
        ⊎_elim (λ (e : y ≡ z). contains_more y new z (inl e)) (λ (later : Contains ys z). contains_more y new z (inr (p.keeps z (inr later)))) (contains_cases y ys z there))
        c;
    only = λ z c.
        ⊎_elim
        (λ (e : y ≡ z). inr (contains_more y ys z (inl e)))
        (λ (later : Contains new z).
        ⊎_elim (λ (e : x ≡ z). inl e) (λ (old : Contains ys z). inr (contains_more y ys z (inr old))) (p.only z later))
        (contains_cases y new z c);
    above = λ z low more. (more.0, p.above z low more.1);
  },
)

put : {X : Type 0} {Among : X → Type 0} {Before : X → X → Type 0} → IsOrder Among Before → (x : X) (old : List X) → Among x → AllByRecursion Among old → Rises Before old → Put Among Before x old
put order x [] ax allowed rises = put_first x [] ax allowed tt rises
put {X} {Among} {Before} order x (y ∷ ys) ax allowed rises =
    ⊎_elim
    (λ (first : Before x y). put_first x (y ∷ ys) ax allowed (first, before_all order x y ys ax allowed.0 allowed.1 first rises.0) rises)
    (λ (rest : (x ≡ y) ⊎ Before y x).
    ⊎_elim (λ (same : x ≡ y). put_nowhere x y ys same allowed rises) (λ (later : Before y x). put_later x y ys later allowed rises (put order x ys ax allowed.1 rises.1)) rest)
    (order.compared x y ax allowed.0)

-- a list that rises and has the same elements
record IsSorted {X : Type 0} (Among : X → Type 0) (Before : X → X → Type 0) (found new : List X) : Type 0 where
  pub rises : Rises Before new
  pub among : AllByRecursion Among new
  pub keeps : (x : X) → Contains found x → Contains new x
  pub only : (x : X) → Contains new x → Contains found x

sorted : {X : Type 0} {Among : X → Type 0} {Before : X → X → Type 0} → IsOrder Among Before → (found : List X) → ((x : X) → Contains found x → Among x) → (new : List X) × IsSorted Among Before found new
sorted order [] all = ([], record { rises = tt; among = tt; keeps = λ x c. c; only = λ x c. c })
sorted {X} {Among} {Before} order (x ∷ xs) all =
    let rest = sorted order xs (λ y c. all y (contains_more x xs y (inr c))) in
    let p = put order x rest.0 (all x (contains_more x xs x (inl refl))) rest.1.among rest.1.rises in (
      p.0,
      record {
        rises = p.1.rises;
        among = p.1.among;
        keeps = λ y c. ⊎_elim (λ (e : x ≡ y). p.1.keeps y (inl e)) (λ (later : Contains xs y). p.1.keeps y (inr (rest.1.keeps y later))) (contains_cases x xs y c);
        only = λ y c. ⊎_elim (λ (e : x ≡ y). contains_more x xs y (inl e)) (λ (old : Contains rest.0 y). contains_more x xs y (inr (rest.1.only y old))) (p.1.only y c);
      },
    )

-- Every list has one in order with the same elements, each once.
pub in_order : {X : Type 0} {Among : X → Type 0} {Before : X → X → Type 0} → IsOrder Among Before → (found : List X) → ((x : X) → Contains found x → Among x) → (new : List X) × AllPairs Before new × ((x : X) → Contains new x ↔ Contains found x)
in_order {X} {Among} {Before} order found all =
    let s = sorted order found all in (s.0, in_pairs Before s.0 s.1.rises, λ x. (s.1.only x, s.1.keeps x))
