-- Lists: members by their indices, lists in order, and lists of the same length.
use Rattle.std.proofs.Common.{◌≡◌, inl, inr, ◌∙◌, ◌<◌, ◌+◌, ℕ, zero, suc, List, [], ◌∷◌, length, map, get_or, Some, slice_get, zero-add, refl, sym, ap, subst, arith}
use Rattle.std.specs.List.{AllByRecursion, AllPairs, AllZip, Any, Contains}
use Rattle.std.proofs.lemmas.List.Elements.{All-contains, All-from_recursion}
use Rattle.std.proofs.lemmas.Bool.{cases_order}
use Rattle.std.proofs.lemmas.Option.{slice_get-get_or, slice_get_within, get_or_from_slice_get}
use Rattle.name_table.proofs.Order.{in_front, in_tail, in_cons, in_none}
use Rattle.program_schema.specs.SchemaOf.{AreRows}

-- Members by their indices

pub place_in : {X : Type 0} (xs : List X) (x : X) → Contains xs x → (k : ℕ) × (slice_get xs k ≡ Some x)
place_in xs x (k, within, at) = (k, slice_get-get_or xs k x within ∙ ap Some at)

pub in_place : {X : Type 0} (xs : List X) (k : ℕ) (x : X) → slice_get xs k ≡ Some x → Contains xs x
in_place xs k x at = (k, slice_get_within xs k x at, get_or_from_slice_get xs k x x at)

pub any_place : {X : Type 0} (P : X → Type 0) (xs : List X) → Any P xs → (k : ℕ) × (x : X) × (slice_get xs k ≡ Some x) × P x
any_place P xs (k, x, within, at, holds) = (k, x, slice_get-get_or xs k x within ∙ ap Some at, holds)

pub any_at : {X : Type 0} (P : X → Type 0) (xs : List X) (k : ℕ) (x : X) → slice_get xs k ≡ Some x → P x → Any P xs
any_at P xs k x at holds = (k, x, slice_get_within xs k x at, get_or_from_slice_get xs k x x at, holds)

-- a property of all elements holds of the one at an index
pub holds_at : {X : Type 0} (P : X → Type 0) (xs : List X) (k : ℕ) (x : X) → AllByRecursion P xs → slice_get xs k ≡ Some x → P x
holds_at P xs k x all at = All-contains P xs x (All-from_recursion P xs all) (in_place xs k x at)

-- Lists in order

pub pair_at : {X : Type 0} (R : X → X → Type 0) (xs : List X) (i j : ℕ) (x y : X) → AllPairs R xs → i < j → slice_get xs i ≡ Some x → slice_get xs j ≡ Some y → R x y
pair_at R xs i j x y ordered before p q =
    subst (λ z. R z y) (get_or_from_slice_get xs i x x p) (subst (R (get_or xs i x)) (get_or_from_slice_get xs j y x q) (ordered i j x before (slice_get_within xs j y q)))

-- an element that is not before itself is at one index
pub one_place : {X : Type 0} (R : X → X → Type 0) (xs : List X) (x : X) (i j : ℕ) → AllPairs R xs → ¬ R x x → slice_get xs i ≡ Some x → slice_get xs j ≡ Some x → i ≡ j
one_place R xs x i j ordered never p q = elim (cases_order i j) [
  | inl same ↦ same
  | inr (inl before) ↦ absurd (never (pair_at R xs i j x x ordered before p q))
  | inr (inr after) ↦ absurd (never (pair_at R xs j i x x ordered after q p))
]

below_first : {X : Type 0} (R : X → X → Type 0) (x : X) (xs : List X) (z : X) → AllPairs R (x ∷ xs) → Contains xs z → R x z
below_first R x xs z ordered among =
    let place = place_in xs z among in
    pair_at R (x ∷ xs) 0 (suc place.0) x z ordered (omega arith) refl place.1

ordered_rest : {X : Type 0} (R : X → X → Type 0) (x : X) (xs : List X) → AllPairs R (x ∷ xs) → AllPairs R xs
ordered_rest R x xs ordered i j d before within = ordered (suc i) (suc j) d (omega arith) (omega arith)

-- Two lists in an order that holds one way at most, with the same members, are the same list.
module _ {X : Type 0} (R : X → X → Type 0) (Good : X → Type 0) (apart : (x y : X) → Good x → Good y → R x y → ¬ R y x) where
  same_first : (x : X) (xs : List X) (y : X) (ys : List X) → Good x → Good y → AllPairs R (x ∷ xs) → AllPairs R (y ∷ ys) → Contains (y ∷ ys) x → Contains (x ∷ xs) y → x ≡ y
  same_first x xs y ys good other p q there back = elim (in_cons y ys x there) [
    | inl same ↦ same
    | inr following ↦ elim (in_cons x xs y back) [
      | inl same ↦ sym same
      | inr after ↦ absurd (apart x y good other (below_first R x xs y p after) (below_first R y ys x q following))
    ]
  ]

  in_rest : (x : X) (xs : List X) (y : X) (ys : List X) → Good x → x ≡ y → AllPairs R (x ∷ xs) → (z : X) → Contains (y ∷ ys) z → Contains xs z → Contains ys z
  in_rest x xs y ys good same p z there following = elim (in_cons y ys z there) [
    | inl is ↦ absurd (let self : R x x = subst (R x) (is ∙ sym same) (below_first R x xs z p following) in apart x x good good self self)
    | inr among ↦ among
  ]

  pub same_ordered : (xs ys : List X) → AllPairs R xs → AllPairs R ys → ((z : X) → Contains xs z → Good z) → ((z : X) → Contains xs z → Contains ys z) → ((z : X) → Contains ys z → Contains xs z) → xs ≡ ys
  same_ordered [] [] p q good to back = refl
  same_ordered [] (y ∷ ys) p q good to back = absurd (in_none y (back y (in_front y ys)))
  same_ordered (x ∷ xs) [] p q good to back = absurd (in_none x (to x (in_front x xs)))
  same_ordered (x ∷ xs) (y ∷ ys) p q good to back =
      let first = same_first x xs y ys (good x (in_front x xs)) (good y (back y (in_front y ys))) p q (to x (in_front x xs)) (back y (in_front y ys)) in
      let others = same_ordered xs ys (ordered_rest R x xs p) (ordered_rest R y ys q) (λ z h. good z (in_tail x xs z h))
      (λ z h. in_rest x xs y ys (good x (in_front x xs)) first p z (to z (in_tail x xs z h)) h)
      (λ z h. in_rest y ys x xs (good y (back y (in_front y ys))) (sym first) q z (back z (in_tail y ys z h)) h) in
      ap (λ z. z ∷ xs) first ∙ ap (λ zs. y ∷ zs) others

-- Lists side by side

pub rows_of : {X Y : Type 0} (R : X → Y → Type 0) (index : ℕ) (xs : List X) (ys : List Y) → AllZip R xs ys → AreRows (λ n. R) index xs ys
rows_of R index [] [] are = tt
rows_of R index [] (y ∷ ys) are = absurd are
rows_of R index (x ∷ xs) [] are = absurd are
rows_of R index (x ∷ xs) (y ∷ ys) are = (are.0, rows_of R (index + 1) xs ys are.1)

pub rows_length : {X Y : Type 0} (R : ℕ → X → Y → Type 0) (index : ℕ) (xs : List X) (ys : List Y) → AreRows R index xs ys → length xs ≡ length ys
rows_length R index [] [] are = refl
rows_length R index [] (y ∷ ys) are = absurd are
rows_length R index (x ∷ xs) [] are = absurd are
rows_length R index (x ∷ xs) (y ∷ ys) are = ap suc (rows_length R (index + 1) xs ys are.1)

-- the element that has the row at an index
had_from : {X Y : Type 0} (R : ℕ → X → Y → Type 0) (index : ℕ) (xs : List X) (ys : List Y) → AreRows R index xs ys → (k : ℕ) (y : Y) → slice_get ys k ≡ Some y → (x : X) × (slice_get xs k ≡ Some x) × R (index + k) x y
had_from R index [] [] are k y at = cc
had_from R index [] (y ∷ ys) are k z at = absurd are
had_from R index (x ∷ xs) [] are k y at = absurd are
had_from R index (x ∷ xs) (y ∷ ys) are zero z at =
    let same : y ≡ z = cc in
    (x, refl, subst (λ n. R n x z) (omega arith) (subst (R index x) same are.0))
had_from R index (x ∷ xs) (y ∷ ys) are (suc k) z at =
    let there = had_from R (index + 1) xs ys are.1 k z at in
    (there.0, there.1, subst (λ n. R n there.0 z) (omega arith) there.2)

pub row_had : {X Y : Type 0} (R : ℕ → X → Y → Type 0) (xs : List X) (ys : List Y) → AreRows R 0 xs ys → (k : ℕ) (y : Y) → slice_get ys k ≡ Some y → (x : X) × (slice_get xs k ≡ Some x) × R k x y
row_had R xs ys are k y at = let there = had_from R 0 xs ys are k y at in (there.0, there.1, subst (λ n. R n there.0 y) (zero-add k) there.2)

-- the row of the element at an index
row_from : {X Y : Type 0} (R : ℕ → X → Y → Type 0) (index : ℕ) (xs : List X) (ys : List Y) → AreRows R index xs ys → (k : ℕ) (x : X) → slice_get xs k ≡ Some x → (y : Y) × (slice_get ys k ≡ Some y) × R (index + k) x y
row_from R index [] [] are k x at = cc
row_from R index [] (y ∷ ys) are k x at = absurd are
row_from R index (x ∷ xs) [] are k z at = absurd are
row_from R index (x ∷ xs) (y ∷ ys) are zero z at =
    let same : x ≡ z = cc in
    (y, refl, subst (λ n. R n z y) (omega arith) (subst (λ w. R index w y) same are.0))
row_from R index (x ∷ xs) (y ∷ ys) are (suc k) z at =
    let there = row_from R (index + 1) xs ys are.1 k z at in
    (there.0, there.1, subst (λ n. R n z there.0) (omega arith) there.2)

pub row_of : {X Y : Type 0} (R : ℕ → X → Y → Type 0) (xs : List X) (ys : List Y) → AreRows R 0 xs ys → (k : ℕ) (x : X) → slice_get xs k ≡ Some x → (y : Y) × (slice_get ys k ≡ Some y) × R k x y
row_of R xs ys are k x at = let there = row_from R 0 xs ys are k x at in (there.0, there.1, subst (λ n. R n x there.0) (zero-add k) there.2)

-- if each element has one row, up to what is looked at, then a list has one list of rows
pub same_rows : {X Y Z : Type 0} (look : Y → Z) (R S : ℕ → X → Y → Type 0) → ((n : ℕ) (x : X) (a b : Y) → R n x a → S n x b → look a ≡ look b) → (index : ℕ) (xs : List X) (us vs : List Y) → AreRows R index xs us → AreRows S index xs vs → map look us ≡ map look vs
same_rows look R S one index [] [] [] p q = refl
same_rows look R S one index [] [] (v ∷ vs) p q = absurd q
same_rows look R S one index [] (u ∷ us) vs p q = absurd p
same_rows look R S one index (x ∷ xs) [] vs p q = absurd p
same_rows look R S one index (x ∷ xs) (u ∷ us) [] p q = absurd q
same_rows look R S one index (x ∷ xs) (u ∷ us) (v ∷ vs) p q =
    let first = one index x u v p.0 q.0 in
    let others = same_rows look R S one (index + 1) xs us vs p.1 q.1 in
    cc

-- in lists that look alike, the elements at an index look alike
pub alike_at : {Y Z : Type 0} (look : Y → Z) (us vs : List Y) → map look us ≡ map look vs → (k : ℕ) (u : Y) → slice_get us k ≡ Some u → (v : Y) × (slice_get vs k ≡ Some v) × (look v ≡ look u)
alike_at look [] vs same k u at = cc
alike_at look (u ∷ us) [] same k w at = cc
alike_at look (u ∷ us) (v ∷ vs) same zero w at =
    let is : u ≡ w = cc in
    let first : look v ≡ look u = cc in
    (v, refl, first ∙ ap look is)
alike_at look (u ∷ us) (v ∷ vs) same (suc k) w at =
    let others : map look us ≡ map look vs = cc in
    alike_at look us vs others k w at
