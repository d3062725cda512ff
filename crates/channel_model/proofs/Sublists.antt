-- Lists that leave some elements of another out.
use Rattle.std.proofs.Common.{◌≡◌, ◌≢◌, ℕ, zero, suc, ◌-◌, ℤ, Bool, true, false, not, ◌&&◌, cond, List, [], ◌∷◌, ◌++◌, length, take, find, flat_map, Some, refl, sym, ap, ◌∙◌, append_assoc, is_some}
use Rattle.std.specs.List.{AllByRecursion, list_any}
use Rattle.std.proofs.lemmas.Option.{same_Some}
use Rattle.ipdl_base.specs.declared.kinds.Compress.{Compress}
use Rattle.ipdl_base.specs.declared.kinds.Compress.TheVariants.{Plain, Last, All}
use Rattle.pending_queue.specs.declared.item.Item.{Item}
use Rattle.pending_queue.specs.Compression.{are_alike, replaced, staying, without_latest}
use Rattle.pending_queue.specs.DeferralContext.{without_first}
use Rattle.channel_model.specs.Actors.{AreDistinct}

-- the first list has some elements of the second, in their order
pub data Sublist {A : Type 0} : List A → List A → Type 0 where
  nil : Sublist [] []
  kept : {xs ys : List A} (x : A) → Sublist xs ys → Sublist (x ∷ xs) (x ∷ ys)
  left : {xs ys : List A} (x : A) → Sublist xs ys → Sublist xs (x ∷ ys)

pub sublist-all : {A : Type 0} (xs : List A) → Sublist xs xs
sublist-all [] = nil
sublist-all (x ∷ xs) = kept x (sublist-all xs)

pub sublist-none : {A : Type 0} (xs : List A) → Sublist [] xs
sublist-none [] = nil
sublist-none (x ∷ xs) = left x (sublist-none xs)

pub sublist-after : {A : Type 0} (zs xs ys : List A) → Sublist xs ys → Sublist (zs ++ xs) (zs ++ ys)
sublist-after [] xs ys h = h
sublist-after (z ∷ zs) xs ys h = kept z (sublist-after zs xs ys h)

pub sublist-past : {A : Type 0} (zs xs ys : List A) → Sublist xs ys → Sublist xs (zs ++ ys)
sublist-past [] xs ys h = h
sublist-past (z ∷ zs) xs ys h = left z (sublist-past zs xs ys h)

pub sublist-flat_map : {A B : Type 0} (f : A → List B) (xs ys : List A) → Sublist xs ys → Sublist (flat_map f xs) (flat_map f ys)
sublist-flat_map f _ _ nil = nil
sublist-flat_map f _ _ (kept {xs = xs} {ys = ys} x h) = sublist-after (f x) (flat_map f xs) (flat_map f ys) (sublist-flat_map f xs ys h)
sublist-flat_map f _ _ (left {xs = xs} {ys = ys} x h) = sublist-past (f x) (flat_map f xs) (flat_map f ys) (sublist-flat_map f xs ys h)

pub all-sublist : {A : Type 0} (P : A → Type 0) (xs ys : List A) → Sublist xs ys → AllByRecursion P ys → AllByRecursion P xs
all-sublist P _ _ nil h = tt
all-sublist P _ _ (kept {xs = xs} {ys = ys} x s) h = (h.0, all-sublist P xs ys s h.1)
all-sublist P _ _ (left {xs = xs} {ys = ys} x s) h = all-sublist P xs ys s h.1

pub distinct-sublist : (xs ys : List ℤ) → Sublist xs ys → AreDistinct ys → AreDistinct xs
distinct-sublist _ _ nil h = tt
distinct-sublist _ _ (kept {xs = xs} {ys = ys} x s) h = (all-sublist (λ later. x ≢ later) xs ys s h.0, distinct-sublist xs ys s h.1)
distinct-sublist _ _ (left {xs = xs} {ys = ys} x s) h = distinct-sublist xs ys s h.1

-- Arrived items that stay

pub without_first-sublist : (test : Item → Bool) (items : List Item) → Sublist (without_first test items) items
without_first-sublist test [] = nil
without_first-sublist test (x ∷ xs) = elim (test x) as (λ b. Sublist (cond b xs (x ∷ without_first test xs)) (x ∷ xs)) [
  | true ↦ left x (sublist-all xs)
  | false ↦ kept x (without_first-sublist test xs)
]

without_latest-sublist : (test : Item → Bool) (items : List Item) → Sublist (without_latest test items) items
without_latest-sublist test [] = nil
without_latest-sublist test (x ∷ xs) = elim (test x && not (list_any test xs)) as (λ b. Sublist (cond b xs (x ∷ without_latest test xs)) (x ∷ xs)) [
  | true ↦ left x (sublist-all xs)
  | false ↦ kept x (without_latest-sublist test xs)
]

take-sublist : {A : Type 0} (n : ℕ) (xs : List A) → Sublist (take n xs) xs
take-sublist zero xs = sublist-none xs
take-sublist (suc n) [] = nil
take-sublist (suc n) (x ∷ xs) = kept x (take-sublist n xs)

pub staying-sublist : (compress : Compress) (new : Item) (items : List Item) → Sublist (staying compress new items) items
staying-sublist Plain new items = sublist-all items
staying-sublist Last new items = elim (is_some (replaced Last new items)) as (λ b. Sublist (cond b (take (length items - 1) items) items) items) [
  | true ↦ take-sublist (length items - 1) items
  | false ↦ sublist-all items
]
staying-sublist All new items = without_latest-sublist (are_alike new) items

-- An item that is taken out, with what is before and after it in a list that is made of the items

pub record TakenOut {B : Type 0} (f : Item → List B) (test : Item → Bool) (items : List Item) (x : Item) : Type 0 where
  pub before : List B
  pub following : List B
  pub whole : flat_map f items ≡ before ++ (f x ++ following)
  pub rest : flat_map f (without_first test items) ≡ before ++ following

found-out : {B : Type 0} (f : Item → List B) (test : Item → Bool) (b : Bool) (y : Item) (ys : List Item) (x : Item) → cond b (Some y) (find test ys) ≡ Some x → ((k : find test ys ≡ Some x) → TakenOut f test ys x) → (before : List B) × ((following : List B) × ((f y ++ flat_map f ys ≡ before ++ (f x ++ following)) × (flat_map f (cond b ys (y ∷ without_first test ys)) ≡ before ++ following)))
found-out f test true y ys x e k = ([], (flat_map f ys, (ap (λ (z : Item). f z ++ flat_map f ys) (same_Some y x e), refl)))
found-out f test false y ys x e k =
    let t : TakenOut f test ys x = k e in
    (f y ++ t.before, (t.following, (ap (λ zs. f y ++ zs) t.whole ∙ sym (append_assoc (f y) t.before (f x ++ t.following)), ap (λ zs. f y ++ zs) t.rest ∙ sym (append_assoc (f y) t.before t.following))))

pub taken_out : {B : Type 0} (f : Item → List B) (test : Item → Bool) (items : List Item) (x : Item) → find test items ≡ Some x → TakenOut f test items x
taken_out f test [] x e = cc
taken_out f test (y ∷ ys) x e =
    let r = found-out f test (test y) y ys x e (taken_out f test ys x) in
    record { before = r.0; following = r.1.0; whole = r.1.1.0; rest = r.1.1.1 }
