-- Elements of lists: in what is filtered, mapped or taken out, and the only element that passes a test.
use Rattle.std.proofs.Common.{◌≡◌, ◌≤◌, ◌⊎◌, inl, inr, Bool, true, false, cond, List, [], ◌∷◌, ◌++◌, filter, find, map, Some, refl, sym, ap, subst, ◌∙◌, arith}
use Rattle.std.proofs.lemmas.Bool.{cases_Bool}
use Rattle.std.proofs.lemmas.Option.{same_Some}
use Rattle.pending_queue.specs.declared.item.Item.{Item}
use Rattle.channel_laws.specs.Counts.{one_if, how_many}
use Rattle.channel_laws.specs.Notes.{In, here, there}
use Rattle.channel_laws.proofs.Growing.{in-before, in-following}
use Rattle.channel_laws.proofs.Leaving.{TakenFrom}

-- an element is the first, or a later one
pub in-cons : {A : Type 0} (xs : List A) (x y : A) → In y (x ∷ xs) → (y ≡ x) ⊎ In y xs
in-cons xs x y here = inl refl
in-cons xs x y (there i) = inr i

pub in-append : {A : Type 0} (xs ys : List A) (x : A) → In x (xs ++ ys) → In x xs ⊎ In x ys
in-append [] ys x i = inr i
in-append (z ∷ xs) ys x here = inl here
in-append (z ∷ xs) ys x (there i) = elim (in-append xs ys x i) [ inl j ↦ inl (there j) | inr j ↦ inr j ]

pub in-map : {A B : Type 0} (f : A → B) {x : A} {xs : List A} → In x xs → In (f x) (map f xs)
in-map f here = here
in-map f (there i) = there (in-map f i)

pub in-filter : {A : Type 0} (test : A → Bool) (xs : List A) (x : A) → In x xs → test x ≡ true → In x (filter test xs)
in-filter test [] x i passes = elim i [ ]
in-filter test (y ∷ xs) x here passes = subst (λ (b : Bool). In x (cond b (x ∷ filter test xs) (filter test xs))) (sym passes) here
in-filter test (y ∷ xs) x (there i) passes = by (test y) (in-filter test xs x i passes)
  where
    by : (b : Bool) → In x (filter test xs) → In x (cond b (y ∷ filter test xs) (filter test xs))
    by true j = there j
    by false j = j

-- an element is the one that is taken out, or among what is left
pub in-taken : (items rest : List Item) (x y : Item) → TakenFrom items rest x → In y items → (y ≡ x) ⊎ In y rest
in-taken items rest x y t i = by (in-append t.front (x ∷ t.back) y (subst (In y) t.whole i))
  where
    left : In y (t.front ++ t.back) → In y rest
    left j = subst (In y) (sym t.left) j

    by : In y t.front ⊎ In y (x ∷ t.back) → (y ≡ x) ⊎ In y rest
    by (inl j) = inr (left (in-before t.back j))
    by (inr j) = elim (in-cons t.back x y j) [ inl same ↦ inl same | inr k ↦ inr (left (in-following t.front k)) ]

-- an element that passes is counted
pub counted-in : {A : Type 0} (test : A → Bool) (xs : List A) (x : A) → In x xs → test x ≡ true → 1 ≤ how_many test xs
counted-in test [] x i passes = elim i [ ]
counted-in test (y ∷ xs) x here passes = let a : one_if (test x) ≡ 1 = ap one_if passes in omega (arith, a)
counted-in test (y ∷ xs) x (there i) passes = let rest = counted-in test xs x i passes in omega (arith, rest)

-- Where at most one element passes, the first that is found by a test which is no weaker is that element.
pub only-found : {A : Type 0} (test found : A → Bool) → ((x : A) → found x ≡ true → test x ≡ true) → (xs : List A) (x y : A) → how_many test xs ≤ 1 → In x xs → found x ≡ true → find found xs ≡ Some y → x ≡ y
only-found test found weaker [] x y few i passes is = elim i [ ]
only-found test found weaker (z ∷ xs) x y few here passes is = let k : Some x ≡ Some y = ap (λ (b : Bool). cond b (Some x) (find found xs)) (sym passes) ∙ is in same_Some x y k
only-found test found weaker (z ∷ xs) x y few (there i) passes is = elim (cases_Bool (found z)) [
  | inl first ↦
      let a : one_if (test z) ≡ 1 = ap one_if (weaker z first) in
      let b : 1 ≤ how_many test xs = counted-in test xs x i (weaker x passes) in
      absurd (omega (arith, few, a, b))
  | inr other ↦ only-found test found weaker xs x y (omega (arith, few)) i passes (ap (λ (b : Bool). cond b (Some z) (find found xs)) (sym other) ∙ is)
]
