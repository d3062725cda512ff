-- Which keys are chosen, and what the items of keys are.
use Rattle.std.proofs.Common.{◌≡◌, inl, inr, ℕ, Bool, true, false, cond, List, [], ◌∷◌, ◌++◌, Option, Some, None, refl, sym, ap, ◌∙◌, subst, find}
use Rattle.std.proofs.lemmas.Bool.{cases_Bool}
use Rattle.linked_lists.specs.Neighbours.{IsIn, AreDistinct, head, omit}
use Rattle.linked_lists.specs.Links.{key_eq}
use Rattle.linked_lists.specs.Chosen.{passes, chosen_keys, cons_some, items_of, item_of}
use Rattle.linked_lists.proofs.KeyTest.{key_test}
use Rattle.linked_lists.proofs.NeighbourLemmas.{same_or_other, omit-same, omit-other}

module _ {X : Type 0} (t : X → Bool) (item : ℕ → Option X) where
  pub chosen-yes : (k : ℕ) (ks : List ℕ) → passes t (item k) ≡ true → chosen_keys t item (k ∷ ks) ≡ k ∷ chosen_keys t item ks
  chosen-yes k ks e = ap (λ v. cond v (k ∷ chosen_keys t item ks) (chosen_keys t item ks)) e

  pub chosen-no : (k : ℕ) (ks : List ℕ) → passes t (item k) ≡ false → chosen_keys t item (k ∷ ks) ≡ chosen_keys t item ks
  chosen-no k ks e = ap (λ v. cond v (k ∷ chosen_keys t item ks) (chosen_keys t item ks)) e

  pub chosen-in : (k : ℕ) (ks : List ℕ) → IsIn k (chosen_keys t item ks) → IsIn k ks × (passes t (item k) ≡ true)
  chosen-in k [] h = absurd h
  chosen-in k (j ∷ ks) h =
      elim (cases_Bool (passes t (item j))) [
        | inl e ↦ elim (subst (IsIn k) (chosen-yes j ks e) h) [
          | inl f ↦ (inl f, ap (λ v. passes t (item v)) (sym f) ∙ e)
          | inr q ↦ (let r = chosen-in k ks q in (inr r.0, r.1))
        ]
        | inr n ↦ (let r = chosen-in k ks (subst (IsIn k) (chosen-no j ks n) h) in (inr r.0, r.1))
      ]

  pub in-chosen : (k : ℕ) (ks : List ℕ) → IsIn k ks → passes t (item k) ≡ true → IsIn k (chosen_keys t item ks)
  in-chosen k [] h p = absurd h
  in-chosen k (j ∷ ks) (inl e) p =
      subst (IsIn k) (sym (chosen-yes j ks (ap (λ v. passes t (item v)) e ∙ p))) (inl e)
  in-chosen k (j ∷ ks) (inr h) p =
      let r = in-chosen k ks h p in
      elim (cases_Bool (passes t (item j))) [
        | inl e ↦ subst (IsIn k) (sym (chosen-yes j ks e)) (inr r)
        | inr n ↦ subst (IsIn k) (sym (chosen-no j ks n)) r
      ]

  pub chosen-distinct : (ks : List ℕ) → AreDistinct ks → AreDistinct (chosen_keys t item ks)
  chosen-distinct [] o = tt
  chosen-distinct (j ∷ ks) o =
      elim (cases_Bool (passes t (item j))) [
        | inl e ↦ subst AreDistinct (sym (chosen-yes j ks e)) (λ h. o.0 (chosen-in j ks h).0, chosen-distinct ks o.1)
        | inr n ↦ subst AreDistinct (sym (chosen-no j ks n)) (chosen-distinct ks o.1)
      ]

  pub chosen-push : (ks : List ℕ) (k : ℕ) → passes t (item k) ≡ true → chosen_keys t item (ks ++ k ∷ []) ≡ chosen_keys t item ks ++ k ∷ []
  chosen-push [] k e = chosen-yes k [] e
  chosen-push (j ∷ ks) k e =
      elim (cases_Bool (passes t (item j))) [
        | inl f ↦ chosen-yes j (ks ++ k ∷ []) f ∙ ap (λ v. j ∷ v) (chosen-push ks k e) ∙ ap (λ v. v ++ k ∷ []) (sym (chosen-yes j ks f))
        | inr n ↦ chosen-no j (ks ++ k ∷ []) n ∙ chosen-push ks k e ∙ ap (λ v. v ++ k ∷ []) (sym (chosen-no j ks n))
      ]

  pub chosen-push-not : (ks : List ℕ) (k : ℕ) → passes t (item k) ≡ false → chosen_keys t item (ks ++ k ∷ []) ≡ chosen_keys t item ks
  chosen-push-not [] k e = chosen-no k [] e
  chosen-push-not (j ∷ ks) k e =
      ap (λ v. cond (passes t (item j)) (j ∷ v) v) (chosen-push-not ks k e)

  pub chosen-omit : (k : ℕ) (ks : List ℕ) → chosen_keys t item (omit key_eq k ks) ≡ omit key_eq k (chosen_keys t item ks)
  chosen-omit k [] = refl
  chosen-omit k (j ∷ ks) =
      elim (cases_Bool (passes t (item j))) [
        | inl e ↦ elim (same_or_other key_test j k) [
          | inl f ↦ ap (chosen_keys t item) (omit-same key_test k j ks f) ∙ chosen-omit k ks ∙ sym (omit-same key_test k j (chosen_keys t item ks) f) ∙ ap (omit key_eq k) (sym (chosen-yes j ks e))
          | inr n ↦ ap (chosen_keys t item) (omit-other key_test k j ks n) ∙ chosen-yes j (omit key_eq k ks) e ∙ ap (λ v. j ∷ v) (chosen-omit k ks) ∙ sym (omit-other key_test k j (chosen_keys t item ks) n) ∙ ap (omit key_eq k) (sym (chosen-yes j ks e))
        ]
        | inr u ↦ elim (same_or_other key_test j k) [
          | inl f ↦ ap (chosen_keys t item) (omit-same key_test k j ks f) ∙ chosen-omit k ks ∙ ap (omit key_eq k) (sym (chosen-no j ks u))
          | inr n ↦ ap (chosen_keys t item) (omit-other key_test k j ks n) ∙ chosen-no j (omit key_eq k ks) u ∙ chosen-omit k ks ∙ ap (omit key_eq k) (sym (chosen-no j ks u))
        ]
      ]

-- if the items of the keys are the same
pub chosen-same : {X : Type 0} (t : X → Bool) (item item' : ℕ → Option X) (ks : List ℕ) → ((k : ℕ) → IsIn k ks → item' k ≡ item k) → chosen_keys t item' ks ≡ chosen_keys t item ks
chosen-same t item item' [] h = refl
chosen-same t item item' (k ∷ ks) h =
    ap (λ v. cond (passes t v) (k ∷ chosen_keys t item' ks) (chosen_keys t item' ks)) (h k (inl refl))
    ∙ ap (λ v. cond (passes t (item k)) (k ∷ v) v) (chosen-same t item item' ks (λ j q. h j (inr q)))

pub items-same : {X : Type 0} (item item' : ℕ → Option X) (ks : List ℕ) → ((k : ℕ) → IsIn k ks → item' k ≡ item k) → items_of item' ks ≡ items_of item ks
items-same item item' [] h = refl
items-same item item' (k ∷ ks) h =
    ap (λ v. cons_some v (items_of item' ks)) (h k (inl refl)) ∙ ap (cons_some (item k)) (items-same item item' ks (λ j q. h j (inr q)))

cons_append : {X : Type 0} (o : Option X) (xs ys : List X) → cons_some o (xs ++ ys) ≡ cons_some o xs ++ ys
cons_append None xs ys = refl
cons_append (Some x) xs ys = refl

pub items-push : {X : Type 0} (item : ℕ → Option X) (ks : List ℕ) (k : ℕ) (x : X) → item k ≡ Some x → items_of item (ks ++ k ∷ []) ≡ items_of item ks ++ x ∷ []
items-push item [] k x e = ap (λ v. cons_some v []) e
items-push item (j ∷ ks) k x e =
    ap (cons_some (item j)) (items-push item ks k x e) ∙ cons_append (item j) (items_of item ks) (x ∷ [])

-- every key has an item
abbrev pub Full : {X : Type 0} → (ℕ → Option X) → List ℕ → Type 0
Full {X} item ks = (k : ℕ) → IsIn k ks → (x : X) × (item k ≡ Some x)

pub first-item : {X : Type 0} (t : X → Bool) (item : ℕ → Option X) (ks : List ℕ) → Full item ks → find t (items_of item ks) ≡ item_of item (head (chosen_keys t item ks))
first-item t item [] full = refl
first-item t item (k ∷ ks) full =
    let w = full k (inl refl) in
    let rest = first-item t item ks (λ j q. full j (inr q)) in
    ap (λ v. find t (cons_some v (items_of item ks))) w.1 ∙ elim (cases_Bool (t w.0)) [
      | inl e ↦ ap (λ v. cond v (Some w.0) (find t (items_of item ks))) e ∙ sym w.1 ∙ ap (λ v. item_of item (head v)) (sym (chosen-yes t item k ks (ap (passes t) w.1 ∙ e)))
      | inr n ↦ ap (λ v. cond v (Some w.0) (find t (items_of item ks))) n ∙ rest ∙ ap (λ v. item_of item (head v)) (sym (chosen-no t item k ks (ap (passes t) w.1 ∙ n)))
    ]
