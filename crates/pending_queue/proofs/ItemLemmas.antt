-- Which keys are chosen, and what the items of keys are.
use Rattle.std.proofs.Common.{◌≡◌, ◌≢◌, ◌⊎◌, inl, inr, ℕ, ◌<◌, Bool, true, false, not, ◌&&◌, ◌||◌, cond, List, [], ◌∷◌, Option, Some, None, is_some, refl, sym, ap, ◌∙◌, subst, true≢false}
use Rattle.std.specs.List.{list_any}
use Rattle.std.proofs.lemmas.Bool.{cases_Bool}
use Rattle.linked_lists.specs.Neighbours.{IsIn, AreDistinct, head, last_with, last, omit}
use Rattle.linked_lists.specs.Chosen.{passes, chosen_keys, cons_some, items_of, item_of, omit_some}
use Rattle.linked_lists.proofs.ChosenLemmas.{chosen-yes, chosen-no, chosen-in, Full}
use Rattle.linked_lists.proofs.NeighbourLemmas.{last-some, head-in, omit-same, omit-other, omit-none, last-of-in}
use Rattle.linked_lists.specs.Links.{key_eq}
use Rattle.linked_lists.proofs.KeyTest.{key_test}
use Rattle.pending_queue.specs.declared.item.Item.{Item}
use Rattle.pending_queue.specs.Links.{Rising}
use Rattle.pending_queue.specs.Compression.{latest, without_latest}
use Rattle.pending_queue.specs.DeferralContext.{without_first}

-- a key that is not the first goes from after it
not_first : (t : Item → Bool) (item : ℕ → Option Item) (k : ℕ) (ks : List ℕ) → (IsIn k ks → ⊥) → (o : Option ℕ) → ((j : ℕ) → o ≡ Some j → IsIn j ks × (passes t (item j) ≡ true)) → cons_some (item k) (items_of item (omit_some o ks)) ≡ items_of item (omit_some o (k ∷ ks))
not_first t item k ks n None h = refl
not_first t item k ks n (Some j) h =
    let m : k ≢ j = λ e. n (subst (λ v. IsIn v ks) (sym e) (h j refl).0) in
    ap (items_of item) (sym (omit-other key_test j k ks m))

pub first-without : (t : Item → Bool) (item : ℕ → Option Item) (ks : List ℕ) → Full item ks → AreDistinct ks → without_first t (items_of item ks) ≡ items_of item (omit_some (head (chosen_keys t item ks)) ks)
first-without t item [] full once = refl
first-without t item (k ∷ ks) full once =
    let w = full k (inl refl) in
    let rest = first-without t item ks (λ j q. full j (inr q)) once.1 in
    ap (λ v. without_first t (cons_some v (items_of item ks))) w.1 ∙ elim (cases_Bool (t w.0)) [
      | inl e ↦ ap (λ v. cond v (items_of item ks) (w.0 ∷ without_first t (items_of item ks))) e
          ∙ ap (items_of item) (sym (omit-same key_test k k ks refl ∙ omit-none key_test k ks once.0))
          ∙ ap (λ v. items_of item (omit_some (head v) (k ∷ ks))) (sym (chosen-yes t item k ks (ap (passes t) w.1 ∙ e)))
      | inr n ↦ ap (λ v. cond v (items_of item ks) (w.0 ∷ without_first t (items_of item ks))) n
          ∙ ap (λ v. cons_some v (without_first t (items_of item ks))) (sym w.1)
          ∙ ap (cons_some (item k)) rest
          ∙ not_first t item k ks once.0 (head (chosen_keys t item ks)) (λ j e. chosen-in t item j ks (head-in (chosen_keys t item ks) j e))
          ∙ ap (λ v. items_of item (omit_some (head v) (k ∷ ks))) (sym (chosen-no t item k ks (ap (passes t) w.1 ∙ n)))
    ]

-- whether some item passes is whether some key is chosen
any-chosen : (t : Item → Bool) (item : ℕ → Option Item) (ks : List ℕ) → Full item ks → list_any t (items_of item ks) ≡ is_some (last (chosen_keys t item ks))
any-chosen t item [] full = refl
any-chosen t item (k ∷ ks) full =
    let w = full k (inl refl) in
    ap (λ v. list_any t (cons_some v (items_of item ks))) w.1 ∙ elim (cases_Bool (t w.0)) [
      | inl e ↦ ap (λ v. v || list_any t (items_of item ks)) e ∙ sym (last-some k (chosen_keys t item ks)) ∙ ap (λ v. is_some (last v)) (sym (chosen-yes t item k ks (ap (passes t) w.1 ∙ e)))
      | inr n ↦ ap (λ v. v || list_any t (items_of item ks)) n ∙ any-chosen t item ks (λ j q. full j (inr q)) ∙ ap (λ v. is_some (last v)) (sym (chosen-no t item k ks (ap (passes t) w.1 ∙ n)))
    ]

last-cons : (k : ℕ) (ks : List ℕ) → last_with (Some k) ks ≡ cond (is_some (last ks)) (last ks) (Some k)
last-cons k [] = refl
last-cons k (j ∷ ks) = ap (λ v. cond v (last_with (Some j) ks) (Some k)) (sym (last-some j ks))

item_of-cond : (item : ℕ → Option Item) (b : Bool) (o p : Option ℕ) → item_of item (cond b o p) ≡ cond b (item_of item o) (item_of item p)
item_of-cond item true o p = refl
item_of-cond item false o p = refl

-- nothing, where it is not there
no-item : (item : ℕ → Option Item) (o : Option ℕ) → cond (is_some o) (item_of item o) None ≡ item_of item o
no-item item None = refl
no-item item (Some k) = refl

pub latest-item : (t : Item → Bool) (item : ℕ → Option Item) (ks : List ℕ) → Full item ks → latest t (items_of item ks) ≡ item_of item (last (chosen_keys t item ks))
latest-item t item [] full = refl
latest-item t item (k ∷ ks) full =
    let w = full k (inl refl) in
    let full' : Full item ks = λ j q. full j (inr q) in
    let ch = chosen_keys t item ks in
    let any : list_any t (items_of item ks) ≡ is_some (last ch) = any-chosen t item ks full' in
    let rest : latest t (items_of item ks) ≡ item_of item (last ch) = latest-item t item ks full' in
    ap (λ v. latest t (cons_some v (items_of item ks))) w.1
    ∙ ap (λ v. cond v (latest t (items_of item ks)) (cond (t w.0) (Some w.0) None)) any
    ∙ ap (λ v. cond (is_some (last ch)) v (cond (t w.0) (Some w.0) None)) rest
    ∙ elim (cases_Bool (t w.0)) [
      | inl e ↦ ap (λ v. cond (is_some (last ch)) (item_of item (last ch)) (cond v (Some w.0) None)) e
          ∙ ap (λ v. cond (is_some (last ch)) (item_of item (last ch)) v) (sym w.1)
          ∙ sym (item_of-cond item (is_some (last ch)) (last ch) (Some k))
          ∙ ap (item_of item) (sym (last-cons k ch))
          ∙ ap (λ v. item_of item (last v)) (sym (chosen-yes t item k ks (ap (passes t) w.1 ∙ e)))
      | inr n ↦ ap (λ v. cond (is_some (last ch)) (item_of item (last ch)) (cond v (Some w.0) None)) n
          ∙ no-item item (last ch)
          ∙ ap (λ v. item_of item (last v)) (sym (chosen-no t item k ks (ap (passes t) w.1 ∙ n)))
    ]

-- the latest goes, by whether it is after the first
goes-here : (item : ℕ → Option Item) (k : ℕ) (ks : List ℕ) (x : Item) (there : List Item) (o : Option ℕ) → item k ≡ Some x → (IsIn k ks → ⊥) → there ≡ items_of item (omit_some o ks) → cons_some (item k) (items_of item (omit_some o ks)) ≡ items_of item (omit_some o (k ∷ ks)) → cond (not (is_some o)) (items_of item ks) (x ∷ there) ≡ items_of item (omit_some (cond (is_some o) o (Some k)) (k ∷ ks))
goes-here item k ks x there None w n rest f = ap (items_of item) (sym (omit-same key_test k k ks refl ∙ omit-none key_test k ks n))
goes-here item k ks x there (Some j) w n rest f = ap (λ v. x ∷ v) rest ∙ ap (λ v. cons_some v (items_of item (omit key_eq j ks))) (sym w) ∙ f

pub latest-without : (t : Item → Bool) (item : ℕ → Option Item) (ks : List ℕ) → Full item ks → AreDistinct ks → without_latest t (items_of item ks) ≡ items_of item (omit_some (last (chosen_keys t item ks)) ks)
latest-without t item [] full once = refl
latest-without t item (k ∷ ks) full once =
    let w = full k (inl refl) in
    let full' : Full item ks = λ j q. full j (inr q) in
    let ch = chosen_keys t item ks in
    let any : list_any t (items_of item ks) ≡ is_some (last ch) = any-chosen t item ks full' in
    let rest : without_latest t (items_of item ks) ≡ items_of item (omit_some (last ch) ks) = latest-without t item ks full' once.1 in
    let following : cons_some (item k) (items_of item (omit_some (last ch) ks)) ≡ items_of item (omit_some (last ch) (k ∷ ks)) = not_first t item k ks once.0 (last ch) (λ j e. chosen-in t item j ks (last-of-in ch j e)) in
    ap (λ v. without_latest t (cons_some v (items_of item ks))) w.1
    ∙ ap (λ v. cond (t w.0 && not v) (items_of item ks) (w.0 ∷ without_latest t (items_of item ks))) any
    ∙ elim (cases_Bool (t w.0)) [
      | inl e ↦ ap (λ v. cond (v && not (is_some (last ch))) (items_of item ks) (w.0 ∷ without_latest t (items_of item ks))) e
          ∙ goes-here item k ks w.0 (without_latest t (items_of item ks)) (last ch) w.1 once.0 rest following
          ∙ ap (λ v. items_of item (omit_some v (k ∷ ks))) (sym (last-cons k ch))
          ∙ ap (λ v. items_of item (omit_some (last v) (k ∷ ks))) (sym (chosen-yes t item k ks (ap (passes t) w.1 ∙ e)))
      | inr n ↦ ap (λ v. cond (v && not (is_some (last ch))) (items_of item ks) (w.0 ∷ without_latest t (items_of item ks))) n
          ∙ ap (λ v. w.0 ∷ v) rest ∙ ap (λ v. cons_some v (items_of item (omit_some (last ch) ks))) (sym w.1) ∙ following
          ∙ ap (λ v. items_of item (omit_some (last v) (k ∷ ks))) (sym (chosen-no t item k ks (ap (passes t) w.1 ∙ n)))
    ]

-- ---- what rises

-- the first that is chosen has the least number
pub first-least : (t : Item → Bool) (item : ℕ → Option Item) (stamp : ℕ → ℕ) (ks : List ℕ) (f m : ℕ) → Rising stamp ks → head (chosen_keys t item ks) ≡ Some f → IsIn m ks → passes t (item m) ≡ true → (f ≡ m) ⊎ (stamp f < stamp m)
first-least t item stamp [] f m r e h p = cc
first-least t item stamp (k ∷ ks) f m r e h p =
    elim (cases_Bool (passes t (item k))) [
      | inl y ↦ (let g = ap head (sym (chosen-yes t item k ks y)) ∙ e in
          let kf : k ≡ f = cc in
          elim h [ inl q ↦ inl (sym kf ∙ q) | inr q ↦ inr (subst (λ v. stamp v < stamp m) kf (r.0 m q)) ])
      | inr n ↦ elim h [
        | inl q ↦ absurd (true≢false (sym (ap (λ v. passes t (item v)) q ∙ p) ∙ n))
        | inr q ↦ first-least t item stamp ks f m r.1 (ap head (sym (chosen-no t item k ks n)) ∙ e) q p
      ]
    ]

-- the first that passes two tests, where it is the first that passes the one
pub first-of-both : (t u : Item → Bool) (item : ℕ → Option Item) (ks : List ℕ) (f : ℕ) → head (chosen_keys t item ks) ≡ Some f → passes u (item f) ≡ true → head (chosen_keys t item (chosen_keys u item ks)) ≡ Some f
first-of-both t u item [] f e p = cc
first-of-both t u item (k ∷ ks) f e p =
    elim (cases_Bool (passes t (item k))) [
      | inl y ↦ (let g = ap head (sym (chosen-yes t item k ks y)) ∙ e in
          let kf : k ≡ f = cc in
          let uk : passes u (item k) ≡ true = ap (λ v. passes u (item v)) kf ∙ p in
          ap (λ v. head (chosen_keys t item v)) (chosen-yes u item k ks uk) ∙ ap head (chosen-yes t item k (chosen_keys u item ks) y) ∙ ap Some kf)
      | inr n ↦ (let e' = ap head (sym (chosen-no t item k ks n)) ∙ e in
          let rest = first-of-both t u item ks f e' p in
          elim (cases_Bool (passes u (item k))) [
            | inl v ↦ ap (λ w. head (chosen_keys t item w)) (chosen-yes u item k ks v) ∙ ap head (chosen-no t item k (chosen_keys u item ks) n) ∙ rest
            | inr v ↦ ap (λ w. head (chosen_keys t item w)) (chosen-no u item k ks v) ∙ rest
          ])
    ]
