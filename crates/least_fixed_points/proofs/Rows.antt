-- The rows of users.
use Rattle.std.proofs.Common.{◌≡◌, ◌≢◌, ◌⊎◌, ◌∙◌, inl, inr, ◌≤◌, ◌<◌, ◌+◌, ℕ, zero, suc, true, false, List, [], ◌∷◌, ◌++◌, length, take, get_or, Some, refl, sym, ap, subst, arith, eqb}
use Rattle.std.proofs.lemmas.Bool.Decides.{eqb_tells}
use Rattle.std.specs.Prelude.{◌↔◌, slice_get}
use Rattle.std.specs.List.{Contains, slice_set}
use Rattle.std.specs.declared.alloc.Global.{Global}
use Rattle.std.specs.declared.vec.Vec.{Vec}
use Rattle.std.proofs.lemmas.List.{length-set, take_more, length-take}
use Rattle.std.proofs.lemmas.List.Elements.{Contains-append_left, Contains-append_right, Contains-append_cases}
use Rattle.least_fixed_points.specs.declared.nodes.Node.{Node}
use Rattle.least_fixed_points.specs.Marking.{HasPart, HasUser, AddsUser, AddsUsers}
use Rattle.least_fixed_points.proofs.Growth.{the_one, has_one}

slice_get-set_same : {X : Type 0} (xs : List X) (k : ℕ) (x : X) → k < length xs → slice_get (slice_set xs k x) k ≡ Some x
slice_get-set_same [] k x below = absurd (omega arith)
slice_get-set_same (y ∷ xs) zero x below = refl
slice_get-set_same (y ∷ xs) (suc k) x below = slice_get-set_same xs k x (omega arith)

slice_get-set_other : {X : Type 0} (xs : List X) (k j : ℕ) (x : X) → j ≢ k → slice_get (slice_set xs k x) j ≡ slice_get xs j
slice_get-set_other [] k j x ne = refl
slice_get-set_other (y ∷ xs) zero zero x ne = absurd (ne refl)
slice_get-set_other (y ∷ xs) zero (suc j) x ne = refl
slice_get-set_other (y ∷ xs) (suc k) zero x ne = refl
slice_get-set_other (y ∷ xs) (suc k) (suc j) x ne = slice_get-set_other xs k j x (λ e. ne (ap suc e))

-- one more user in a row
pub AddsUser-push : (part user : ℕ) (rows : List (Vec ℕ Global)) (row new : Vec ℕ Global) → part < length rows → slice_get rows part ≡ Some row → new.items ≡ row.items ++ user ∷ [] → AddsUser part user rows (slice_set rows part new)
AddsUser-push part user rows row new below there more = record {
  size = length-set rows part new;
  exact = λ p u. (λ h. to p u (eqb_tells p part) h, λ h. back p u (eqb_tells p part) h);
}
  where
    at : slice_get (slice_set rows part new) part ≡ Some new
    at = slice_get-set_same rows part new below

    to : (p u : ℕ) → ((eqb p part ≡ true) × (p ≡ part)) ⊎ ((eqb p part ≡ false) × (p ≢ part)) → HasUser (slice_set rows part new) p u → HasUser rows p u ⊎ ((p < length rows) × (p ≡ part) × (u ≡ user))
    to p u (inl e) (r, is, has) =
        let G : ℕ → Type 0 = λ q. slice_get (slice_set rows part new) q ≡ Some r in
        let both : Some new ≡ Some r = sym at ∙ subst G e.1 is in
        let same : new ≡ r = cc in
        let In : Vec ℕ Global → Type 0 = λ v. Contains v.items u in
        let L : ℕ → Type 0 = λ q. q < length rows in
        let H : ℕ → Type 0 = λ q. HasUser rows q u in
        elim (Contains-append_cases row.items (user ∷ []) u (rw more at (subst In (sym same) has))) [
          | inl old ↦ inl (subst H (sym e.1) (row, there, old))
          | inr last ↦ inr (subst L (sym e.1) below, e.1, the_one user u last)
        ]
    to p u (inr ne) (r, is, has) = inl (r, (sym (slice_get-set_other rows part p new ne.1) ∙ is), has)

    back : (p u : ℕ) → ((eqb p part ≡ true) × (p ≡ part)) ⊎ ((eqb p part ≡ false) × (p ≢ part)) → HasUser rows p u ⊎ ((p < length rows) × (p ≡ part) × (u ≡ user)) → HasUser (slice_set rows part new) p u
    back p u (inl e) h =
        let H : ℕ → Type 0 = λ q. HasUser (slice_set rows part new) q u in
        let has : Contains new.items u = rw more (elim h [
          | inl old ↦ (
              let G : ℕ → Type 0 = λ q. slice_get rows q ≡ Some old.0 in
              let both : Some row ≡ Some old.0 = sym there ∙ subst G e.1 old.1 in
              let same : row ≡ old.0 = cc in
              let In : Vec ℕ Global → Type 0 = λ v. Contains v.items u in
              Contains-append_left row.items (user ∷ []) u (subst In (sym same) old.2)
              )
          | inr new_one ↦ (let In : ℕ → Type 0 = λ w. Contains (row.items ++ user ∷ []) w in subst In (sym new_one.2) (Contains-append_right row.items (user ∷ []) user (has_one user)))
        ]) in
        subst H (sym e.1) (new, at, has)
    back p u (inr ne) h = elim h [
      | inl old ↦ (old.0, (slice_get-set_other rows part p new ne.1 ∙ old.1), old.2)
      | inr new_one ↦ absurd (ne.1 new_one.1)
    ]

-- no row for the part
pub AddsUser-none : (part user : ℕ) (rows : List (Vec ℕ Global)) → length rows ≤ part → AddsUser part user rows rows
AddsUser-none part user rows past = record {
  size = refl;
  exact = λ p u. (λ h. inl h, λ h. elim h [ inl old ↦ old | inr new_one ↦ (let below = new_one.0 in let e = new_one.1 in absurd (omega (arith, below, e, past))) ]);
}

-- parts one after the other
pub AddsUsers-none : (user : ℕ) (rows : List (Vec ℕ Global)) → AddsUsers [] user rows rows
AddsUsers-none user rows = record { size = refl; exact = λ p u. (λ h. inl h, λ h. elim h [ inl old ↦ old | inr new_one ↦ (let below = new_one.1.1 in absurd (omega (arith, below))) ]) }

pub AddsUsers-more : (parts : List ℕ) (i d user : ℕ) (a b c : List (Vec ℕ Global)) → i < length parts → AddsUsers (take i parts) user a b → AddsUser (get_or parts i d) user b c → AddsUsers (take (i + 1) parts) user a c
AddsUsers-more parts i d user a b c below these that =
    let part = get_or parts i d in
    rw (take_more parts i d below)
    (record {
      size = that.size ∙ these.size;
      exact = λ p u. (
        (λ h. elim ((that.exact p u).0 h) [
          | inl old ↦ elim ((these.exact p u).0 old) [ inl x ↦ inl x | inr y ↦ inr (y.0, Contains-append_left (take i parts) (part ∷ []) p y.1, y.2) ]
          | inr y ↦ inr (omega (arith, y.0, these.size), (let In : ℕ → Type 0 = λ q. Contains (take i parts ++ part ∷ []) q in subst In (sym y.1) (Contains-append_right (take i parts) (part ∷ []) part (has_one part))), y.2)
        ]),
        (λ h. elim h [
          | inl x ↦ (that.exact p u).1 (inl ((these.exact p u).1 (inl x)))
          | inr y ↦ elim (Contains-append_cases (take i parts) (part ∷ []) p y.1) [
            | inl old ↦ (that.exact p u).1 (inl ((these.exact p u).1 (inr (y.0, old, y.2))))
            | inr last ↦ (that.exact p u).1 (inr (omega (arith, y.0, these.size), the_one part p last, y.2))
          ]
        ]),
      );
    })

-- rows without users
pub no_user : (p u : ℕ) → ¬ HasUser [] p u
no_user p u (row, is, has) = let no : ⊥ = cc in no

pub no_user-push : (rows : List (Vec ℕ Global)) (row : Vec ℕ Global) → row.items ≡ [] → ((p u : ℕ) → ¬ HasUser rows p u) → (p u : ℕ) → ¬ HasUser (rows ++ row ∷ []) p u
no_user-push [] row empty none zero u (r, is, has) =
    let same : row ≡ r = cc in
    let In : Vec ℕ Global → Type 0 = λ v. Contains v.items u in
    let L : List ℕ → Type 0 = λ xs. Contains xs u in
    let h = subst L empty (subst In (sym same) has) in
    let below = h.1 in
    omega (arith, below)
no_user-push [] row empty none (suc p) u (r, is, has) = let no : ⊥ = cc in no
no_user-push (first ∷ rows) row empty none zero u h = none zero u h
no_user-push (first ∷ rows) row empty none (suc p) u h = no_user-push rows row empty (λ q w k. none (suc q) w k) p u h

slice_get-push : {X : Type 0} (xs : List X) (y : X) (k : ℕ) (x : X) → slice_get (xs ++ y ∷ []) k ≡ Some x → (slice_get xs k ≡ Some x) ⊎ ((k ≡ length xs) × (y ≡ x))
slice_get-push [] y zero x h = inr (refl, let e : y ≡ x = cc in e)
slice_get-push [] y (suc k) x h = absurd (let no : ⊥ = cc in no)
slice_get-push (z ∷ xs) y zero x h = inl h
slice_get-push (z ∷ xs) y (suc k) x h = elim (slice_get-push xs y k x h) [ inl e ↦ inl e | inr e ↦ inr (omega (arith, e.0), e.1) ]

slice_get-left : {X : Type 0} (xs : List X) (y : X) (k : ℕ) (x : X) → slice_get xs k ≡ Some x → slice_get (xs ++ y ∷ []) k ≡ Some x
slice_get-left [] y k x h = absurd (let no : ⊥ = cc in no)
slice_get-left (z ∷ xs) y zero x h = h
slice_get-left (z ∷ xs) y (suc k) x h = slice_get-left xs y k x h

slice_get-last : {X : Type 0} (xs : List X) (y : X) → slice_get (xs ++ y ∷ []) (length xs) ≡ Some y
slice_get-last [] y = refl
slice_get-last (z ∷ xs) y = slice_get-last xs y

-- the rows have the users of these nodes, which are among this number of nodes
pub record AreUsersOf (count : ℕ) (nodes : List Node) (rows : List (Vec ℕ Global)) : Type 0 where
  pub size : length rows ≡ count
  pub exact : (p u : ℕ) → HasUser rows p u ↔ ((p < count) × HasPart nodes u p)

pub AreUsersOf-none : (count : ℕ) (rows : List (Vec ℕ Global)) → length rows ≡ count → ((p u : ℕ) → ¬ HasUser rows p u) → AreUsersOf count [] rows
AreUsersOf-none count rows size none = record {
  size = size;
  exact = λ p u. (λ h. absurd (none p u h), λ h. let is = h.1.1 in let no : ⊥ = cc in absurd no);
}

-- the users of one more node
pub AreUsersOf-more : (count : ℕ) (nodes : List Node) (i : ℕ) (d : Node) (a b : List (Vec ℕ Global)) → i < length nodes → AreUsersOf count (take i nodes) a → AddsUsers (get_or nodes i d).parts.items i a b → AreUsersOf count (take (i + 1) nodes) b
AreUsersOf-more count nodes i d a b below old adds =
    let y = get_or nodes i d in
    let before = take i nodes in
    let long : length before ≡ i = omega (arith, length-take i nodes, below) in
    rw (take_more nodes i d below)
    (record {
      size = adds.size ∙ old.size;
      exact = λ p u. (
        (λ h. elim ((adds.exact p u).0 h) [
          | inl was ↦ (let x = (old.exact p u).0 was in (x.0, (x.1.0, slice_get-left before y u x.1.0 x.1.1, x.1.2)))
          | inr n ↦ (
              let P : ℕ → Type 0 = λ w. slice_get (before ++ y ∷ []) w ≡ Some y in
              let there : slice_get (before ++ y ∷ []) u ≡ Some y = subst P (long ∙ sym n.2) (slice_get-last before y) in
              (omega (arith, n.0, old.size), (y, there, n.1))
              )
        ]),
        (λ h. elim (slice_get-push before y u h.1.0 h.1.1) [
          | inl was ↦ (adds.exact p u).1 (inl ((old.exact p u).1 (h.0, (h.1.0, was, h.1.2))))
          | inr e ↦ (
              let In : Node → Type 0 = λ n. Contains n.parts.items p in
              (adds.exact p u).1 (inr (omega (arith, h.0, old.size), subst In (sym e.1) h.1.2, e.0 ∙ long))
              )
        ]),
      );
    })
