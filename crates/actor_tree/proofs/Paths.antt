-- The way down ends at the actor that falls first.
use Rattle.std.proofs.Common.{◌≡◌, ◌≢◌, inl, inr, ℕ, suc, ◌<◌, ◌≤◌, ℤ, cond, List, [], ◌∷◌, ◌++◌, length, Some, refl, sym, ap, ◌∙◌, subst, int_eq, append_assoc, arith}
use Rattle.actor_tree.specs.declared.actor.Actor.{Actor}
use Rattle.actor_tree.specs.Tree.{actor_of, without, AreMadeAfter, IsTree}
use Rattle.actor_tree.specs.Fall.{below, post_order, first_of}
use Rattle.linked_lists.specs.Neighbours.{head, omit, IsIn}
use Rattle.ipdl_base.specs.Sides.{top_id}
use Rattle.actor_tree.specs.Links.{managed_ids}
use Rattle.actor_tree.specs.Path.{Path, here, down}
use Rattle.actor_tree.proofs.Ids.{id_test, same, other, same_or_other, Has, has, has_not, Has-left, Has-last}
use Rattle.actor_tree.proofs.Below.{below-same, below-other, post_order-same, post_order-other, apart}
use Rattle.actor_tree.proofs.Walk.{first_of-append}
use Rattle.linked_lists.proofs.NeighbourLemmas.{head-in, omit-other}
use Rattle.actor_tree.proofs.Managed.{of-same, of-other, under-top, under-true, under-other, under-is, managed-under, managed-not, managed-has, managed-without, managed-of, tree-once, tree-manager}

-- ---- among those that were made later

below-nil : (older later : List Actor) (x : ℤ) → AreMadeAfter older later → Has top_id older → managed_ids x later ≡ [] → below x later ≡ []
below-nil older [] x t top h = refl
below-nil older (a ∷ later) x t top h =
    elim (same_or_other a.manager x) [
      | inl e ↦ (let g = sym (managed-under x a later (under-true x a (λ f. has_not a.id older t.0 (subst (λ v. Has v older) (sym f) top)) e)) ∙ h in cc)
      | inr n ↦ below-other x a later n ∙ below-nil (older ++ a ∷ []) later x t.2 (Has-left top_id older (a ∷ []) top) (sym (managed-not x a later (under-other x a n)) ∙ h)
    ]

below-first : (older later : List Actor) (x c : ℤ) (zs : List Actor) → AreMadeAfter older later → Has top_id older → head (managed_ids x later) ≡ Some c → first_of (below x later ++ zs) ≡ first_of (post_order c later)
below-first older [] x c zs t top h = cc
below-first older (a ∷ later) x c zs t top h =
    elim (same_or_other a.manager x) [
      | inl e ↦ (let g = ap head (sym (managed-under x a later (under-true x a (λ f. has_not a.id older t.0 (subst (λ v. Has v older) (sym f) top)) e))) ∙ h in
          let ac : a.id ≡ c = cc in
          ap (λ v. first_of (v ++ zs)) (below-same x a later e)
          ∙ ap first_of (append_assoc (below a.id later) (a ∷ below x later) zs)
          ∙ first_of-append (below a.id later) a (below x later ++ zs) []
          ∙ ap (λ v. first_of (below v later ++ a ∷ [])) ac
          ∙ ap first_of (sym (post_order-same c a later ac)))
      | inr n ↦ (let h' : head (managed_ids x later) ≡ Some c = ap head (sym (managed-not x a later (under-other x a n))) ∙ h in
          let m : a.id ≢ c = λ f. apart (older ++ a ∷ []) later c t.2 (managed-has x c later (head-in (managed_ids x later) c h')) (Has-last c older a f) in
          ap (λ v. first_of (v ++ zs)) (below-other x a later n)
          ∙ below-first (older ++ a ∷ []) later x c zs t.2 (Has-left top_id older (a ∷ []) top) h'
          ∙ ap first_of (sym (post_order-other c a later m)))
    ]

-- an actor does not manage itself, and none that was made before it
not_under : (older later : List Actor) (a : Actor) (j : ℤ) → AreMadeAfter older (a ∷ later) → Has j (a ∷ later) → a.manager ≢ j
not_under older later a j t (inl e) f = has_not a.id older t.0 (subst (λ v. Has v older) (f ∙ sym e) (has a.manager older t.1))
not_under older later a j t (inr h) f =
    apart (older ++ a ∷ []) later j t.2 h (Has-left j older (a ∷ []) (subst (λ v. Has v older) f (has a.manager older t.1)))

post-first : (older later : List Actor) (j k : ℤ) → AreMadeAfter older later → Has top_id older → Has j later → head (managed_ids j later) ≡ Some k → first_of (post_order j later) ≡ first_of (post_order k later)
post-first older [] j k t top hj h = absurd hj
post-first older (a ∷ later) j k t top hj h =
    let older' = older ++ a ∷ [] in
    let top' : Has top_id older' = Has-left top_id older (a ∷ []) top in
    let h' : head (managed_ids j later) ≡ Some k = ap head (sym (managed-not j a later (under-other j a (not_under older later a j t hj)))) ∙ h in
    let m : a.id ≢ k = λ f. apart older' later k t.2 (managed-has j k later (head-in (managed_ids j later) k h')) (Has-last k older a f) in
    elim (same_or_other a.id j) [
      | inl e ↦ ap first_of (post_order-same j a later e) ∙ below-first older' later j k (a ∷ []) t.2 top' h' ∙ ap first_of (sym (post_order-other k a later m))
      | inr n ↦ ap first_of (post_order-other j a later n) ∙ post-first older' later j k t.2 top' (elim hj [ inl f ↦ absurd (n f) | inr q ↦ q ]) h' ∙ ap first_of (sym (post_order-other k a later m))
    ]

post-leaf : (older later : List Actor) (j : ℤ) (b : Actor) → AreMadeAfter older later → Has top_id older → Has j later → actor_of j later ≡ Some b → managed_ids j later ≡ [] → post_order j later ≡ b ∷ []
post-leaf older [] j b t top hj e h = absurd hj
post-leaf older (a ∷ later) j b t top hj e h =
    let older' = older ++ a ∷ [] in
    let top' : Has top_id older' = Has-left top_id older (a ∷ []) top in
    let h' : managed_ids j later ≡ [] = sym (managed-not j a later (under-other j a (not_under older later a j t hj))) ∙ h in
    elim (same_or_other a.id j) [
      | inl f ↦ (let ab : a ≡ b = (let g = sym (of-same j a later f) ∙ e in cc) in
          post_order-same j a later f ∙ ap (λ v. v ++ a ∷ []) (below-nil older' later j t.2 top' h') ∙ ap (λ v. v ∷ []) ab)
      | inr n ↦ post_order-other j a later n ∙ post-leaf older' later j b t.2 top' (elim hj [ inl f ↦ absurd (n f) | inr q ↦ q ]) (sym (of-other j a later n) ∙ e) h'
    ]

-- ---- in a tree

pub tree-first : (actors : List Actor) (j k : ℤ) → IsTree actors → Has j actors → head (managed_ids j actors) ≡ Some k → first_of (post_order j actors) ≡ first_of (post_order k actors)
tree-first [] j k t hj h = absurd hj
tree-first (b ∷ later) j k t hj h =
    let top : b.id ≡ top_id = ap (λ v. v.id) t.0 in
    let h' : head (managed_ids j later) ≡ Some k = ap head (sym (managed-not j b later (under-top j b top))) ∙ h in
    let m : b.id ≢ k = λ f. apart (b ∷ []) later k t.1 (managed-has j k later (head-in (managed_ids j later) k h')) (inl f) in
    elim (same_or_other b.id j) [
      | inl e ↦ ap first_of (post_order-same j b later e) ∙ below-first (b ∷ []) later j k (b ∷ []) t.1 (inl top) h' ∙ ap first_of (sym (post_order-other k b later m))
      | inr n ↦ ap first_of (post_order-other j b later n) ∙ post-first (b ∷ []) later j k t.1 (inl top) (elim hj [ inl f ↦ absurd (n f) | inr q ↦ q ]) h' ∙ ap first_of (sym (post_order-other k b later m))
    ]

pub tree-leaf : (actors : List Actor) (j : ℤ) (b : Actor) → IsTree actors → Has j actors → actor_of j actors ≡ Some b → managed_ids j actors ≡ [] → post_order j actors ≡ b ∷ []
tree-leaf [] j b t hj e h = absurd hj
tree-leaf (a ∷ later) j b t hj e h =
    let top : a.id ≡ top_id = ap (λ v. v.id) t.0 in
    let h' : managed_ids j later ≡ [] = sym (managed-not j a later (under-top j a top)) ∙ h in
    elim (same_or_other a.id j) [
      | inl f ↦ (let ab : a ≡ b = (let g = sym (of-same j a later f) ∙ e in cc) in
          post_order-same j a later f ∙ ap (λ v. v ++ a ∷ []) (below-nil (a ∷ []) later j t.1 (inl top) h') ∙ ap (λ v. v ∷ []) ab)
      | inr n ↦ post_order-other j a later n ∙ post-leaf (a ∷ []) later j b t.1 (inl top) (elim hj [ inl f ↦ absurd (n f) | inr q ↦ q ]) (sym (of-other j a later n) ∙ e) h'
    ]

-- who manages somebody lives
pub managed-manager : (actors : List Actor) (j k : ℤ) → IsTree actors → head (managed_ids j actors) ≡ Some k → Has j actors
managed-manager actors j k t h =
    let b = managed-of j k actors (tree-once actors t) (head-in (managed_ids j actors) k h) in
    let u = under-is j b.0 b.2 in
    subst (λ v. Has v actors) u.1 (tree-manager actors k b.0 t b.1 u.0)

pub path-first : (actors : List Actor) (root i : ℤ) → IsTree actors → Path actors root i → first_of (post_order root actors) ≡ first_of (post_order i actors)
path-first actors root i t here = refl
path-first actors root i t (down {j} {k} p h) = path-first actors root j t p ∙ tree-first actors j k t (managed-manager actors j k t h) h

-- the last step of the way
pub path-last : (actors : List Actor) (root i : ℤ) → Path actors root i → i ≢ root → (j : ℤ) × Path actors root j × (head (managed_ids j actors) ≡ Some i)
path-last actors root i here n = absurd (n refl)
path-last actors root i (down {j} {k} p h) n = (j, p, h)

-- the way to another stays when one falls that manages nobody
pub path-without : (actors : List Actor) (root i x : ℤ) → managed_ids x actors ≡ [] → Path actors root i → i ≢ x → Path (without x actors) root i
path-without actors root i x leaf here n = here
path-without actors root i x leaf (down {j} {k} p h) n =
    let m : j ≢ x = λ e. (let g = sym h ∙ ap (λ v. head (managed_ids v actors)) e ∙ ap head leaf in cc) in
    down (path-without actors root j x leaf p m) (ap head (managed-without j x actors) ∙ stays (managed_ids j actors) h)
  where
    stays : (xs : List ℤ) → head xs ≡ Some k → head (omit int_eq x xs) ≡ Some k
    stays [] e = e
    stays (y ∷ ys) e = let yk : y ≡ k = cc in ap head (omit-other id_test x y ys (λ f. n (sym yk ∙ f))) ∙ e

-- ---- who was made later than whom

-- how many were made from an id on
abbrev pub rank : ℤ → List Actor → ℕ
rank i [] = 0
rank i (a ∷ later) = cond (int_eq a.id i) (suc (length later)) (rank i later)

rank-same : (i : ℤ) (a : Actor) (later : List Actor) → a.id ≡ i → rank i (a ∷ later) ≡ suc (length later)
rank-same i a later e = ap (λ v. cond v (suc (length later)) (rank i later)) (same a.id i e)

rank-other : (i : ℤ) (a : Actor) (later : List Actor) → a.id ≢ i → rank i (a ∷ later) ≡ rank i later
rank-other i a later n = ap (λ v. cond v (suc (length later)) (rank i later)) (other a.id i n)

rank-le : (i : ℤ) (actors : List Actor) → rank i actors ≤ length actors
rank-le i [] = omega arith
rank-le i (a ∷ later) =
    elim (same_or_other a.id i) [
      | inl e ↦ omega (arith, rank-same i a later e)
      | inr n ↦ omega (arith, rank-other i a later n, rank-le i later)
    ]

made-rank : (older later : List Actor) (i c : ℤ) → AreMadeAfter older later → Has i later → IsIn c (managed_ids i later) → rank c later < rank i later
made-rank older [] i c t hi h = absurd hi
made-rank older (a ∷ later) i c t hi h =
    let older' = older ++ a ∷ [] in
    let h' : IsIn c (managed_ids i later) = subst (IsIn c) (managed-not i a later (under-other i a (not_under older later a i t hi))) h in
    let m : a.id ≢ c = λ f. apart older' later c t.2 (managed-has i c later h') (Has-last c older a f) in
    elim (same_or_other a.id i) [
      | inl e ↦ omega (arith, rank-same i a later e, rank-other c a later m, rank-le c later)
      | inr n ↦ omega (arith, rank-other i a later n, rank-other c a later m, made-rank older' later i c t.2 (elim hi [ inl f ↦ absurd (n f) | inr q ↦ q ]) h')
    ]

pub tree-rank : (actors : List Actor) (i c : ℤ) → IsTree actors → Has i actors → IsIn c (managed_ids i actors) → rank c actors < rank i actors
tree-rank [] i c t hi h = absurd hi
tree-rank (b ∷ later) i c t hi h =
    let h' : IsIn c (managed_ids i later) = subst (IsIn c) (managed-not i b later (under-top i b (ap (λ v. v.id) t.0))) h in
    let m : b.id ≢ c = λ f. apart (b ∷ []) later c t.1 (managed-has i c later h') (inl f) in
    elim (same_or_other b.id i) [
      | inl e ↦ omega (arith, rank-same i b later e, rank-other c b later m, rank-le c later)
      | inr n ↦ omega (arith, rank-other i b later n, rank-other c b later m, made-rank (b ∷ []) later i c t.1 (elim hi [ inl f ↦ absurd (n f) | inr q ↦ q ]) h')
    ]
