-- Where the links represent the living actors.
use Rattle.std.proofs.Common.{◌≡◌, inl, inr, ℕ, ℤ, false, cond, List, Option, Some, None, is_some, refl, sym, ap, ◌∙◌, subst, int_eq}
use Rattle.actor_tree.specs.declared.actor.Actor.{Actor}
use Rattle.actor_tree.specs.declared.node.Node.{Node}
use Rattle.actor_tree.specs.Tree.{actor_of}
use Rattle.actor_tree.specs.Node.{instead_of}
use Rattle.linked_lists.specs.Neighbours.{is_the}
use Rattle.linked_lists.specs.Links.{key_eq}
use Rattle.linked_lists.proofs.KeyTest.{key_test}
use Rattle.linked_lists.proofs.NeighbourLemmas.{same as same_key, other as other_key}
use Rattle.actor_tree.specs.Links.{link, node_of, IsLinkedAt, AreLinked}
use Rattle.actor_tree.proofs.Ids.{same, other, same_or_other, Has}
use Rattle.actor_tree.proofs.Managed.{of-id, of-some}

-- each id of the option lives
abbrev pub Lives : List Actor → Option ℤ → Type 0
Lives actors o = (j : ℤ) → o ≡ Some j → Has j actors

-- the links where the functions agree
pub along : (key_of key_of' : ℤ → Option ℕ) (node node' : ℕ → Option Node) (actors : List Actor) → ((i : ℤ) → key_of' i ≡ key_of i) → ((k : ℕ) → node' k ≡ node k) → AreLinked key_of node actors → AreLinked key_of' node' actors
along key_of key_of' node node' actors p n s =
    let p' : key_of ≡ key_of' = λ j i. sym (p i) j in
    let n' : node ≡ node' = λ j k. sym (n k) j in
    subst (λ v. AreLinked key_of' v actors) n' (subst (λ v. AreLinked v node actors) p' s)

module _ (key_of : ℤ → Option ℕ) (node : ℕ → Option Node) (actors : List Actor) (s : AreLinked key_of node actors) where
  pub node-at : (i : ℤ) (b : Actor) → actor_of i actors ≡ Some b → (key : ℕ) × (key_of i ≡ Some key) × (node key ≡ Some (node_of key_of actors b))
  node-at i b e = subst (IsLinkedAt key_of node actors i) e (s.each i)

  pub no_key : (i : ℤ) → actor_of i actors ≡ None → key_of i ≡ None
  no_key i e = subst (IsLinkedAt key_of node actors i) e (s.each i)

  pub has-key : (i : ℤ) → Has i actors → (key : ℕ) × (key_of i ≡ Some key)
  has-key i h = let b = of-some i actors h in let n = node-at i b.0 b.1 in (n.0, n.1)

  -- an id with a key lives
  pub lives-at : (i : ℤ) (key : ℕ) → key_of i ≡ Some key → (b : Actor) × (actor_of i actors ≡ Some b) × (node key ≡ Some (node_of key_of actors b))
  lives-at i key p = by (actor_of i actors) refl
    where
      by : (o : Option Actor) → actor_of i actors ≡ o → (b : Actor) × (actor_of i actors ≡ Some b) × (node key ≡ Some (node_of key_of actors b))
      by None e = (let g = sym p ∙ no_key i e in cc)
      by (Some b) e =
          let n = node-at i b e in
          let k : n.0 ≡ key = (let g = sym n.1 ∙ p in cc) in
          (b, e, ap node (sym k) ∙ n.2)

  pub one_id : (i j : ℤ) (key : ℕ) → key_of i ≡ Some key → key_of j ≡ Some key → i ≡ j
  one_id i j key p q =
      let a = lives-at i key p in
      let b = lives-at j key q in
      let n : node_of key_of actors a.0 ≡ node_of key_of actors b.0 = (let g = sym a.2 ∙ b.2 in cc) in
      sym (of-id i actors a.0 a.1) ∙ ap (λ v. v.actor.id) n ∙ of-id j actors b.0 b.1

  -- whether a link leads to a node is whether its id is that node's
  pub at-the : (o : Option ℤ) (i : ℤ) (key : ℕ) → Lives actors o → key_of i ≡ Some key → is_the key_eq (link key_of o) key ≡ is_the int_eq o i
  at-the None i key l p = refl
  at-the (Some j) i key l p =
      let k = has-key j (l j refl) in
      ap (λ v. is_the key_eq v key) k.1 ∙ elim (same_or_other j i) [
        | inl e ↦ (let kk : k.0 ≡ key = (let g = sym k.1 ∙ ap key_of e ∙ p in cc) in same_key key_test k.0 key kk ∙ sym (same j i e))
        | inr n ↦ other_key key_test k.0 key (λ e. n (one_id j i key (k.1 ∙ ap Some e) p)) ∙ sym (other j i n)
      ]

  -- a link is there where its id is
  pub some-link : (o : Option ℤ) → Lives actors o → is_some (link key_of o) ≡ is_some o
  some-link None l = refl
  some-link (Some j) l = ap is_some (has-key j (l j refl)).1

-- a link in place of another
pub instead-at : (o : Option ℕ) (m : Option ℕ) (k : ℕ) → is_the key_eq (instead_of o m) k ≡ cond (is_some o) false (is_the key_eq m k)
instead-at None m k = refl
instead-at (Some j) m k = refl

-- the same link, where the key of its id is the same
pub link-same : (key_of key_of' : ℤ → Option ℕ) (o : Option ℤ) → ((j : ℤ) → o ≡ Some j → key_of' j ≡ key_of j) → link key_of' o ≡ link key_of o
link-same key_of key_of' None h = refl
link-same key_of key_of' (Some j) h = h j refl
