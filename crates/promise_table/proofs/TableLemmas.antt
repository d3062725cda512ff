-- What the table is after its calls.
use Rattle.std.proofs.Common.{◌≡◌, ◌≢◌, ℕ, ℤ, true, ◌&&◌, is_some, cond, List, [], ◌∷◌, ◌++◌, Option, Some, None, refl, sym, ap, ◌∙◌, subst, int_eq}
use Rattle.std.specs.Option.{option_map}
use Rattle.slab.specs.Slab.{Slab, get, Updates}
use Rattle.linked_lists.specs.declared.link.NodeLink.{NodeLink}
use Rattle.linked_lists.specs.declared.link.Ends.{Ends}
use Rattle.linked_lists.specs.Neighbours.{IsIn, head}
use Rattle.linked_lists.specs.Chains.{attached, detached}
use Rattle.linked_lists.specs.Links.{ends_with, ends_without, ends_of}
use Rattle.linked_lists.specs.Chosen.{passes, chosen_keys, items_of}
use Rattle.linked_lists.proofs.ChosenLemmas.{in-chosen, items-same, items-push}
use Rattle.promise_table.specs.declared.promise.Promise.{Promise}
use Rattle.promise_table.specs.declared.promise.Outcome.{Outcome}
use Rattle.promise_table.specs.declared.node.Node.{Node}
use Rattle.promise_table.specs.declared.node.Chain.TheVariants.{All, Own}
use Rattle.promise_table.specs.declared.table.Table.{Table}
use Rattle.promise_table.specs.Promises.{made, is_pending, is_pending_of}
use Rattle.promise_table.specs.Links.{item_at, AreLinked}
use Rattle.promise_table.specs.Table.{node_at, own_of, id_of, keys_of, promises_in, promise_at, ends_or, links_of, with_outcome, IsPendingAt, IsTable}
use Rattle.promise_table.proofs.Making.{fresh_node, makes, item-old, item-new, int_same}
use Rattle.promise_table.proofs.Settled.{settles}
use Rattle.promise_table.specs.Nodes.{link_of, with_link}
use Rattle.indexmap.specs.IndexMap as map

-- what stands stands by other names
pub moved : (node node' : ℕ → Option Node) (keys keys' : List ℕ) (pending pending' : Ends) (actors actors' : ℤ → Ends) (ids ids' : ℤ → Option ℕ) → ((k : ℕ) → node' k ≡ node k) → keys' ≡ keys → pending' ≡ pending → ((a : ℤ) → actors' a ≡ actors a) → ((q : ℤ) → ids' q ≡ ids q) → AreLinked node keys pending actors ids → AreLinked node' keys' pending' actors' ids'
moved node node' keys keys' pending pending' actors actors' ids ids' n k p a i s =
    let n' : node ≡ node' = λ j x. sym (n x) j in
    let a' : actors ≡ actors' = λ j x. sym (a x) j in
    let i' : ids ≡ ids' = λ j x. sym (i x) j in
    subst (λ v. AreLinked v keys' pending' actors' ids') n'
    (subst (λ v. AreLinked node v pending' actors' ids') (sym k)
    (subst (λ v. AreLinked node keys v actors' ids') (sym p)
    (subst (λ v. AreLinked node keys pending v ids') a'
    (subst (λ v. AreLinked node keys pending actors v) i' s))))

-- the nodes represent these promises
pub record Holds (t : Table) (promises : List Promise) : Type 0 where
  pub table : IsTable t
  pub promises_are : promises_in t ≡ promises

pub make : (t t' : Table) (r n1 n2 : Slab Node) (key : ℕ) (seq actor : ℤ) (ends : Ends)
    → IsTable t → id_of t seq ≡ None
    → ((k : ℕ) → get r k ≡ node_at t k)
    → get r key ≡ None
    → Updates r n1 key (Some (fresh_node seq actor))
    → ((k : ℕ) → get n2 k ≡ option_map (attached (link_of All) (with_link All) t.pending.last key k) (get n1 k))
    → ((k : ℕ) → node_at t' k ≡ option_map (attached (link_of Own) (with_link Own) ends.last key k) (get n2 k))
    → ends ≡ own_of t actor
    → t'.pending ≡ ends_with t.pending key
    → ((a : ℤ) → own_of t' a ≡ cond (int_eq actor a) (ends_with ends key) (own_of t a))
    → ((q : ℤ) → id_of t' q ≡ cond (int_eq seq q) (Some key) (id_of t q))
    → keys_of t' ≡ keys_of t ++ key ∷ []
    → Holds t' (promises_in t ++ made seq actor ∷ [])
make t t' r n1 n2 key seq actor ends s unmade res free up at2 at3 ee ep eo ei ek =
    let node = node_at t in
    let free' : node key ≡ None = sym (res key) ∙ free in
    let others : (k : ℕ) → k ≢ key → get n1 k ≡ node k = λ k m. up.others k m ∙ res k in
    let at3' : (k : ℕ) → node_at t' k ≡ option_map (attached (link_of Own) (with_link Own) (own_of t actor).last key k) (get n2 k) = λ k. at3 k ∙ ap (λ (v : Ends). option_map (attached (link_of Own) (with_link Own) v.last key k) (get n2 k)) ee in
    let stand = makes node (get n1) (get n2) (node_at t') (keys_of t) t.pending (own_of t) (id_of t) key seq actor s unmade free' up.changed others at2 at3' in
    let old = item-old node (get n1) (get n2) (node_at t') (keys_of t) t.pending (own_of t) (id_of t) key seq actor s unmade free' up.changed others at2 at3' in
    let new = item-new node (get n1) (get n2) (node_at t') (keys_of t) t.pending (own_of t) (id_of t) key seq actor s unmade free' up.changed others at2 at3' in
    record {
      table = moved (node_at t') (node_at t') (keys_of t ++ key ∷ []) (keys_of t') (ends_with t.pending key) t'.pending (λ a. cond (int_eq actor a) (ends_with (own_of t actor) key) (own_of t a)) (own_of t') (λ q. cond (int_eq seq q) (Some key) (id_of t q)) (id_of t')
          (λ k. refl) ek ep (λ a. eo a ∙ ap (λ v. cond (int_eq actor a) (ends_with v key) (own_of t a)) ee) ei stand;
      promises_are = ap (items_of (item_at (node_at t'))) ek ∙ items-push (item_at (node_at t')) (keys_of t) key (made seq actor) new
          ∙ ap (λ v. v ++ made seq actor ∷ []) (items-same (item_at node) (item_at (node_at t')) (keys_of t) old);
    }

-- ---- a promise is settled

module _ (t : Table) (key : ℕ) (all own : NodeLink) (actor : ℤ) (s : IsTable t) (w : IsPendingAt t key) (told : Some (all, own, actor) ≡ option_map links_of (node_at t key)) where
  node_was : (n : Node) × (node_at t key ≡ Some n)
  node_was = s.full key w.among

  told_is : (all, own, actor) ≡ links_of node_was.0
  told_is = (let g = told ∙ ap (option_map links_of) node_was.1 in cc)

  pends : is_pending node_was.0.promise ≡ true
  pends = sym (ap (λ v. passes is_pending (option_map (λ (m : Node). m.promise) v)) node_was.1) ∙ w.pends

  in_own : IsIn key (chosen_keys (is_pending_of node_was.0.promise.actor) (promise_at t) (keys_of t))
  in_own = in-chosen (is_pending_of node_was.0.promise.actor) (promise_at t) key (keys_of t) w.among
      (ap (λ v. passes (is_pending_of node_was.0.promise.actor) (option_map (λ (m : Node). m.promise) v)) node_was.1
      ∙ ap (λ v. v && is_pending node_was.0.promise) (int_same node_was.0.promise.actor node_was.0.promise.actor refl) ∙ pends)

  -- the actor has a list
  pub has_own : is_some (map.get int_eq t.actors actor) ≡ true
  has_own = by (map.get int_eq t.actors actor) refl
    where
      some : (ks : List ℕ) → IsIn key ks → head ks ≡ None → ⊥
      some [] h e = h
      some (k ∷ ks) h e = cc

      by : (o : Option Ends) → map.get int_eq t.actors actor ≡ o → is_some (map.get int_eq t.actors actor) ≡ true
      by (Some ends) e = ap is_some e
      by None e =
          let a : actor ≡ node_was.0.promise.actor = ap (λ (v : NodeLink × NodeLink × ℤ). v.2) told_is in
          let none : ends_of (chosen_keys (is_pending_of actor) (promise_at t) (keys_of t)) ≡ record { first = None; last = None } = sym (s.own_ends actor) ∙ ap ends_or e in
          absurd (some (chosen_keys (is_pending_of actor) (promise_at t) (keys_of t)) (subst (λ v. IsIn key (chosen_keys (is_pending_of v) (promise_at t) (keys_of t))) (sym a) in_own) (ap (λ (v : Ends). v.first) none))

  pub settle : (t' : Table) (n1 n2 : Slab Node) (outcome : Outcome)
      → get n1 key ≡ option_map (with_outcome outcome) (node_at t key)
      → ((k : ℕ) → k ≢ key → get n1 k ≡ node_at t k)
      → ((k : ℕ) → get n2 k ≡ option_map (detached (link_of All) (with_link All) all k) (get n1 k))
      → ((k : ℕ) → node_at t' k ≡ option_map (detached (link_of Own) (with_link Own) own k) (get n2 k))
      → keys_of t' ≡ keys_of t
      → t'.pending ≡ ends_without t.pending all
      → ((a : ℤ) → own_of t' a ≡ cond (int_eq actor a) (ends_without (own_of t actor) own) (own_of t a))
      → ((q : ℤ) → id_of t' q ≡ id_of t q)
      → IsTable t'
  settle t' n1 n2 outcome at1 others at2 at3 ek ep eo ei =
      let n = node_was.0 in
      let ea : all ≡ n.all = ap (λ (v : NodeLink × NodeLink × ℤ). v.0) told_is in
      let eo' : own ≡ n.own = ap (λ (v : NodeLink × NodeLink × ℤ). v.1) told_is in
      let ew : actor ≡ n.promise.actor = ap (λ (v : NodeLink × NodeLink × ℤ). v.2) told_is in
      let stand = settles (node_at t) (get n1) (get n2) (node_at t') (keys_of t) t.pending (own_of t) (id_of t) key n outcome s w.among node_was.1 pends
      (at1 ∙ ap (option_map (with_outcome outcome)) node_was.1) others
      (λ k. at2 k ∙ ap (λ v. option_map (detached (link_of All) (with_link All) v k) (get n1 k)) ea)
      (λ k. at3 k ∙ ap (λ v. option_map (detached (link_of Own) (with_link Own) v k) (get n2 k)) eo') in
      moved (node_at t') (node_at t') (keys_of t) (keys_of t') (ends_without t.pending n.all) t'.pending (λ a. cond (int_eq n.promise.actor a) (ends_without (own_of t n.promise.actor) n.own) (own_of t a)) (own_of t') (id_of t) (id_of t')
      (λ k. refl) ek (ep ∙ ap (ends_without t.pending) ea)
      (λ a. eo a ∙ ap (λ v. cond (int_eq v a) (ends_without (own_of t v) own) (own_of t a)) ew ∙ ap (λ v. cond (int_eq n.promise.actor a) (ends_without (own_of t n.promise.actor) v) (own_of t a)) eo')
      ei stand
