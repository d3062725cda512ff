-- The lists once one more promise is made.
use Rattle.std.proofs.Common.{◌≡◌, ◌≢◌, ◌⊎◌, inl, inr, ℕ, ℤ, Bool, true, false, ◌&&◌, cond, List, [], ◌∷◌, ◌++◌, Option, Some, None, refl, sym, ap, ◌∙◌, subst, int_eq, true≢false}
use Rattle.std.proofs.lemmas.Bool.{cases_Bool}
use Rattle.std.proofs.lemmas.Bool.Decides.{Decides-int_eq}
use Rattle.std.specs.Option.{option_map}
use Rattle.linked_lists.specs.declared.link.NodeLink.{NodeLink}
use Rattle.linked_lists.specs.declared.link.Ends.{Ends}
use Rattle.linked_lists.specs.Neighbours.{IsIn, AreDistinct, head, last}
use Rattle.linked_lists.specs.Chains.{attached, IsChain}
use Rattle.linked_lists.specs.Links.{ends_with, no_link, ends_of}
use Rattle.linked_lists.specs.Chosen.{passes, chosen_keys}
use Rattle.linked_lists.proofs.NeighbourLemmas.{distinct-push, in-append}
use Rattle.linked_lists.proofs.ChainLemmas.{chain-kept, ends-push, attached-keeps, chain-along, chain-attached, chain-beside-attached}
use Rattle.linked_lists.proofs.ChosenLemmas.{chosen-in, chosen-distinct, chosen-push, chosen-push-not, chosen-same}
use Rattle.promise_table.specs.declared.promise.Promise.{Promise}
use Rattle.promise_table.specs.declared.node.Node.{Node}
use Rattle.promise_table.specs.declared.node.Chain.TheVariants.{All, Own}
use Rattle.promise_table.specs.Promises.{made, has_number, is_pending, is_pending_of}
use Rattle.promise_table.specs.Links.{item_at, AreLinked}
use Rattle.promise_table.specs.Nodes.{link_of, with_link}

pub map-promise : (f : Node → Node) → ((n : Node) → (f n).promise ≡ n.promise) → (o : Option Node) → option_map (λ (n : Node). n.promise) (option_map f o) ≡ option_map (λ (n : Node). n.promise) o
map-promise f h None = refl
map-promise f h (Some n) = ap Some (h n)

-- ---- whose a promise is

pub int_same : (x y : ℤ) → x ≡ y → int_eq x y ≡ true
int_same x y e = (Decides-int_eq x y).1 e

pub int_cases : (x y : ℤ) → (x ≡ y) ⊎ (int_eq x y ≡ false)
int_cases x y = elim (cases_Bool (int_eq x y)) [ inl t ↦ inl ((Decides-int_eq x y).0 t) | inr f ↦ inr f ]

and_left : (a b : Bool) → a && b ≡ true → a ≡ true
and_left true b e = refl
and_left false b e = absurd (true≢false (sym e))

-- a promise is of one actor
pub of_one : (a b : ℤ) (o : Option Promise) → passes (is_pending_of a) o ≡ true → passes (is_pending_of b) o ≡ true → a ≡ b
of_one a b None p q = absurd (true≢false (sym p))
of_one a b (Some x) p q =
    sym ((Decides-int_eq x.actor a).0 (and_left (int_eq x.actor a) (is_pending x) p)) ∙ (Decides-int_eq x.actor b).0 (and_left (int_eq x.actor b) (is_pending x) q)

abbrev pub fresh_node : ℤ → ℤ → Node
fresh_node seq actor = record { promise = made seq actor; all = no_link; own = no_link }

-- ---- one more

module _ (node node1 node2 node3 : ℕ → Option Node) (keys : List ℕ) (pending : Ends) (actors : ℤ → Ends) (ids : ℤ → Option ℕ) (key : ℕ) (seq actor : ℤ)
    (s : AreLinked node keys pending actors ids)
    (unmade : ids seq ≡ None)
    (free : node key ≡ None)
    (at1 : node1 key ≡ Some (fresh_node seq actor))
    (others : (k : ℕ) → k ≢ key → node1 k ≡ node k)
    (at2 : (k : ℕ) → node2 k ≡ option_map (attached (link_of All) (with_link All) pending.last key k) (node1 k))
    (at3 : (k : ℕ) → node3 k ≡ option_map (attached (link_of Own) (with_link Own) (actors actor).last key k) (node2 k)) where
  new : IsIn key keys → ⊥
  new h = let w = s.full key h in let g = sym free ∙ w.1 in cc

  old : (k : ℕ) → IsIn k keys → node1 k ≡ node k
  old k h = others k (λ e. new (subst (λ v. IsIn v keys) e h))

  item3 : (k : ℕ) → item_at node3 k ≡ item_at node1 k
  item3 k = ap (option_map (λ (n : Node). n.promise)) (at3 k) ∙ map-promise (attached (link_of Own) (with_link Own) (actors actor).last key k) (λ n. attached-keeps (link_of Own) (with_link Own) (λ (m : Node). m.promise) (λ l m. refl) (actors actor).last key k n) (node2 k)
      ∙ ap (option_map (λ (n : Node). n.promise)) (at2 k) ∙ map-promise (attached (link_of All) (with_link All) pending.last key k) (λ n. attached-keeps (link_of All) (with_link All) (λ (m : Node). m.promise) (λ l m. refl) pending.last key k n) (node1 k)

  pub item-old : (k : ℕ) → IsIn k keys → item_at node3 k ≡ item_at node k
  item-old k h = item3 k ∙ ap (option_map (λ (n : Node). n.promise)) (old k h)

  pub item-new : item_at node3 key ≡ Some (made seq actor)
  item-new = item3 key ∙ ap (option_map (λ (n : Node). n.promise)) at1

  abbrev those : (Promise → Bool) → List ℕ
  those t = chosen_keys t (item_at node) keys

  those-in : (t : Promise → Bool) (k : ℕ) → IsIn k (those t) → IsIn k keys
  those-in t k h = (chosen-in t (item_at node) k keys h).0

  those-not : (t : Promise → Bool) → IsIn key (those t) → ⊥
  those-not t h = new (those-in t key h)

  those-once : (t : Promise → Bool) → AreDistinct (those t)
  those-once t = chosen-distinct t (item_at node) keys s.distinct

  with_new : (t : Promise → Bool) → t (made seq actor) ≡ true → chosen_keys t (item_at node3) (keys ++ key ∷ []) ≡ those t ++ key ∷ []
  with_new t e = chosen-push t (item_at node3) keys key (ap (passes t) item-new ∙ e) ∙ ap (λ v. v ++ key ∷ []) (chosen-same t (item_at node) (item_at node3) keys item-old)

  without_new : (t : Promise → Bool) → t (made seq actor) ≡ false → chosen_keys t (item_at node3) (keys ++ key ∷ []) ≡ those t
  without_new t e = chosen-push-not t (item_at node3) keys key (ap (passes t) item-new ∙ e) ∙ chosen-same t (item_at node) (item_at node3) keys item-old

  at2' : (k : ℕ) → node2 k ≡ option_map (attached (link_of All) (with_link All) (last (those is_pending)) key k) (node1 k)
  at2' k = at2 k ∙ ap (λ (v : Ends). option_map (attached (link_of All) (with_link All) v.last key k) (node1 k)) s.all_ends

  at3' : (k : ℕ) → node3 k ≡ option_map (attached (link_of Own) (with_link Own) (last (those (is_pending_of actor))) key k) (node2 k)
  at3' k = at3 k ∙ ap (λ (v : Ends). option_map (attached (link_of Own) (with_link Own) v.last key k) (node2 k)) (s.own_ends actor)

  all3 : IsChain (link_of All) node3 (chosen_keys is_pending (item_at node3) (keys ++ key ∷ []))
  all3 = subst (IsChain (link_of All) node3) (sym (with_new is_pending refl))
      (chain-along (link_of All) node2 node3 _ (attached (link_of Own) (with_link Own) (actors actor).last key) (λ k n. attached-keeps (link_of Own) (with_link Own) (link_of All) (λ l m. refl) (actors actor).last key k n) (λ k h. at3 k)
      (chain-attached (link_of All) (with_link All) (λ l m. refl) node1 node2 (those is_pending) key at2' (those-once is_pending) (those-not is_pending) (chain-kept (link_of All) node node1 _ (λ k h. old k (those-in is_pending k h)) s.all_chain) (fresh_node seq actor) at1 refl))

  own2 : (a : ℤ) → IsChain (link_of Own) node2 (those (is_pending_of a))
  own2 a = chain-along (link_of Own) node1 node2 _ (attached (link_of All) (with_link All) pending.last key) (λ k n. attached-keeps (link_of All) (with_link All) (link_of Own) (λ l m. refl) pending.last key k n) (λ k h. at2 k)
      (chain-kept (link_of Own) node node1 _ (λ k h. old k (those-in (is_pending_of a) k h)) (s.own_chains a))

  there2 : node2 key ≡ Some (attached (link_of All) (with_link All) pending.last key key (fresh_node seq actor))
  there2 = at2 key ∙ ap (option_map (attached (link_of All) (with_link All) pending.last key key)) at1

  mine : is_pending_of actor (made seq actor) ≡ true
  mine = ap (λ v. v && true) (int_same actor actor refl)

  own3 : (a : ℤ) → IsChain (link_of Own) node3 (chosen_keys (is_pending_of a) (item_at node3) (keys ++ key ∷ []))
  own3 a = elim (int_cases actor a) [
    | inl e ↦ subst (λ v. IsChain (link_of Own) node3 (chosen_keys (is_pending_of v) (item_at node3) (keys ++ key ∷ []))) e (subst (IsChain (link_of Own) node3) (sym (with_new (is_pending_of actor) mine))
        (chain-attached (link_of Own) (with_link Own) (λ l m. refl) node2 node3 (those (is_pending_of actor)) key at3' (those-once _) (those-not _) (own2 actor) _ there2
        (ap (λ (l : NodeLink). l.next) (attached-keeps (link_of All) (with_link All) (link_of Own) (λ l m. refl) pending.last key key (fresh_node seq actor)))))
    | inr n ↦ subst (IsChain (link_of Own) node3) (sym (without_new (is_pending_of a) (ap (λ v. v && true) n)))
        (chain-beside-attached (link_of Own) (with_link Own) (λ l m. refl) node2 node3 (those (is_pending_of actor)) key at3' (those-once _) (those-not _) (those (is_pending_of a)) (λ k h. (
          (λ q. true≢false (sym (int_same actor a (of_one actor a (item_at node k) (chosen-in _ (item_at node) k keys q).1 (chosen-in _ (item_at node) k keys h).1)) ∙ n)),
          (λ f. new (subst (λ v. IsIn v keys) f (those-in (is_pending_of a) k h))),
        )) (own2 a))
  ]

  own_ends3 : (a : ℤ) → cond (int_eq actor a) (ends_with (actors actor) key) (actors a) ≡ ends_of (chosen_keys (is_pending_of a) (item_at node3) (keys ++ key ∷ []))
  own_ends3 a = elim (int_cases actor a) [
    | inl e ↦ ap (λ v. cond v (ends_with (actors actor) key) (actors a)) (int_same actor a e)
        ∙ ap (λ v. ends_with v key) (s.own_ends actor) ∙ ends-push (those (is_pending_of actor)) key
        ∙ ap ends_of (sym (with_new (is_pending_of actor) mine)) ∙ ap (λ v. ends_of (chosen_keys (is_pending_of v) (item_at node3) (keys ++ key ∷ []))) e
    | inr n ↦ ap (λ v. cond v (ends_with (actors actor) key) (actors a)) n ∙ s.own_ends a ∙ ap ends_of (sym (without_new (is_pending_of a) (ap (λ v. v && true) n)))
  ]

  none-head : (ks : List ℕ) → head ks ≡ None → ks ≡ []
  none-head [] e = refl
  none-head (k ∷ ks) e = cc

  numbers3 : (n : ℤ) → cond (int_eq seq n) (Some key) (ids n) ≡ head (chosen_keys (has_number n) (item_at node3) (keys ++ key ∷ []))
  numbers3 n = elim (int_cases seq n) [
    | inl e ↦ (let none : those (has_number seq) ≡ [] = none-head _ (sym (s.numbers seq) ∙ unmade) in
        ap (λ v. cond v (Some key) (ids n)) (int_same seq n e)
        ∙ ap head (ap (λ v. v ++ key ∷ []) (sym none)) ∙ ap head (sym (with_new (has_number seq) (int_same seq seq refl)))
        ∙ ap (λ v. head (chosen_keys (has_number v) (item_at node3) (keys ++ key ∷ []))) e)
    | inr m ↦ ap (λ v. cond v (Some key) (ids n)) m ∙ s.numbers n ∙ ap head (sym (without_new (has_number n) m))
  ]

  single3 : (n : ℤ) (j k : ℕ) → IsIn j (chosen_keys (has_number n) (item_at node3) (keys ++ key ∷ [])) → IsIn k (chosen_keys (has_number n) (item_at node3) (keys ++ key ∷ [])) → j ≡ k
  single3 n j k p q = elim (int_cases seq n) [
    | inl e ↦ (let none : those (has_number seq) ≡ [] = none-head _ (sym (s.numbers seq) ∙ unmade) in
        let all : chosen_keys (has_number n) (item_at node3) (keys ++ key ∷ []) ≡ key ∷ [] = ap (λ v. chosen_keys (has_number v) (item_at node3) (keys ++ key ∷ [])) (sym e) ∙ with_new (has_number seq) (int_same seq seq refl) ∙ ap (λ v. v ++ key ∷ []) none in
        only j (subst (IsIn j) all p) ∙ sym (only k (subst (IsIn k) all q)))
    | inr m ↦ s.single n j k (subst (IsIn j) (without_new (has_number n) m) p) (subst (IsIn k) (without_new (has_number n) m) q)
  ]
    where
      only : (i : ℕ) → IsIn i (key ∷ []) → i ≡ key
      only i (inl e) = sym e
      only i (inr h) = absurd h

  full3 : (k : ℕ) → IsIn k (keys ++ key ∷ []) → (n : Node) × (node3 k ≡ Some n)
  full3 k h = elim (in-append k keys (key ∷ []) h) [
    | inl q ↦ (let w = s.full k q in (attached (link_of Own) (with_link Own) (actors actor).last key k (attached (link_of All) (with_link All) pending.last key k w.0), at3 k ∙ ap (option_map (attached (link_of Own) (with_link Own) (actors actor).last key k)) (at2 k ∙ ap (option_map (attached (link_of All) (with_link All) pending.last key k)) (old k q ∙ w.1))))
    | inr q ↦ elim q [
      | inl e ↦ subst (λ v. (n : Node) × (node3 v ≡ Some n)) e (attached (link_of Own) (with_link Own) (actors actor).last key key (attached (link_of All) (with_link All) pending.last key key (fresh_node seq actor)), at3 key ∙ ap (option_map (attached (link_of Own) (with_link Own) (actors actor).last key key)) there2)
      | inr r ↦ absurd r
    ]
  ]

  pub makes : AreLinked node3 (keys ++ key ∷ []) (ends_with pending key) (λ a. cond (int_eq actor a) (ends_with (actors actor) key) (actors a)) (λ n. cond (int_eq seq n) (Some key) (ids n))
  makes = record {
    distinct = distinct-push keys key s.distinct new;
    full = full3;
    all_chain = all3;
    all_ends = ap (λ v. ends_with v key) s.all_ends ∙ ends-push (those is_pending) key ∙ ap ends_of (sym (with_new is_pending refl));
    own_chains = own3;
    own_ends = own_ends3;
    numbers = numbers3;
    single = single3;
  }
