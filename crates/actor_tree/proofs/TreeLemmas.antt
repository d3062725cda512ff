-- What the links of a tree are after its calls.
use Rattle.std.proofs.Common.{◌≡◌, ◌≢◌, inl, inr, ℕ, ◌<◌, ℤ, true, cond, List, [], ◌∷◌, ◌++◌, Option, Some, None, is_some, MatchOption, refl, sym, ap, ◌∙◌, subst, int_eq}
use Rattle.std.specs.Option.{option_map}
use Rattle.slab.specs.Slab.{Slab, get, Updates}
use Rattle.actor_tree.specs.declared.actor.Actor.{Actor}
use Rattle.actor_tree.specs.declared.node.Node.{Node}
use Rattle.actor_tree.specs.declared.links.Links.{Links}
use Rattle.actor_tree.specs.Tree.{actor_of, top, without, IsTree}
use Rattle.actor_tree.specs.Fall.{post_order, first_of, IsNext}
use Rattle.actor_tree.specs.Node.{attached, detached, first_link, last_link}
use Rattle.linked_lists.specs.Neighbours.{head, last, IsIn, omit}
use Rattle.ipdl_base.specs.Sides.{top_id}
use Rattle.actor_tree.specs.Links.{managed_ids, link, node_of, IsLinkedAt, AreLinked}
use Rattle.actor_tree.specs.Path.{Path, here, down}
use Rattle.actor_tree.specs.Linked.{key_of, node_at, actor_at, keys_of, living_of, IsLinked, StandFor, LeadsTo, IsLowest, Resumes, resume_of}
use Rattle.actor_tree.proofs.Ids.{same, other, same_or_other, without-same, without-other}
use Rattle.actor_tree.proofs.Kept.{post_order-none, falls}
use Rattle.linked_lists.specs.Links.{key_eq}
use Rattle.linked_lists.specs.Chosen.{cons_some, items_of}
use Rattle.linked_lists.proofs.KeyTest.{key_test}
use Rattle.linked_lists.proofs.NeighbourLemmas.{head-in, in-append, omit-in, omit-same, omit-other, same_or_other as same_or_other_key}
use Rattle.linked_lists.proofs.ChosenLemmas.{items-same, items-push}
use Rattle.actor_tree.proofs.Managed.{of-other, of-id, of-has, of-none, under-is, managed-has, managed-of, tree-once}
use Rattle.actor_tree.proofs.LinkLemmas.{along, no_key, node-at, has-key, lives-at}
use Rattle.actor_tree.proofs.Added.{added}
use Rattle.actor_tree.proofs.Removed.{removed}
use Rattle.actor_tree.proofs.Paths.{tree-leaf, managed-manager, path-first, path-last, path-without, rank, tree-rank}

-- ---- the actors of keys

map-actor : (f : Node → Node) → ((n : Node) → (f n).actor ≡ n.actor) → (o : Option Node) → option_map (λ (n : Node). n.actor) (option_map f o) ≡ option_map (λ (n : Node). n.actor) o
map-actor f h None = refl
map-actor f h (Some n) = ap Some (h n)

-- the actors of all keys but one, which is that of an id
omitted : (item : ℕ → Option Actor) (key : ℕ) (id : ℤ) (ks : List ℕ) → ((k : ℕ) → IsIn k ks → k ≡ key → (b : Actor) × (item k ≡ Some b) × (b.id ≡ id)) → ((k : ℕ) → IsIn k ks → k ≢ key → (b : Actor) × (item k ≡ Some b) × (b.id ≢ id)) → items_of item (omit key_eq key ks) ≡ without id (items_of item ks)
omitted item key id [] one others = refl
omitted item key id (k ∷ ks) one others =
    let rest = omitted item key id ks (λ j h. one j (inr h)) (λ j h. others j (inr h)) in
    elim (same_or_other_key key_test k key) [
      | inl e ↦ (let b = one k (inl refl) e in
          ap (items_of item) (omit-same key_test key k ks e) ∙ rest ∙ sym (without-same id b.0 (items_of item ks) b.2)
          ∙ ap (λ v. without id (cons_some v (items_of item ks))) (sym b.1))
      | inr m ↦ (let b = others k (inl refl) m in
          ap (items_of item) (omit-other key_test key k ks m) ∙ ap (cons_some (item k)) rest
          ∙ ap (λ v. cons_some v (without id (items_of item ks))) b.1 ∙ sym (without-other id b.0 (items_of item ks) b.2)
          ∙ ap (λ v. without id (cons_some v (items_of item ks))) (sym b.1))
    ]

-- the links where each key and each node stays
pub kept : (l l' : Links) → IsLinked l → ((i : ℤ) → key_of l' i ≡ key_of l i) → ((k : ℕ) → node_at l' k ≡ node_at l k) → keys_of l' ≡ keys_of l → StandFor l' (living_of l)
kept l l' s p n e =
    let actor : (k : ℕ) → actor_at l' k ≡ actor_at l k = λ k. ap (option_map (λ (m : Node). m.actor)) (n k) in
    let living : living_of l' ≡ living_of l = ap (items_of (actor_at l')) e ∙ items-same (actor_at l) (actor_at l') (keys_of l) (λ k h. actor k) in
    record {
      linked = record {
        links = subst (AreLinked (key_of l') (node_at l')) (sym living) (along (key_of l) (key_of l') (node_at l) (node_at l') (living_of l) p n s.links);
        each = λ k h. (let w = s.each k (subst (IsIn k) e h) in (w.0, actor k ∙ w.1, p w.0.id ∙ w.2));
      };
      living = living;
    }

-- the top actor alone
module _ (l : Links) (protocol key : ℕ)
    (at : node_at l key ≡ Some (record { actor = top protocol; manager = None; first = None; last = None; previous = None; next = None }))
    (ids : (i : ℤ) → key_of l i ≡ cond (int_eq top_id i) (Some key) None)
    (only : keys_of l ≡ key ∷ []) where
  abbrev alone : List Actor
  alone = top protocol ∷ []

  actor_top : actor_at l key ≡ Some (top protocol)
  actor_top = ap (option_map (λ (n : Node). n.actor)) at

  living : living_of l ≡ alone
  living = ap (items_of (actor_at l)) only ∙ ap (λ v. cons_some v []) actor_top

  at_id : (i : ℤ) → IsLinkedAt (key_of l) (node_at l) alone i (actor_of i alone)
  at_id i = elim (same_or_other top_id i) [
    | inl e ↦ subst (λ v. IsLinkedAt (key_of l) (node_at l) alone v (actor_of v alone)) e (key, ids top_id, at)
    | inr n ↦ subst (IsLinkedAt (key_of l) (node_at l) alone i) (sym (of-other i (top protocol) [] n)) (ids i ∙ ap (λ v. cond v (Some key) None) (other top_id i n))
  ]

  at_each : (k : ℕ) → IsIn k (key ∷ []) → (a : Actor) × (actor_at l k ≡ Some a) × (key_of l a.id ≡ Some k)
  at_each k (inl e) = subst (λ v. (a : Actor) × (actor_at l v ≡ Some a) × (key_of l a.id ≡ Some v)) e (top protocol, actor_top, ids top_id)
  at_each k (inr h) = absurd h

  pub starts : StandFor l alone
  starts = record {
    linked = record {
      links = subst (AreLinked (key_of l) (node_at l)) (sym living) (record { tree = (refl, tt); each = at_id });
      each = λ k h. at_each k (subst (IsIn k) only h);
    };
    living = living;
  }

-- an actor is made
pub put : (l l' : Links) (reserved filled : Slab Node) (a : Actor) (manager key : ℕ) (previous : Option ℕ)
    → IsLinked l → actor_of a.id (living_of l) ≡ None → key_of l a.manager ≡ Some manager
    → ((k : ℕ) → get reserved k ≡ node_at l k)
    → previous ≡ last_link (get reserved manager)
    → get reserved key ≡ None
    → Updates reserved filled key (Some (record { actor = a; manager = Some manager; first = None; last = None; previous = previous; next = None }))
    → ((k : ℕ) → node_at l' k ≡ option_map (attached manager previous key k) (get filled k))
    → ((q : ℤ) → key_of l' q ≡ cond (int_eq a.id q) (Some key) (key_of l q))
    → keys_of l' ≡ keys_of l ++ key ∷ []
    → StandFor l' (living_of l ++ a ∷ [])
put l l' reserved filled a manager key previous s fresh manager_key res prev free up at ids e =
    let m = lives-at (key_of l) (node_at l) (living_of l) s.links a.manager manager manager_key in
    let prev' : previous ≡ link (key_of l) (last (managed_ids a.manager (living_of l))) =
    prev ∙ ap last_link (res manager ∙ m.2) ∙ ap (λ v. link (key_of l) (last (managed_ids v (living_of l)))) (of-id a.manager (living_of l) m.0 m.1) in
    let st : AreLinked (key_of l') (node_at l') (living_of l ++ a ∷ []) = added (key_of l) (key_of l') (node_at l) (node_at l') (living_of l) a manager key s.links fresh manager_key
    (sym (res key) ∙ free)
    (ids a.id ∙ ap (λ v. cond v (Some key) (key_of l a.id)) (same a.id a.id refl))
    (λ i n. ids i ∙ ap (λ v. cond v (Some key) (key_of l i)) (other a.id i (λ f. n (sym f))))
    (at key ∙ ap (option_map (attached manager previous key key)) up.changed ∙ ap (λ v. Some (attached manager v key key (record { actor = a; manager = Some manager; first = None; last = None; previous = v; next = None }))) prev')
    (λ k n. at k ∙ ap (option_map (attached manager previous key k)) (up.others k n ∙ res k) ∙ ap (λ v. option_map (attached manager v key k) (node_at l k)) prev') in
    let free' : node_at l key ≡ None = sym (res key) ∙ free in
    let new : IsIn key (keys_of l) → ⊥ = λ h. let w = s.each key h in (let g = sym (ap (option_map (λ (n : Node). n.actor)) free') ∙ w.1 in cc) in
    let actor : (k : ℕ) → actor_at l' k ≡ option_map (λ (n : Node). n.actor) (get filled k) = λ k. ap (option_map (λ (n : Node). n.actor)) (at k) ∙ map-actor (attached manager previous key k) (λ n. refl) (get filled k) in
    let old : (k : ℕ) → IsIn k (keys_of l) → actor_at l' k ≡ actor_at l k = λ k h. actor k ∙ ap (option_map (λ (n : Node). n.actor)) (up.others k (λ f. new (subst (λ v. IsIn v (keys_of l)) f h)) ∙ res k) in
    let here : actor_at l' key ≡ Some a = actor key ∙ ap (option_map (λ (n : Node). n.actor)) up.changed in
    let living : living_of l' ≡ living_of l ++ a ∷ [] = ap (items_of (actor_at l')) e ∙ items-push (actor_at l') (keys_of l) key a here ∙ ap (λ v. v ++ a ∷ []) (items-same (actor_at l) (actor_at l') (keys_of l) old) in
    record {
      linked = record {
        links = subst (AreLinked (key_of l') (node_at l')) (sym living) st;
        each = λ k h. elim (in-append k (keys_of l) (key ∷ []) (subst (IsIn k) e h)) [
          | inl q ↦ (let w = s.each k q in
              let apart : a.id ≢ w.0.id = λ f. (let g = sym w.2 ∙ ap (key_of l) (sym f) ∙ no_key (key_of l) (node_at l) (living_of l) s.links a.id fresh in cc) in
              (w.0, old k q ∙ w.1, ids w.0.id ∙ ap (λ v. cond v (Some key) (key_of l w.0.id)) (other a.id w.0.id apart) ∙ w.2))
          | inr q ↦ elim q [
            | inl f ↦ subst (λ v. (b : Actor) × (actor_at l' v ≡ Some b) × (key_of l' b.id ≡ Some v)) f (a, here, ids a.id ∙ ap (λ v. cond v (Some key) (key_of l a.id)) (same a.id a.id refl))
            | inr r ↦ absurd r
          ]
        ];
      };
      living = living;
    }

-- ---- the way down

-- where the fall of a root begins
pub begins : (l : Links) (root : ℤ) (o : Option ℕ) → IsLinked l → o ≡ key_of l root → MatchOption o (actor_of root (living_of l) ≡ None) (λ key. LeadsTo l root key)
begins l root None s e = by (actor_of root (living_of l)) refl
  where
    by : (a : Option Actor) → actor_of root (living_of l) ≡ a → actor_of root (living_of l) ≡ None
    by None f = f
    by (Some b) f = (let n = node-at (key_of l) (node_at l) (living_of l) s.links root b f in let g = e ∙ n.1 in cc)
begins l root (Some key) s e = record { id = root; keyed = sym e; path = here }

-- how many were made from the actor of a node on
abbrev pub rank_at : Option Node → List Actor → ℕ
rank_at None actors = 0
rank_at (Some n) actors = rank n.actor.id actors

module _ (l : Links) (root : ℤ) (key : ℕ) (s : IsLinked l) (w : LeadsTo l root key) where
  at_key : (b : Actor) × (actor_of w.id (living_of l) ≡ Some b) × (node_at l key ≡ Some (node_of (key_of l) (living_of l) b))
  at_key = lives-at (key_of l) (node_at l) (living_of l) s.links w.id key w.keyed

  first_is : first_link (node_at l key) ≡ link (key_of l) (head (managed_ids w.id (living_of l)))
  first_is = ap first_link at_key.2 ∙ ap (λ v. link (key_of l) (head (managed_ids v (living_of l)))) (of-id w.id (living_of l) at_key.0 at_key.1)

  rank_is : rank_at (node_at l key) (living_of l) ≡ rank w.id (living_of l)
  rank_is = ap (λ v. rank_at v (living_of l)) at_key.2 ∙ ap (λ v. rank v (living_of l)) (of-id w.id (living_of l) at_key.0 at_key.1)

-- one step down
pub goes_down : (l : Links) (root : ℤ) (key first : ℕ) → IsLinked l → LeadsTo l root key → first_link (node_at l key) ≡ Some first → LeadsTo l root first × (rank_at (node_at l first) (living_of l) < rank_at (node_at l key) (living_of l))
goes_down l root key first s w e = by (head (managed_ids w.id (living_of l))) refl
  where
    by : (o : Option ℤ) → head (managed_ids w.id (living_of l)) ≡ o → LeadsTo l root first × (rank_at (node_at l first) (living_of l) < rank_at (node_at l key) (living_of l))
    by None h = (let g = sym e ∙ first_is l root key s w ∙ ap (link (key_of l)) h in cc)
    by (Some j) h =
        let keyed : key_of l j ≡ Some first = sym (ap (link (key_of l)) h) ∙ sym (first_is l root key s w) ∙ e in
        let w' : LeadsTo l root first = record { id = j; keyed = keyed; path = down w.path h } in
        let lower = tree-rank (living_of l) w.id j s.links.tree (managed-manager (living_of l) w.id j s.links.tree h) (head-in (managed_ids w.id (living_of l)) j h) in
        (w', rw (rank_is l root first s w', rank_is l root key s w) lower)

-- the end of the way
pub ends : (l : Links) (root : ℤ) (key : ℕ) → IsLinked l → LeadsTo l root key → first_link (node_at l key) ≡ None → IsLowest l root key
ends l root key s w e = record { id = w.id; keyed = w.keyed; path = w.path; leaf = by (managed_ids w.id (living_of l)) refl }
  where
    by : (ks : List ℤ) → managed_ids w.id (living_of l) ≡ ks → managed_ids w.id (living_of l) ≡ []
    by [] h = h
    by (k ∷ ks) h =
        let has = managed-has w.id k (living_of l) (subst (IsIn k) (sym h) (inl refl)) in
        let p = has-key (key_of l) (node_at l) (living_of l) s.links k has in
        (let g = sym e ∙ first_is l root key s w ∙ ap (λ v. link (key_of l) (head v)) h ∙ p.1 in cc)

-- ---- an actor falls

-- what is after an actor has fallen
pub record Taken (l l' : Links) (root : ℤ) (n : Node) : Type 0 where
  pub linked : IsLinked l'
  pub next : IsNext root (living_of l) (Some n.actor) (living_of l')
  pub resumes : Resumes l' (resume_of root n)

module _ (l l' : Links) (cut : Slab Node) (root : ℤ) (key : ℕ) (n : Node)
    (s : IsLinked l)
    (w : IsLowest l root key)
    (was : node_at l key ≡ Some n)
    (up : Updates l.nodes cut key None)
    (at : (k : ℕ) → node_at l' k ≡ option_map (detached n k) (get cut k))
    (ids : (q : ℤ) → key_of l' q ≡ cond (int_eq n.actor.id q) None (key_of l q))
    (step : keys_of l' ≡ omit key_eq key (keys_of l)) where
  abbrev actors : List Actor
  actors = living_of l

  found : (b : Actor) × (actor_of w.id actors ≡ Some b) × (node_at l key ≡ Some (node_of (key_of l) actors b))
  found = lives-at (key_of l) (node_at l) actors s.links w.id key w.keyed

  the_node : n ≡ node_of (key_of l) actors found.0
  the_node = (let g = sym was ∙ found.2 in cc)

  the_actor : n.actor ≡ found.0
  the_actor = ap (λ v. v.actor) the_node

  the_id : n.actor.id ≡ w.id
  the_id = ap (λ v. v.id) the_actor ∙ of-id w.id actors found.0 found.1

  alive : actor_of n.actor.id actors ≡ Some n.actor
  alive = ap (λ v. actor_of v actors) the_id ∙ found.1 ∙ ap Some (sym the_actor)

  own_node : n ≡ node_of (key_of l) actors n.actor
  own_node = the_node ∙ ap (node_of (key_of l) actors) (sym the_actor)

  leaf : managed_ids n.actor.id actors ≡ []
  leaf = ap (λ v. managed_ids v actors) the_id ∙ w.leaf

  first : first_of (post_order root actors) ≡ Some n.actor
  first = path-first actors root w.id s.links.tree w.path
      ∙ ap first_of (tree-leaf actors w.id found.0 s.links.tree (of-has w.id actors found.0 found.1) found.1 w.leaf)
      ∙ ap Some (sym the_actor)

  fell : IsTree (without n.actor.id actors) × (post_order root actors ≡ n.actor ∷ post_order root (without n.actor.id actors))
  fell = falls actors (without n.actor.id actors) root n.actor.id n.actor s.links.tree (sym first) refl refl

  others : (i : ℤ) → i ≢ n.actor.id → key_of l' i ≡ key_of l i
  others i m = ids i ∙ ap (λ v. cond v None (key_of l i)) (other n.actor.id i (λ f. m (sym f)))

  actor_was : actor_at l key ≡ Some n.actor
  actor_was = ap (option_map (λ (m : Node). m.actor)) was

  keyed_was : key_of l n.actor.id ≡ Some key
  keyed_was = ap (key_of l) the_id ∙ w.keyed

  actor_stays : (k : ℕ) → k ≢ key → actor_at l' k ≡ actor_at l k
  actor_stays k m = ap (option_map (λ (v : Node). v.actor)) (at k) ∙ map-actor (detached n k) (λ v. refl) (get cut k) ∙ ap (option_map (λ (v : Node). v.actor)) (up.others k m)

  -- an actor at another key has another id
  another : (k : ℕ) (b : Actor) → k ≢ key → key_of l b.id ≡ Some k → b.id ≢ n.actor.id
  another k b m p f = m (let g = sym p ∙ ap (key_of l) f ∙ keyed_was in cc)

  made : living_of l' ≡ without n.actor.id actors
  made = ap (items_of (actor_at l')) step
      ∙ items-same (actor_at l) (actor_at l') (omit key_eq key (keys_of l)) (λ k h. actor_stays k (omit-in key_test key k (keys_of l) h).1)
      ∙ omitted (actor_at l) key n.actor.id (keys_of l) (λ k h e. (n.actor, ap (actor_at l) e ∙ actor_was, refl)) (λ k h m. let v = s.each k h in (v.0, v.1, another k v.0 m v.2))

  stays : (k : ℕ) → IsIn k (keys_of l') → (b : Actor) × (actor_at l' k ≡ Some b) × (key_of l' b.id ≡ Some k)
  stays k h =
      let r = omit-in key_test key k (keys_of l) (subst (IsIn k) step h) in
      let v = s.each k r.0 in
      (v.0, actor_stays k r.1 ∙ v.1, others v.0.id (another k v.0 r.1 v.2) ∙ v.2)

  stand : AreLinked (key_of l') (node_at l') (without n.actor.id actors)
  stand = removed (key_of l) (key_of l') (node_at l) (node_at l') actors n.actor key s.links alive (ap (key_of l) the_id ∙ w.keyed) leaf fell.0
      (ids n.actor.id ∙ ap (λ v. cond v None (key_of l n.actor.id)) (same n.actor.id n.actor.id refl))
      others
      (λ k m. at k ∙ ap (option_map (detached n k)) (up.others k m) ∙ ap (λ v. option_map (detached v k) (node_at l k)) own_node)

  -- the fall continues at the manager
  goes_on : n.actor.id ≢ root → Resumes l' (option_map (λ at. record { root = root; at = at }) n.manager)
  goes_on m =
      let p = path-last actors root w.id w.path (λ e. m (the_id ∙ e)) in
      let j = p.0 in
      let k = managed-of j w.id actors (tree-once actors s.links.tree) (head-in (managed_ids j actors) w.id p.2) in
      let u = under-is j k.0 k.2 in
      let kn : k.0 ≡ n.actor = (let g = sym k.1 ∙ found.1 in let h : k.0 ≡ found.0 = cc in h ∙ sym the_actor) in
      let mj : n.actor.manager ≡ j = ap (λ v. v.manager) (sym kn) ∙ u.1 in
      let not_top : n.actor.id ≢ top_id = λ e. u.0 (ap (λ v. v.id) kn ∙ e) in
      let kj = has-key (key_of l) (node_at l) actors s.links j (managed-manager actors j w.id s.links.tree p.2) in
      let link_j : n.manager ≡ Some kj.0 = ap (λ v. v.manager) own_node ∙ ap (λ v. cond v None (key_of l n.actor.manager)) (other n.actor.id top_id not_top) ∙ ap (key_of l) mj ∙ kj.1 in
      let jx : j ≢ n.actor.id = λ e. (let g = sym p.2 ∙ ap (λ v. head (managed_ids v actors)) e ∙ ap head leaf in cc) in
      let to : LeadsTo l' root kj.0 = record {
        id = j;
        keyed = others j jx ∙ kj.1;
        path = subst (λ v. Path v root j) (sym made) (path-without actors root j n.actor.id leaf p.1 jx);
      } in
      subst (λ v. Resumes l' (option_map (λ at. record { root = root; at = at }) v)) (sym link_j) to

  pub taken : Taken l l' root n
  taken = record {
    linked = record { links = subst (AreLinked (key_of l') (node_at l')) (sym made) stand; each = stays };
    next = record { next = fell.1 ∙ ap (λ v. n.actor ∷ post_order root v) (sym made); left = made };
    resumes = elim (same_or_other n.actor.id root) [
      | inl e ↦ subst (λ v. Resumes l' (cond v None (option_map (λ at. record { root = root; at = at }) n.manager))) (sym (same n.actor.id root e)) tt
      | inr m ↦ subst (λ v. Resumes l' (cond v None (option_map (λ at. record { root = root; at = at }) n.manager))) (sym (other n.actor.id root m)) (goes_on m)
    ];
  }

-- the node is there
pub there : (l : Links) (root : ℤ) (key : ℕ) → IsLinked l → IsLowest l root key → is_some (node_at l key) ≡ true
there l root key s w =
    ap is_some (lives-at (key_of l) (node_at l) (living_of l) s.links w.id key w.keyed).2

-- where the root does not live nothing falls
pub nothing_falls : (actors : List Actor) (root : ℤ) → actor_of root actors ≡ None → IsNext root actors None actors
nothing_falls actors root e = record { next = post_order-none root actors (of-none root actors e); left = refl }
