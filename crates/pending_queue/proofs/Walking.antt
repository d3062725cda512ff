-- The walk along a class finds its oldest item that is free, and the earliest of those of the classes is the oldest of all.
use Rattle.std.proofs.Common.{◌≡◌, ◌⊎◌, inl, inr, ℕ, suc, ◌<◌, ◌≤◌, ℤ, Bool, true, false, not, cond, List, [], ◌∷◌, ◌++◌, length, Option, Some, None, refl, sym, ap, ◌∙◌, subst, true≢false, append_assoc, nat_lt, arith}
use Rattle.std.proofs.lemmas.Bool.{cases_Bool}
use Rattle.std.proofs.lemmas.Bool.Decides.{nat_tests}
use Rattle.std.specs.Option.{option_map}
use Rattle.ipdl_base.specs.declared.kinds.Level.{Level}
use Rattle.ipdl_base.specs.declared.kinds.Level.TheVariants.{Not, InsideSync, InsideCpow}
use Rattle.ipdl_base.specs.declared.kinds.Side.{Side}
use Rattle.ipdl_base.specs.declared.message.Body.{Body}
use Rattle.ipdl_base.specs.declared.message.Body.TheVariants.{Request, Reply, Fault, Goodbye}
use Rattle.ipdl_base.specs.Deferral.{defers_request, defers_waiting, defers_arrival}
use Rattle.linked_lists.specs.declared.link.NodeLink.{NodeLink}
use Rattle.linked_lists.specs.Neighbours.{IsIn, AreDistinct, head, after}
use Rattle.linked_lists.specs.Chains.{link_of_some}
use Rattle.linked_lists.specs.Chosen.{passes, chosen_keys}
use Rattle.linked_lists.proofs.NeighbourLemmas.{same, other, same_or_other, head-in, after-same, after-other}
use Rattle.linked_lists.proofs.ChosenLemmas.{chosen-no, chosen-in, in-chosen, chosen-distinct}
use Rattle.linked_lists.specs.Links.{key_eq}
use Rattle.linked_lists.proofs.KeyTest.{key_test}
use Rattle.pending_queue.specs.declared.deferral_context.DeferralContext.{DeferralContext}
use Rattle.pending_queue.specs.declared.item.Item.{Item}
use Rattle.pending_queue.specs.declared.item.Item.TheVariants.{Message, Broken}
use Rattle.pending_queue.specs.declared.node.Node.{Node}
use Rattle.pending_queue.specs.declared.node.Chain.TheVariants.{SameClass}
use Rattle.pending_queue.specs.declared.class.Class.{Class}
use Rattle.pending_queue.specs.declared.class.Class.TheVariants.{Asynchronous, SyncNot, SyncInside, Highest, Closing}
use Rattle.pending_queue.specs.declared.queue.Queue.{Queue}
use Rattle.pending_queue.specs.DeferralContext.{arrival_of_body, arrival_of, is_free}
use Rattle.pending_queue.specs.Classes.{class_of, class_of_request, class_of_body, class_index, is_class, defers_class}
use Rattle.pending_queue.specs.Links.{stamp_of}
use Rattle.pending_queue.specs.Queue.{node_at, keys_of, queue_item, IsQueue, earlier_of}
use Rattle.pending_queue.specs.Walk.{rank, rank_of, IsAt}
use Rattle.pending_queue.proofs.ItemLemmas.{first-least, first-of-both}
use Rattle.pending_queue.proofs.ClassLemmas.{one_class}
use Rattle.pending_queue.specs.Nodes.{link_of}

-- ---- in the middle of a list

in-mid : (xs : List ℕ) (k : ℕ) (ys : List ℕ) → IsIn k (xs ++ k ∷ ys)
in-mid [] k ys = inl refl
in-mid (x ∷ xs) k ys = inr (in-mid xs k ys)

after-mid : (xs : List ℕ) (k : ℕ) (ys : List ℕ) → AreDistinct (xs ++ k ∷ ys) → after key_eq k (xs ++ k ∷ ys) ≡ head ys
after-mid [] k ys o = after-same key_test k k ys refl
after-mid (x ∷ xs) k ys o =
    after-other key_test k x (xs ++ k ∷ ys) (λ e. o.0 (subst (λ v. IsIn v (xs ++ k ∷ ys)) (sym e) (in-mid xs k ys))) ∙ after-mid xs k ys o.1

rank-mid : (xs : List ℕ) (k : ℕ) (ys : List ℕ) → AreDistinct (xs ++ k ∷ ys) → rank k (xs ++ k ∷ ys) ≡ suc (length ys)
rank-mid [] k ys o = ap (λ v. cond v (suc (length ys)) (rank k ys)) (same key_test k k refl)
rank-mid (x ∷ xs) k ys o =
    ap (λ v. cond v (suc (length (xs ++ k ∷ ys))) (rank k (xs ++ k ∷ ys))) (other key_test x k (λ e. o.0 (subst (λ v. IsIn v (xs ++ k ∷ ys)) (sym e) (in-mid xs k ys)))) ∙ rank-mid xs k ys o.1

rank-next : (xs : List ℕ) (k : ℕ) (ys : List ℕ) → AreDistinct (xs ++ k ∷ ys) → rank_of (head ys) (xs ++ k ∷ ys) ≡ length ys
rank-next xs k [] o = refl
rank-next xs k (y ∷ ys) o =
    let e : xs ++ k ∷ y ∷ ys ≡ (xs ++ k ∷ []) ++ y ∷ ys = sym (append_assoc xs (k ∷ []) (y ∷ ys)) in
    ap (rank y) e ∙ rank-mid (xs ++ k ∷ []) y ys (subst AreDistinct e o)

-- ---- the walk

step-at : (t : Item → Bool) (item : ℕ → Option Item) (ks : List ℕ) (k : ℕ) (ahead following : List ℕ) → ks ≡ ahead ++ following → Some k ≡ head following → head (chosen_keys t item ks) ≡ head (chosen_keys t item following) → AreDistinct ks → passes t (item k) ≡ false → IsAt t item ks (after key_eq k ks) × (rank_of (after key_eq k ks) ks < rank k ks) × IsIn k ks
step-at t item ks k ahead [] w e r o p = absurd cc
step-at t item ks k ahead (b ∷ bs) w e r o p =
    let kb : b ≡ k = cc in
    let w' : ks ≡ ahead ++ k ∷ bs = w ∙ ap (λ v. ahead ++ v ∷ bs) kb in
    let o' : AreDistinct (ahead ++ k ∷ bs) = subst AreDistinct w' o in
    let next : after key_eq k ks ≡ head bs = ap (after key_eq k) w' ∙ after-mid ahead k bs o' in
    let one : rank k ks ≡ suc (length bs) = ap (rank k) w' ∙ rank-mid ahead k bs o' in
    let two : rank_of (after key_eq k ks) ks ≡ length bs = ap (λ v. rank_of v ks) next ∙ ap (rank_of (head bs)) w' ∙ rank-next ahead k bs o' in (
      record {
        ahead = ahead ++ k ∷ [];
        following = bs;
        whole = w' ∙ sym (append_assoc ahead (k ∷ []) bs);
        here = next;
        rest = r ∙ ap head (chosen-no t item b bs (ap (λ v. passes t (item v)) kb ∙ p));
      },
      (let lower : rank_of (after key_eq k ks) ks < rank k ks = omega arith in lower),
      subst (IsIn k) (sym w') (in-mid ahead k bs),
    )

module _ (q : Queue) (s : IsQueue q) (t : Item → Bool) (g : Class) where
  abbrev class_keys : List ℕ
  class_keys = chosen_keys (is_class g) (queue_item q) (keys_of q)

  pub steps : (k : ℕ) → IsAt t (queue_item q) class_keys (Some k) → passes t (queue_item q k) ≡ false → IsAt t (queue_item q) class_keys (link_of_some (link_of SameClass) (node_at q k)).next × (rank_of (link_of_some (link_of SameClass) (node_at q k)).next class_keys < rank_of (Some k) class_keys)
  steps k w p =
      let r = step-at t (queue_item q) class_keys k w.ahead w.following w.whole w.here w.rest (chosen-distinct (is_class g) (queue_item q) (keys_of q) s.linked.distinct) p in
      let c = s.linked.class_chains g k r.2 in
      let link : after key_eq k class_keys ≡ (link_of_some (link_of SameClass) (node_at q k)).next = sym (ap (λ v. (link_of_some (link_of SameClass) v).next) c.1 ∙ ap (λ (l : NodeLink). l.next) c.2) in
      subst (λ v. IsAt t (queue_item q) class_keys v × (rank_of v class_keys < rank_of (Some k) class_keys)) link (r.0, r.1)

-- ---- classes that are passed over

passed-request : (side : Side) (w : Level) (inner : Option ℤ) (sync : Bool) (level : Level) (transaction : ℤ) → defers_class (Some w) (class_of_request sync level) ≡ true → defers_request side w inner sync level transaction ≡ true
passed-request side w inner sync InsideCpow transaction h = absurd (true≢false (sym h))
passed-request side w inner false Not transaction h = refl
passed-request side w inner false InsideSync transaction h = refl
passed-request side Not inner true Not transaction h = absurd (true≢false (sym h))
passed-request side InsideSync inner true Not transaction h = refl
passed-request side InsideCpow inner true Not transaction h = refl
passed-request side Not inner true InsideSync transaction h = absurd (true≢false (sym h))
passed-request side InsideSync inner true InsideSync transaction h = absurd (true≢false (sym h))
passed-request side InsideCpow inner true InsideSync transaction h = refl

passed-reply : (w : Level) (sync : Bool) → defers_class (Some w) (cond sync Closing Asynchronous) ≡ true → not sync ≡ true
passed-reply w true h = absurd (true≢false (sym h))
passed-reply w false h = refl

passed-body : (side : Side) (w : Level) (inner : Option ℤ) (sync : Bool) (level : Level) (transaction : ℤ) (body : Body) → defers_class (Some w) (class_of_body sync level body) ≡ true → defers_waiting side w inner (arrival_of_body sync level transaction body) ≡ true
passed-body side w inner sync level transaction (Request values) h = passed-request side w inner sync level transaction h
passed-body side w inner sync level transaction (Reply values) h = passed-reply w sync h
passed-body side w inner sync level transaction (Fault reason) h = passed-reply w sync h
passed-body side w inner sync level transaction Goodbye h = absurd (true≢false (sym h))

passed-item : (side : Side) (level : Option Level) (inner : Option ℤ) (x : Item) → defers_class level (class_of x) ≡ true → not (defers_arrival side level inner (arrival_of x)) ≡ false
passed-item side None inner x h = absurd (true≢false (sym h))
passed-item side (Some w) inner Broken h = absurd (true≢false (sym h))
passed-item side (Some w) inner (Message m sync level) h =
    ap not (passed-body side w inner sync level m.transaction m.body h)

pub chosen-none : (t : Item → Bool) (item : ℕ → Option Item) (ks : List ℕ) → ((k : ℕ) → IsIn k ks → passes t (item k) ≡ false) → chosen_keys t item ks ≡ []
chosen-none t item [] h = refl
chosen-none t item (k ∷ ks) h = chosen-no t item k ks (h k (inl refl)) ∙ chosen-none t item ks (λ j q. h j (inr q))

of_class : (g : Class) (x : Item) → is_class g x ≡ true → class_of x ≡ g
of_class g x e =
    one_class (class_of x) g (elim (same_or_other key_test (class_index (class_of x)) (class_index g)) [ inl f ↦ f | inr n ↦ absurd (true≢false (sym e ∙ other key_test (class_index (class_of x)) (class_index g) n)) ])

pub none_free : (h : DeferralContext) (g : Class) (item : ℕ → Option Item) (ks : List ℕ) → defers_class h.level g ≡ true → None ≡ head (chosen_keys (is_free h) item (chosen_keys (is_class g) item ks))
none_free h g item ks p =
    ap head (sym (chosen-none (is_free h) item (chosen_keys (is_class g) item ks) (λ k q. by (item k) (chosen-in (is_class g) item k ks q).1)))
  where
    by : (o : Option Item) → passes (is_class g) o ≡ true → passes (is_free h) o ≡ false
    by None e = refl
    by (Some x) e = passed-item h.side h.level (Some h.transaction) x (ap (defers_class h.level) (of_class g x e) ∙ p)

-- ---- the earliest

module _ (node : ℕ → Option Node) (f : ℕ) where
  -- nothing, or nothing earlier
  abbrev pub Good : Option ℕ → Type 0
  Good o = (m : ℕ) → o ≡ Some m → (f ≡ m) ⊎ (stamp_of (node f) < stamp_of (node m))

  pick : (i j : ℕ) (b : Bool) → nat_lt (stamp_of (node j)) (stamp_of (node i)) ≡ b → earlier_of node (Some i) (Some j) ≡ cond b (Some j) (Some i)
  pick i j b e = ap (λ v. cond v (Some j) (Some i)) e

  not_below : (a b : ℕ) → b ≤ a → nat_lt a b ≡ false
  not_below a b h = grind (arith, nat_tests)

  is_below : (a b : ℕ) → a < b → nat_lt a b ≡ true
  is_below a b h = grind (arith, nat_tests)

  hit_first : (a b : Option ℕ) → a ≡ Some f → Good b → earlier_of node a b ≡ Some f
  hit_first None b e g = absurd cc
  hit_first (Some i) None e g = e
  hit_first (Some i) (Some j) e g =
      let fi : i ≡ f = cc in
      elim (g j refl) [
        | inl fj ↦ (let ij : i ≡ j = fi ∙ fj in pick i j false (not_below (stamp_of (node j)) (stamp_of (node i)) (let k : stamp_of (node i) ≡ stamp_of (node j) = ap (λ v. stamp_of (node v)) ij in omega arith)) ∙ e)
        | inr less ↦ pick i j false (not_below (stamp_of (node j)) (stamp_of (node i)) (let k : stamp_of (node i) ≡ stamp_of (node f) = ap (λ v. stamp_of (node v)) fi in omega arith)) ∙ e
      ]

  hit_second : (a b : Option ℕ) → Good a → b ≡ Some f → earlier_of node a b ≡ Some f
  hit_second None b g e = e
  hit_second (Some i) None g e = absurd cc
  hit_second (Some i) (Some j) g e =
      let fj : j ≡ f = cc in
      elim (g i refl) [
        | inl fi ↦ pick i j false (not_below (stamp_of (node j)) (stamp_of (node i)) (let k : stamp_of (node i) ≡ stamp_of (node j) = ap (λ v. stamp_of (node v)) (sym fi ∙ sym fj) in omega arith)) ∙ ap Some (sym fi)
        | inr less ↦ pick i j true (is_below (stamp_of (node j)) (stamp_of (node i)) (let k : stamp_of (node j) ≡ stamp_of (node f) = ap (λ v. stamp_of (node v)) fj in omega arith)) ∙ e
      ]

  both_good : (a b : Option ℕ) → Good a → Good b → Good (earlier_of node a b)
  both_good None b ga gb = gb
  both_good (Some i) None ga gb = ga
  both_good (Some i) (Some j) ga gb =
      elim (cases_Bool (nat_lt (stamp_of (node j)) (stamp_of (node i)))) [
        | inl e ↦ subst Good (sym (pick i j true e)) gb
        | inr e ↦ subst Good (sym (pick i j false e)) ga
      ]

-- nothing of all
none_of : (node : ℕ → Option Node) (a b : Option ℕ) → a ≡ None → b ≡ None → earlier_of node a b ≡ None
none_of node None b e f = f
none_of node (Some i) b e f = cc

module _ (q : Queue) (s : IsQueue q) (t : Item → Bool) where
  abbrev of_all : Option ℕ
  of_all = head (chosen_keys t (queue_item q) (keys_of q))

  abbrev pub of_class_at : Class → Option ℕ
  of_class_at g = head (chosen_keys t (queue_item q) (chosen_keys (is_class g) (queue_item q) (keys_of q)))

  abbrev pub earliest : Option ℕ
  earliest =
      earlier_of (node_at q) (of_class_at Asynchronous) (earlier_of (node_at q) (of_class_at SyncNot) (earlier_of (node_at q) (of_class_at SyncInside) (earlier_of (node_at q) (of_class_at Highest) (of_class_at Closing))))

  -- one that a class has is free and there
  there : (g : Class) (m : ℕ) → of_class_at g ≡ Some m → IsIn m (keys_of q) × (passes t (queue_item q m) ≡ true)
  there g m e =
      let c = chosen-in t (queue_item q) m (chosen_keys (is_class g) (queue_item q) (keys_of q)) (head-in _ m e) in
      ((chosen-in (is_class g) (queue_item q) m (keys_of q) c.0).0, c.1)

  class_good : (f : ℕ) → of_all ≡ Some f → (g : Class) → Good (node_at q) f (of_class_at g)
  class_good f e g m h =
      let r = there g m h in
      first-least t (queue_item q) (λ k. stamp_of (node_at q k)) (keys_of q) f m s.linked.rising e r.0 r.1

  abbrev n : ℕ → Option Node
  n = node_at q

  by_class : (f : ℕ) → of_all ≡ Some f → (g : Class) → of_class_at g ≡ Some f → earliest ≡ Some f
  by_class f e Asynchronous h =
      let G = class_good f e in
      hit_first n f (of_class_at Asynchronous) _ h (both_good n f (of_class_at SyncNot) _ (G SyncNot) (both_good n f (of_class_at SyncInside) _ (G SyncInside) (both_good n f (of_class_at Highest) (of_class_at Closing) (G Highest) (G Closing))))
  by_class f e SyncNot h =
      let G = class_good f e in
      hit_second n f (of_class_at Asynchronous) _ (G Asynchronous) (hit_first n f (of_class_at SyncNot) _ h (both_good n f (of_class_at SyncInside) _ (G SyncInside) (both_good n f (of_class_at Highest) (of_class_at Closing) (G Highest) (G Closing))))
  by_class f e SyncInside h =
      let G = class_good f e in
      hit_second n f (of_class_at Asynchronous) _ (G Asynchronous) (hit_second n f (of_class_at SyncNot) _ (G SyncNot) (hit_first n f (of_class_at SyncInside) _ h (both_good n f (of_class_at Highest) (of_class_at Closing) (G Highest) (G Closing))))
  by_class f e Highest h =
      let G = class_good f e in
      hit_second n f (of_class_at Asynchronous) _ (G Asynchronous) (hit_second n f (of_class_at SyncNot) _ (G SyncNot) (hit_second n f (of_class_at SyncInside) _ (G SyncInside) (hit_first n f (of_class_at Highest) (of_class_at Closing) h (G Closing))))
  by_class f e Closing h =
      let G = class_good f e in
      hit_second n f (of_class_at Asynchronous) _ (G Asynchronous) (hit_second n f (of_class_at SyncNot) _ (G SyncNot) (hit_second n f (of_class_at SyncInside) _ (G SyncInside) (hit_second n f (of_class_at Highest) (of_class_at Closing) (G Highest) h)))

  nowhere : of_all ≡ None → (g : Class) → of_class_at g ≡ None
  nowhere e g = by (of_class_at g) refl
    where
      by : (o : Option ℕ) → of_class_at g ≡ o → of_class_at g ≡ None
      by None h = h
      by (Some m) h =
          let r = there g m h in
          let c = in-chosen t (queue_item q) m (keys_of q) r.0 r.1 in
          absurd (empty (chosen_keys t (queue_item q) (keys_of q)) e c)
        where
          empty : (ks : List ℕ) → head ks ≡ None → IsIn m ks → ⊥
          empty [] f c = c
          empty (k ∷ ks) f c = cc

  pub earliest_is : earliest ≡ of_all
  earliest_is = by of_all refl
    where
      by : (o : Option ℕ) → of_all ≡ o → earliest ≡ of_all
      by None e =
          none_of n (of_class_at Asynchronous) _ (nowhere e Asynchronous) (none_of n (of_class_at SyncNot) _ (nowhere e SyncNot) (none_of n (of_class_at SyncInside) _ (nowhere e SyncInside) (none_of n (of_class_at Highest) (of_class_at Closing) (nowhere e Highest) (nowhere e Closing)))) ∙ sym e
      by (Some f) e =
          let r = chosen-in t (queue_item q) f (keys_of q) (head-in _ f e) in
          let w = s.linked.arrival_chain f r.0 in
          let x : Item = w.0.item in
          let at : queue_item q f ≡ Some x = ap (option_map (λ (m : Node). m.item)) w.1 in
          by_class f e (class_of x) (first-of-both t (is_class (class_of x)) (queue_item q) (keys_of q) f e (ap (passes (is_class (class_of x))) at ∙ same key_test (class_index (class_of x)) (class_index (class_of x)) refl)) ∙ sym e
