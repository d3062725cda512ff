-- What a chain and its ends are after a node has joined it, and after one has left.
use Rattle.std.proofs.Common.{◌≡◌, ◌≢◌, inl, inr, ℕ, ◌==◌, Bool, true, false, cond, List, [], ◌∷◌, ◌++◌, Option, Some, None, refl, sym, ap, ◌∙◌, subst}
use Rattle.std.specs.Option.{option_map}
use Rattle.linked_lists.specs.declared.link.NodeLink.{NodeLink}
use Rattle.linked_lists.specs.Neighbours.{IsIn, AreDistinct, is_the, last, after, before, omit}
use Rattle.linked_lists.specs.Links.{key_eq, link_in, ends_of, ends_with, ends_without}
use Rattle.linked_lists.specs.Chains.{IsChain, with_previous, with_next, attached, detached}
use Rattle.linked_lists.proofs.KeyTest.{key_test}
use Rattle.linked_lists.proofs.NeighbourLemmas.{same, other, is_the-other, in-append, last-of-in, before-of-in, after-in, after-push, after-push-new, before-push, before-push-new, omit-in, after-omit, before-omit, head-push, last-push, head-omit, last-omit}

-- ---- one node

-- a part of a node that no change of its link affects stays the same
module _ {N B : Type 0} (link_of : N → NodeLink) (with_link : NodeLink → N → N) (part : N → B) (kept : (l : NodeLink) (n : N) → part (with_link l n) ≡ part n) where
  previous-keeps : (at key : Option ℕ) (k : ℕ) (n : N) → part (with_previous link_of with_link at key k n) ≡ part n
  previous-keeps at key k n = by (is_the key_eq at k)
    where
      by : (b : Bool) → part (cond b (with_link (record { previous = key; next = (link_of n).next }) n) n) ≡ part n
      by true = kept _ n
      by false = refl

  next-keeps : (at key : Option ℕ) (k : ℕ) (n : N) → part (with_next link_of with_link at key k n) ≡ part n
  next-keeps at key k n = by (is_the key_eq at k)
    where
      by : (b : Bool) → part (cond b (with_link (record { previous = (link_of n).previous; next = key }) n) n) ≡ part n
      by true = kept _ n
      by false = refl

  pub attached-keeps : (last : Option ℕ) (key k : ℕ) (n : N) → part (attached link_of with_link last key k n) ≡ part n
  attached-keeps last key k n =
      next-keeps last (Some key) k (with_previous link_of with_link (Some key) last k n) ∙ previous-keeps (Some key) last k n

  pub detached-keeps : (gone : NodeLink) (k : ℕ) (n : N) → part (detached link_of with_link gone k n) ≡ part n
  detached-keeps gone k n =
      next-keeps gone.previous gone.next k (with_previous link_of with_link gone.next gone.previous k n) ∙ previous-keeps gone.next gone.previous k n

module _ {N : Type 0} (link_of : N → NodeLink) (with_link : NodeLink → N → N) (set : (l : NodeLink) (n : N) → link_of (with_link l n) ≡ l) where
  previous-set : (at key : Option ℕ) (k : ℕ) (n : N) → link_of (with_previous link_of with_link at key k n) ≡ record { previous = cond (is_the key_eq at k) key (link_of n).previous; next = (link_of n).next }
  previous-set at key k n = by (is_the key_eq at k)
    where
      by : (b : Bool) → link_of (cond b (with_link (record { previous = key; next = (link_of n).next }) n) n) ≡ record { previous = cond b key (link_of n).previous; next = (link_of n).next }
      by true = set _ n
      by false = refl

  next-set : (at key : Option ℕ) (k : ℕ) (n : N) → link_of (with_next link_of with_link at key k n) ≡ record { previous = (link_of n).previous; next = cond (is_the key_eq at k) key (link_of n).next }
  next-set at key k n = by (is_the key_eq at k)
    where
      by : (b : Bool) → link_of (cond b (with_link (record { previous = (link_of n).previous; next = key }) n) n) ≡ record { previous = (link_of n).previous; next = cond b key (link_of n).next }
      by true = set _ n
      by false = refl

  both-set : (at key at' key' : Option ℕ) (k : ℕ) (n : N) → link_of (with_next link_of with_link at' key' k (with_previous link_of with_link at key k n)) ≡ record { previous = cond (is_the key_eq at k) key (link_of n).previous; next = cond (is_the key_eq at' k) key' (link_of n).next }
  both-set at key at' key' k n =
      next-set at' key' k (with_previous link_of with_link at key k n)
      ∙ ap (λ (l : NodeLink). record { previous = l.previous; next = cond (is_the key_eq at' k) key' l.next }) (previous-set at key k n)

  attached-link : (last : Option ℕ) (key k : ℕ) (n : N) → link_of (attached link_of with_link last key k n) ≡ record { previous = cond (key == k) last (link_of n).previous; next = cond (is_the key_eq last k) (Some key) (link_of n).next }
  attached-link last key k n = both-set (Some key) last last (Some key) k n

  detached-link : (gone : NodeLink) (k : ℕ) (n : N) → link_of (detached link_of with_link gone k n) ≡ record { previous = cond (is_the key_eq gone.next k) gone.previous (link_of n).previous; next = cond (is_the key_eq gone.previous k) gone.next (link_of n).next }
  detached-link gone k n = both-set gone.next gone.previous gone.previous gone.next k n

  -- ---- one more

  module _ (node node' : ℕ → Option N) (keys : List ℕ) (key : ℕ)
      (at : (k : ℕ) → node' k ≡ option_map (attached link_of with_link (last keys) key k) (node k))
      (distinct : AreDistinct keys)
      (new : IsIn key keys → ⊥) where
    pub chain-attached : IsChain link_of node keys → (m : N) → node key ≡ Some m → (link_of m).next ≡ None → IsChain link_of node' (keys ++ key ∷ [])
    chain-attached chain m there end k h = elim (in-append k keys (key ∷ []) h) [ inl q ↦ stays q | inr q ↦ elim q [ inl e ↦ joins (sym e) | inr r ↦ absurd r ] ]
      where
        stays : IsIn k keys → (n : N) × (node' k ≡ Some n) × (link_of n ≡ link_in k (keys ++ key ∷ []))
        stays q =
            let w = chain k q in
            let apart : k ≢ key = λ e. new (subst (λ v. IsIn v keys) e q) in (
              attached link_of with_link (last keys) key k w.0,
              at k ∙ ap (option_map (attached link_of with_link (last keys) key k)) w.1,
              attached-link (last keys) key k w.0 ∙ (λ j. record {
                previous = (ap (λ v. cond v (last keys) (link_of w.0).previous) (other key_test key k (λ e. apart (sym e))) ∙ ap (λ v. v.previous) w.2 ∙ sym (before-push key_test None k key keys apart)) j;
                next = (ap (λ v. cond (is_the key_eq (last keys) k) (Some key) v.next) w.2 ∙ sym (after-push key_test k key keys apart distinct)) j;
              }),
            )

        joins : k ≡ key → (n : N) × (node' k ≡ Some n) × (link_of n ≡ link_in k (keys ++ key ∷ []))
        joins e =
            let not_last : is_the key_eq (last keys) key ≡ false = is_the-other key_test (last keys) key (λ f. new (last-of-in keys key f)) in
            subst (λ v. (n : N) × (node' v ≡ Some n) × (link_of n ≡ link_in v (keys ++ key ∷ []))) (sym e) (
              attached link_of with_link (last keys) key key m,
              at key ∙ ap (option_map (attached link_of with_link (last keys) key key)) there,
              attached-link (last keys) key key m ∙ (λ j. record {
                previous = (ap (λ v. cond v (last keys) (link_of m).previous) (same key_test key key refl) ∙ sym (before-push-new key_test None key keys new)) j;
                next = (ap (λ v. cond v (Some key) (link_of m).next) not_last ∙ end ∙ sym (after-push-new key_test key keys new)) j;
              }),
            )

    -- another list of the chain stays the same
    pub chain-beside-attached : (others : List ℕ) → ((k : ℕ) → IsIn k others → (IsIn k keys → ⊥) × (k ≢ key)) → IsChain link_of node others → IsChain link_of node' others
    chain-beside-attached others apart chain k h =
        let w = chain k h in
        let no = apart k h in (
          attached link_of with_link (last keys) key k w.0,
          at k ∙ ap (option_map (attached link_of with_link (last keys) key k)) w.1,
          attached-link (last keys) key k w.0
              ∙ ap (λ v. record { previous = cond v (last keys) (link_of w.0).previous; next = cond (is_the key_eq (last keys) k) (Some key) (link_of w.0).next }) (other key_test key k (λ e. no.1 (sym e)))
              ∙ ap (λ v. record { previous = (link_of w.0).previous; next = cond v (Some key) (link_of w.0).next }) (is_the-other key_test (last keys) k (λ f. no.0 (last-of-in keys k f)))
              ∙ w.2,
        )

  -- ---- one less

  module _ (node node' : ℕ → Option N) (keys : List ℕ) (key : ℕ)
      (at : (k : ℕ) → k ≢ key → node' k ≡ option_map (detached link_of with_link (link_in key keys) k) (node k))
      (distinct : AreDistinct keys)
      (there : IsIn key keys) where
    pub chain-detached : IsChain link_of node keys → IsChain link_of node' (omit key_eq key keys)
    chain-detached chain k h =
        let r = omit-in key_test key k keys h in
        let w = chain k r.0 in (
          detached link_of with_link (link_in key keys) k w.0,
          at k r.1 ∙ ap (option_map (detached link_of with_link (link_in key keys) k)) w.1,
          detached-link (link_in key keys) k w.0 ∙ (λ j. record {
            previous = (ap (λ v. cond (is_the key_eq (after key_eq key keys) k) (before key_eq key keys) v.previous) w.2 ∙ sym (before-omit key_test None k key keys r.1 distinct there)) j;
            next = (ap (λ v. cond (is_the key_eq (before key_eq key keys) k) (after key_eq key keys) v.next) w.2 ∙ sym (after-omit key_test k key keys r.1 distinct there)) j;
          }),
        )

    -- another list of the chain stays the same
    pub chain-beside-detached : (others : List ℕ) → ((k : ℕ) → IsIn k others → IsIn k keys → ⊥) → IsChain link_of node others → IsChain link_of node' others
    chain-beside-detached others apart chain k h =
        let w = chain k h in
        let no : IsIn k keys → ⊥ = apart k h in
        let m : k ≢ key = λ e. no (subst (λ v. IsIn v keys) (sym e) there) in (
          detached link_of with_link (link_in key keys) k w.0,
          at k m ∙ ap (option_map (detached link_of with_link (link_in key keys) k)) w.1,
          detached-link (link_in key keys) k w.0
              ∙ ap (λ v. record { previous = cond v (before key_eq key keys) (link_of w.0).previous; next = cond (is_the key_eq (before key_eq key keys) k) (after key_eq key keys) (link_of w.0).next }) (is_the-other key_test (after key_eq key keys) k (λ f. no (after-in key_test key keys k f)))
              ∙ ap (λ v. record { previous = (link_of w.0).previous; next = cond v (after key_eq key keys) (link_of w.0).next }) (is_the-other key_test (before key_eq key keys) k (λ f. no (before-of-in key_test key keys k f)))
              ∙ w.2,
        )

-- ---- chains where the links of another chain changed, or nothing did

pub chain-along : {N : Type 0} (link_of : N → NodeLink) (node node' : ℕ → Option N) (keys : List ℕ) (f : ℕ → N → N) → ((k : ℕ) (n : N) → link_of (f k n) ≡ link_of n) → ((k : ℕ) → IsIn k keys → node' k ≡ option_map (f k) (node k)) → IsChain link_of node keys → IsChain link_of node' keys
chain-along link_of node node' keys f same at chain k h =
    let w = chain k h in
    (f k w.0, at k h ∙ ap (option_map (f k)) w.1, same k w.0 ∙ w.2)

pub chain-kept : {N : Type 0} (link_of : N → NodeLink) (node node' : ℕ → Option N) (keys : List ℕ) → ((k : ℕ) → IsIn k keys → node' k ≡ node k) → IsChain link_of node keys → IsChain link_of node' keys
chain-kept link_of node node' keys at chain k h =
    let w = chain k h in
    (w.0, at k h ∙ w.1, w.2)

-- ---- ends

pub ends-push : (keys : List ℕ) (key : ℕ) → ends_with (ends_of keys) key ≡ ends_of (keys ++ key ∷ [])
ends-push keys key = λ j. record { first = sym (head-push keys key) j; last = sym (last-push None keys key) j }

pub ends-omit : (keys : List ℕ) (key : ℕ) → AreDistinct keys → IsIn key keys → ends_without (ends_of keys) (link_in key keys) ≡ ends_of (omit key_eq key keys)
ends-omit keys key o h = λ j. record { first = sym (head-omit key_test key keys o h) j; last = sym (last-omit key_test None key keys o h) j }
