-- The keys while files are read: a reach of the keys that are named so far.
use Rattle.std.proofs.Common.{◌≡◌, ◌≢◌, ◌⊎◌, inl, inr, ℕ, ◌<◌, ◌≤◌, true, false, nat_lt, List, [], ◌∷◌, ◌++◌, length, get_or, refl, sym, ◌∙◌, ap, subst, arith, append_assoc, length-append}
use Rattle.std.specs.List.{All, AllPairs, Contains, list_any}
use Rattle.std.proofs.lemmas.Bool.{ltb-true, ltb-false}
use Rattle.std.proofs.lemmas.List.{append-nil}
use Rattle.std.proofs.lemmas.List.Elements.{All-push, Contains-append_left, Contains-push, Contains-push_cases, Contains-get_or}
use Rattle.std.proofs.lemmas.List.Quantifiers.{all_pairs_push}
use Rattle.include_graph.specs.Growth.{add_key, add_keys}
use Rattle.include_graph.specs.Keys.{is_same}
use Rattle.include_graph.specs.Reach.{first_place, IsLeftOut}
use Rattle.ipdl_base.proofs.Ends.{by_test}
use Rattle.include_graph.proofs.Places.{among, not_among, found_or_not, place_append, place_within, place_new}

-- The keys begin with those of the words, and further ones follow in the order in which they are named first. All
-- named keys are among them, unless they are left out.
pub record Grown (words keys named : List (List ℕ)) : Type 0 where
  pub few : length keys ≤ 4096
  pub once : AllPairs (λ one other. one ≢ other) keys
  pub further : List (List ℕ)
  pub begins : keys ≡ words ++ further
  pub told : All (Contains named) further
  pub ordered : AllPairs (λ one other. first_place named one < first_place named other) further
  pub whole : (key : List ℕ) → Contains named key → Contains keys key ⊎ IsLeftOut keys further named key

-- the keys stay the same when one that is there is named again
pub add_old : (keys : List (List ℕ)) (k : List ℕ) → list_any (is_same k) keys ≡ true → add_key keys k ≡ keys
add_old keys k e = rw e refl

pub add_new : (keys : List (List ℕ)) (k : List ℕ) → list_any (is_same k) keys ≡ false → nat_lt (length keys) 4096 ≡ true → add_key keys k ≡ keys ++ k ∷ []
add_new keys k e f = rw e (rw f refl)

pub add_past : (keys : List (List ℕ)) (k : List ℕ) → list_any (is_same k) keys ≡ false → nat_lt (length keys) 4096 ≡ false → add_key keys k ≡ keys
add_past keys k e f = rw e (rw f refl)

-- a full list gains nothing
pub add_full : (keys : List (List ℕ)) (k : List ℕ) → length keys ≡ 4096 → add_key keys k ≡ keys
add_full keys k full = by_test (list_any (is_same k) keys)
    (λ e. add_old keys k e)
    (λ e. by_test (nat_lt (length keys) 4096)
    (λ f. let below : length keys < 4096 = ltb-true (length keys) 4096 f in absurd (omega arith))
    (λ f. add_past keys k e f))

module _ (words keys named : List (List ℕ)) (k : List ℕ) (g : Grown words keys named) where
  -- the order of the named keys stays, whatever is named later
  same_order : AllPairs (λ one other. first_place (named ++ k ∷ []) one < first_place (named ++ k ∷ []) other) g.further
  same_order i j d before within =
      let a = place_append named (k ∷ []) (get_or g.further i d) (g.told i d (omega arith)) in
      let b = place_append named (k ∷ []) (get_or g.further j d) (g.told j d within) in
      let h = g.ordered i j d before within in
      omega (arith, a, b, h)

  told_more : All (Contains (named ++ k ∷ [])) g.further
  told_more i d within = Contains-append_left named (k ∷ []) (get_or g.further i d) (g.told i d within)

  left_still : (key : List ℕ) → Contains named key → IsLeftOut keys g.further named key → IsLeftOut keys g.further (named ++ k ∷ []) key
  left_still key c l = record {
    full = l.full;
    following = λ i d within.
        let a = place_append named (k ∷ []) (get_or g.further i d) (g.told i d within) in
        let b = place_append named (k ∷ []) key c in
        let h = l.following i d within in
        omega (arith, a, b, h);
  }

  -- a key that is named after all others is left out of a full list
  left_new : length keys ≡ 4096 → ¬ Contains named k → IsLeftOut keys g.further (named ++ k ∷ []) k
  left_new full fresh = record {
    full = full;
    following = λ i d within.
        let a = place_append named (k ∷ []) (get_or g.further i d) (g.told i d within) in
        let w = place_within named (get_or g.further i d) (g.told i d within) in
        let b = place_new named [] k fresh in
        omega (arith, a, b, w);
  }

  -- the keys stay the same if the key is there or is left out
  stays : Contains keys k ⊎ IsLeftOut keys g.further (named ++ k ∷ []) k → Grown words keys (named ++ k ∷ [])
  stays here = record {
    few = g.few;
    once = g.once;
    further = g.further;
    begins = g.begins;
    told = told_more;
    ordered = same_order;
    whole = λ key c. elim (Contains-push_cases named k key c) [
      | inl old ↦ elim (g.whole key old) [ inl there ↦ inl there | inr left ↦ inr (left_still key old left) ]
      | inr is ↦ subst (λ x. Contains keys x ⊎ IsLeftOut keys g.further (named ++ k ∷ []) x) is here
    ];
  }

  -- a new key goes last
  goes_last : ¬ Contains keys k → length keys < 4096 → Grown words (keys ++ k ∷ []) (named ++ k ∷ [])
  goes_last fresh room =
      let unnamed : ¬ Contains named k = λ c. elim (g.whole k c) [ inl there ↦ fresh there | inr left ↦ (let f = left.full in omega arith) ] in
      record {
        few = omega (arith, length-append keys (k ∷ []));
        once = all_pairs_push (λ one other. one ≢ other) keys k g.once (λ i d within e. fresh (subst (Contains keys) e (Contains-get_or keys i d within)));
        further = g.further ++ k ∷ [];
        begins = ap (λ ks. ks ++ k ∷ []) g.begins ∙ append_assoc words g.further (k ∷ []);
        told = All-push (Contains (named ++ k ∷ [])) g.further k told_more (Contains-push named k);
        ordered = all_pairs_push (λ one other. first_place (named ++ k ∷ []) one < first_place (named ++ k ∷ []) other) g.further k same_order (λ i d within.
            let a = place_append named (k ∷ []) (get_or g.further i d) (g.told i d within) in
            let w = place_within named (get_or g.further i d) (g.told i d within) in
            let b = place_new named [] k unnamed in
            omega (arith, a, b, w));
        whole = λ key c. elim (Contains-push_cases named k key c) [
          | inl old ↦ elim (g.whole key old) [ inl there ↦ inl (Contains-append_left keys (k ∷ []) key there) | inr left ↦ (let f = left.full in absurd (omega arith)) ]
          | inr is ↦ inl (subst (Contains (keys ++ k ∷ [])) is (Contains-push keys k))
        ];
      }

  -- one more key is named
  pub grown_one : Grown words (add_key keys k) (named ++ k ∷ [])
  grown_one = by_test (list_any (is_same k) keys)
      (λ e. subst (λ ks. Grown words ks (named ++ k ∷ [])) (sym (add_old keys k e)) (stays (inl (among keys k e))))
      (λ e. by_test (nat_lt (length keys) 4096)
      (λ f. subst (λ ks. Grown words ks (named ++ k ∷ [])) (sym (add_new keys k e f)) (goes_last (not_among keys k e) (ltb-true (length keys) 4096 f)))
      (λ f.
      let few = g.few in
      let past : 4096 ≤ length keys = ltb-false (length keys) 4096 f in
      let full : length keys ≡ 4096 = omega arith in
      subst (λ ks. Grown words ks (named ++ k ∷ [])) (sym (add_past keys k e f)) (stays (elim (found_or_not named k) [
        | inl old ↦ elim (g.whole k old) [ inl there ↦ inl there | inr left ↦ inr (left_still k old left) ]
        | inr fresh ↦ inr (left_new full fresh)
      ]))))

-- more keys are named in turn
pub grown_more : (words keys named row : List (List ℕ)) → Grown words keys named → Grown words (add_keys keys row) (named ++ row)
grown_more words keys named [] g = subst (Grown words keys) (sym (append-nil named)) g
grown_more words keys named (k ∷ row) g =
    subst (Grown words (add_keys (add_key keys k) row)) (append_assoc named (k ∷ []) row) (grown_more words (add_key keys k) (named ++ k ∷ []) row (grown_one words keys named k g))
