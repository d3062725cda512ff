-- The keys of words.
use Rattle.std.proofs.Common.{◌≡◌, ◌≢◌, ◌⊎◌, inl, inr, ℕ, zero, suc, Bool, true, false, not, List, [], ◌∷◌, ◌++◌, map, filter, refl, sym, ◌∙◌, ap, subst, arith, true≢false}
use Rattle.std.specs.Prelude.{Some, None, find}
use Rattle.std.specs.List.{AllZip, Contains, list_any}
use Rattle.std.specs.Option.{option_or}
use Rattle.std.proofs.lemmas.List.{map-append, length-append, append-nil}
use Rattle.std.proofs.lemmas.List.Elements.{filter-append, Contains-get_or}
use Rattle.std.proofs.lemmas.List.Folds.{find-append}
use Rattle.std.proofs.lemmas.List.Quantifiers.{all_pairs_push}
use Rattle.std.proofs.lemmas.Option.{same_Some}
use Rattle.std.proofs.lemmas.Slice.Zip.{all_zipped_more}
use Rattle.include_graph.specs.Growth.{AreDifferent, HasWords}
use Rattle.ipdl_base.specs.FileNames.{key_of}
use Rattle.include_graph.specs.Keys.{is_same, different, word_keys}
use Rattle.include_graph.specs.Sources.{word_of}
use Rattle.ipdl_base.proofs.Ends.{by_test, same_is, is_itself}
use Rattle.include_graph.proofs.Ends.{other_is}
use Rattle.include_graph.proofs.Places.{in_head, in_more, in_none, in_tail, among, not_among}

-- a key that is in a list is its head or in its tail
pub head_or_tail : (x : List ℕ) (xs : List (List ℕ)) (k : List ℕ) → Contains (x ∷ xs) k → (x ≡ k) ⊎ Contains xs k
head_or_tail x xs k (zero, below, is) = inl is
head_or_tail x xs k (suc i, below, is) = inr (i, omega arith, is)

-- an element that a filter keeps is one of the list
filter_has : (p : List ℕ → Bool) (xs : List (List ℕ)) (k : List ℕ) → Contains (filter p xs) k → Contains xs k
filter_has p [] k c = c
filter_has p (x ∷ xs) k c = by_test (p x)
    (λ e. elim (head_or_tail x (filter p xs) k (rw e at c)) [
      | inl is ↦ subst (Contains (x ∷ xs)) is (in_head x xs)
      | inr tail ↦ in_more x xs k (filter_has p xs k tail)
    ])
    (λ e. in_more x xs k (filter_has p xs k (rw e at c)))

kept : (p : List ℕ → Bool) (xs : List (List ℕ)) (k : List ℕ) → p k ≡ true → Contains xs k → Contains (filter p xs) k
kept p [] k pass c = c
kept p (x ∷ xs) k pass c = by_test (p x)
    (λ e. rw e (elim (head_or_tail x xs k c) [
      | inl is ↦ subst (Contains (x ∷ filter p xs)) is (in_head x (filter p xs))
      | inr tail ↦ in_more x (filter p xs) k (kept p xs k pass tail)
    ]))
    (λ e. rw e (elim (head_or_tail x xs k c) [
      | inl is ↦ absurd (true≢false (sym pass ∙ (ap p (sym is) ∙ e)))
      | inr tail ↦ kept p xs k pass tail
    ]))

-- an element of a list is among its distinct elements
pub different_has : (xs : List (List ℕ)) (k : List ℕ) → Contains xs k → Contains (different xs) k
different_has [] k c = c
different_has (x ∷ xs) k c = by_test (is_same x k)
    (λ e. subst (Contains (different (x ∷ xs))) (same_is x k e) (in_head x (filter (λ y. not (is_same x y)) (different xs))))
    (λ e. in_more x (filter (λ y. not (is_same x y)) (different xs)) k (kept (λ y. not (is_same x y)) (different xs) k (rw e refl) (different_has xs k (in_tail x xs k c (other_is x k e)))))

-- one more that is new
different_new : (xs : List (List ℕ)) (k : List ℕ) → ¬ Contains (different xs) k → different (xs ++ k ∷ []) ≡ different xs ++ k ∷ []
different_new [] k fresh = refl
different_new (x ∷ xs) k fresh =
    let differ : is_same x k ≡ false = by_test (is_same x k) (λ e. absurd (fresh (subst (Contains (different (x ∷ xs))) (same_is x k e) (in_head x (filter (λ y. not (is_same x y)) (different xs)))))) (λ e. e) in
    let inner : ¬ Contains (different xs) k = λ c. fresh (in_more x (filter (λ y. not (is_same x y)) (different xs)) k (kept (λ y. not (is_same x y)) (different xs) k (rw differ refl) c)) in
    ap (λ ys. x ∷ filter (λ y. not (is_same x y)) ys) (different_new xs k inner)
    ∙ ap (λ ys. x ∷ ys) (filter-append (λ y. not (is_same x y)) (different xs) (k ∷ []) ∙ rw differ refl)

-- one more that is there already
different_old : (xs : List (List ℕ)) (k : List ℕ) → Contains (different xs) k → different (xs ++ k ∷ []) ≡ different xs
different_old [] k c = absurd (in_none k c)
different_old (x ∷ xs) k c = by_test (list_any (is_same k) (different xs))
    (λ e. ap (λ ys. x ∷ filter (λ y. not (is_same x y)) ys) (different_old xs k (among (different xs) k e)))
    (λ e.
    let fresh = not_among (different xs) k e in
    let same : x ≡ k = elim (head_or_tail x (filter (λ y. not (is_same x y)) (different xs)) k c) [ inl is ↦ is | inr tail ↦ absurd (fresh (filter_has (λ y. not (is_same x y)) (different xs) k tail)) ] in
    let test : is_same x k ≡ true = subst (λ z. is_same x z ≡ true) same (is_itself x) in
    ap (λ ys. x ∷ filter (λ y. not (is_same x y)) ys) (different_new xs k fresh)
    ∙ ap (λ ys. x ∷ ys) (filter-append (λ y. not (is_same x y)) (different xs) (k ∷ []) ∙ rw test (append-nil (filter (λ y. not (is_same x y)) (different xs)))))

-- one more that is there
pub still_different : (xs list : List (List ℕ)) (k : List ℕ) → AreDifferent xs list → list_any (is_same k) list ≡ true → AreDifferent (xs ++ k ∷ []) list
still_different xs list k h e = record {
  are = h.are ∙ sym (different_old xs k (subst (λ ks. Contains ks k) h.are (among list k e)));
  once = h.once;
}

-- one more that is new
pub more_different : (xs list : List (List ℕ)) (k : List ℕ) → AreDifferent xs list → list_any (is_same k) list ≡ false → AreDifferent (xs ++ k ∷ []) (list ++ k ∷ [])
more_different xs list k h e =
    let fresh = not_among list k e in
    record {
      are = ap (λ ks. ks ++ k ∷ []) h.are ∙ sym (different_new xs k (subst (λ ks. ¬ Contains ks k) h.are fresh));
      once = all_pairs_push (λ one other. one ≢ other) list k h.once (λ i d within same. fresh (subst (Contains list) same (Contains-get_or list i d within)));
    }

-- a word that is found is among the words, and has the key
pub word_found : (words : List (List ℕ)) (k w : List ℕ) → word_of words k ≡ Some w → Contains words w × (key_of w ≡ k)
word_found [] k w e = absurd (let none : ⊥ = cc in none)
word_found (x ∷ xs) k w e = by_test (is_same (key_of x) k)
    (λ t. let is : x ≡ w = same_Some _ _ (rw t at e) in (subst (Contains (x ∷ xs)) is (in_head x xs), subst (λ y. key_of y ≡ k) is (same_is (key_of x) k t)))
    (λ t. let r = word_found xs k w (rw t at e) in (in_more x xs w r.0, r.1))

-- a key of no word
pub no_word : (words : List (List ℕ)) (k : List ℕ) → ¬ Contains (map key_of words) k → word_of words k ≡ None
no_word [] k none = refl
no_word (x ∷ xs) k none = by_test (is_same (key_of x) k)
    (λ t. absurd (none (subst (Contains (map key_of (x ∷ xs))) (same_is (key_of x) k t) (in_head (key_of x) (map key_of xs)))))
    (λ t. rw t (no_word xs k (λ c. none (in_more (key_of x) (map key_of xs) k c))))

-- a word that is found stays found
still_found : (words : List (List ℕ)) (k w more : List ℕ) → word_of words k ≡ Some w → word_of (words ++ more ∷ []) k ≡ Some w
still_found words k w more e = find-append (λ x. is_same (key_of x) k) words (more ∷ []) ∙ ap (λ o. option_or o (find (λ x. is_same (key_of x) k) (more ∷ []))) e

new_found : (words : List (List ℕ)) (w : List ℕ) → word_of words (key_of w) ≡ None → word_of (words ++ w ∷ []) (key_of w) ≡ Some w
new_found words w e = find-append (λ x. is_same (key_of x) (key_of w)) words (w ∷ []) ∙ ap (λ o. option_or o (find (λ x. is_same (key_of x) (key_of w)) (w ∷ []))) e ∙ rw (is_itself (key_of w)) refl

all_still : (words : List (List ℕ)) (more : List ℕ) (keys firsts : List (List ℕ)) → AllZip (λ key word. word_of words key ≡ Some word) keys firsts → AllZip (λ key word. word_of (words ++ more ∷ []) key ≡ Some word) keys firsts
all_still words more [] [] h = h
all_still words more [] (f ∷ fs) h = h
all_still words more (k ∷ ks) [] h = h
all_still words more (k ∷ ks) (f ∷ fs) h = (still_found words k f more h.0, all_still words more ks fs h.1)

module _ (words list firsts : List (List ℕ)) (w : List ℕ) (h : HasWords words list firsts) where
  keys_more : word_keys (words ++ w ∷ []) ≡ different (map key_of words ++ key_of w ∷ [])
  keys_more = ap different (map-append key_of words (w ∷ []))

  keys_are : AreDifferent (map key_of words) list
  keys_are = record { are = h.keys; once = h.once }

  -- one more word whose key is there
  pub words_old : list_any (is_same (key_of w)) list ≡ true → HasWords (words ++ w ∷ []) list firsts
  words_old e =
      let few = h.few in
      let more = still_different (map key_of words) list (key_of w) keys_are e in
      record {
        keys = more.are ∙ sym keys_more;
        few = omega (arith, length-append words (w ∷ []));
        once = more.once;
        first = all_still words w list firsts h.first;
      }

  -- one more word with a new key
  pub words_new : list_any (is_same (key_of w)) list ≡ false → HasWords (words ++ w ∷ []) (list ++ key_of w ∷ []) (firsts ++ w ∷ [])
  words_new e =
      let few = h.few in
      let more = more_different (map key_of words) list (key_of w) keys_are e in
      let unnamed : ¬ Contains (word_keys words) (key_of w) = subst (λ ks. ¬ Contains ks (key_of w)) h.keys (not_among list (key_of w) e) in
      let none = no_word words (key_of w) (λ c. unnamed (different_has (map key_of words) (key_of w) c)) in
      record {
        keys = more.are ∙ sym keys_more;
        few = omega (arith, length-append words (w ∷ []), length-append list (key_of w ∷ []));
        once = more.once;
        first = all_zipped_more (λ key word. word_of (words ++ w ∷ []) key ≡ Some word) list firsts (key_of w) w (all_still words w list firsts h.first) (new_found words w none);
      }
