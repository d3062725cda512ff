-- The first place of a key among names.
use Rattle.std.proofs.Common.{◌≡◌, ◌⊎◌, inl, inr, ℕ, zero, suc, ◌+◌, ◌<◌, true, false, List, [], ◌∷◌, ◌++◌, length, refl, sym, ◌∙◌, ap, subst, arith, get_or}
use Rattle.std.specs.Prelude.{Some, slice_get, position, if◌then◌else◌}
use Rattle.std.specs.List.{Contains, list_any}
use Rattle.std.proofs.lemmas.List.{get_or_at, length-append}
use Rattle.std.proofs.lemmas.List.Quantifiers.{position-Some}
use Rattle.std.proofs.lemmas.Option.{slice_get-get_or}
use Rattle.std.proofs.lemmas.Bool.{true≢false}
use Rattle.include_graph.specs.Keys.{is_same}
use Rattle.include_graph.specs.Reach.{first_place}
use Rattle.ipdl_base.proofs.Ends.{by_test, same_is, is_itself}
use Rattle.include_graph.proofs.Ends.{other_is}

-- an element of a list that is not its head is in its tail
pub in_tail : (x : List ℕ) (xs : List (List ℕ)) (k : List ℕ) → Contains (x ∷ xs) k → ¬ (x ≡ k) → Contains xs k
in_tail x xs k (zero, below, is) differ = absurd (differ is)
in_tail x xs k (suc i, below, is) differ = (i, omega arith, is)

pub in_head : (x : List ℕ) (xs : List (List ℕ)) → Contains (x ∷ xs) x
in_head x xs = (0, omega arith, refl)

pub in_more : (x : List ℕ) (xs : List (List ℕ)) (k : List ℕ) → Contains xs k → Contains (x ∷ xs) k
in_more x xs k (i, below, is) = (suc i, omega arith, is)

pub in_none : (k : List ℕ) → ¬ Contains [] k
in_none k (i, below, is) = omega arith

-- whether a key is among others
pub among : (xs : List (List ℕ)) (k : List ℕ) → list_any (is_same k) xs ≡ true → Contains xs k
among [] k h = absurd (true≢false (sym h))
among (x ∷ xs) k h = by_test (is_same k x)
    (λ e. subst (Contains (x ∷ xs)) (sym (same_is k x e)) (in_head x xs))
    (λ e. in_more x xs k (among xs k (rw e at h)))

pub is_among : (xs : List (List ℕ)) (k : List ℕ) → Contains xs k → list_any (is_same k) xs ≡ true
is_among [] k c = absurd (in_none k c)
is_among (x ∷ xs) k c = by_test (is_same k x)
    (λ e. rw e refl)
    (λ e. rw e (is_among xs k (in_tail x xs k c (λ h. other_is k x e (sym h)))))

pub not_among : (xs : List (List ℕ)) (k : List ℕ) → list_any (is_same k) xs ≡ false → ¬ Contains xs k
not_among xs k h c = true≢false (sym (is_among xs k c) ∙ h)

pub found_or_not : (xs : List (List ℕ)) (k : List ℕ) → Contains xs k ⊎ (¬ Contains xs k)
found_or_not xs k = by_test (list_any (is_same k) xs) (λ e. inl (among xs k e)) (λ e. inr (not_among xs k e))

-- the first place of a named key stays, whatever is named later
pub place_append : (named more : List (List ℕ)) (k : List ℕ) → Contains named k → first_place (named ++ more) k ≡ first_place named k
place_append [] more k c = absurd (in_none k c)
place_append (x ∷ xs) more k c = by_test (is_same x k)
    (λ e. rw e refl)
    (λ e. rw e (ap (λ n. 1 + n) (place_append xs more k (in_tail x xs k c (other_is x k e)))))

pub place_within : (named : List (List ℕ)) (k : List ℕ) → Contains named k → first_place named k < length named
place_within [] k c = absurd (in_none k c)
place_within (x ∷ xs) k c = by_test (is_same x k)
    (λ e. rw e (omega arith))
    (λ e. let h = place_within xs k (in_tail x xs k c (other_is x k e)) in rw e (omega arith))

-- a key that was not named before has its first place after the named ones
pub place_new : (named more : List (List ℕ)) (k : List ℕ) → ¬ Contains named k → first_place (named ++ k ∷ more) k ≡ length named
place_new [] more k fresh = rw (is_itself k) refl
place_new (x ∷ xs) more k fresh = by_test (is_same x k)
    (λ e. absurd (fresh (subst (Contains (x ∷ xs)) (same_is x k e) (in_head x xs))))
    (λ e. let h = place_new xs more k (λ c. fresh (in_more x xs k c)) in rw e (omega arith))

-- two named keys have the same first place only if they are the same
pub place_one : (named : List (List ℕ)) (k l : List ℕ) → Contains named k → Contains named l → first_place named k ≡ first_place named l → k ≡ l
place_one [] k l c d same = absurd (in_none k c)
place_one (x ∷ xs) k l c d same = by_test (is_same x k)
    (λ e. by_test (is_same x l)
    (λ f. sym (same_is x k e) ∙ same_is x l f)
    (λ f. let g : 0 ≡ 1 + first_place xs l = rw f at (rw e at same) in absurd (omega arith)))
    (λ e. by_test (is_same x l)
    (λ f. let g : 1 + first_place xs k ≡ 0 = rw f at (rw e at same) in absurd (omega arith))
    (λ f.
    let g : 1 + first_place xs k ≡ 1 + first_place xs l = rw f at (rw e at same) in
    place_one xs k l (in_tail x xs k c (other_is x k e)) (in_tail x xs l d (other_is x l f)) (omega arith)))

-- the key is at its position
pub at_position : (keys : List (List ℕ)) (k : List ℕ) (n : ℕ) → position (is_same k) keys ≡ Some n → slice_get keys n ≡ Some k
at_position keys k n e =
    let p = position-Some (is_same k) keys n k e in
    slice_get-get_or keys n k p.0 ∙ ap Some (sym (same_is k (get_or keys n k) p.1))

-- a new key goes last
pub goes_in : (keys : List (List ℕ)) (k : List ℕ) (n : ℕ) → list_any (is_same k) keys ≡ false → n ≡ length keys → slice_get (if list_any (is_same k) keys then keys else keys ++ k ∷ []) n ≡ Some k
goes_in keys k n fresh size =
    rw fresh (slice_get-get_or (keys ++ k ∷ []) n k (omega (arith, length-append keys (k ∷ []))) ∙ ap Some (get_or_at keys k [] k n (sym size)))

-- an element of a list of one is that one
pub the_one : (x k : List ℕ) → Contains (x ∷ []) k → x ≡ k
the_one x k (zero, below, is) = is
the_one x k (suc i, below, is) = absurd (omega arith)
