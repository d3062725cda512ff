-- What follows the last byte of a kind, byte by byte.
use Rattle.std.proofs.Common.{◌≡◌, ℕ, Bool, true, false, ◌||◌, cond, nat_eq, List, [], ◌∷◌, ◌++◌, refl, ◌∙◌}
use Rattle.std.specs.List.{list_any}
use Rattle.ipdl_base.specs.FileNames.{after_last}
use Rattle.ipdl_base.proofs.Ends.{by_test}

any_push : (p : ℕ → Bool) (xs : List ℕ) (b : ℕ) → list_any p (xs ++ b ∷ []) ≡ list_any p xs || p b
any_push p [] b = by_test (p b) (λ e. rw e refl) (λ e. rw e refl)
any_push p (x ∷ xs) b = by_test (p x) (λ e. rw e refl) (λ e. rw e (any_push p xs b))

or_true : (t : Bool) → (t || true) ≡ true
or_true true = refl
or_true false = refl

or_false : (t : Bool) → (t || false) ≡ t
or_false true = refl
or_false false = refl

-- nothing follows such a byte at the end
pub after_same : (m b : ℕ) (xs : List ℕ) → nat_eq b m ≡ true → after_last m (xs ++ b ∷ []) ≡ []
after_same m b [] e = rw e refl
after_same m b (x ∷ xs) e =
    let any : list_any (λ c. nat_eq c m) (xs ++ b ∷ []) ≡ true = any_push (λ c. nat_eq c m) xs b ∙ rw e (or_true (list_any (λ c. nat_eq c m) xs)) in
    rw any (after_same m b xs e)

split : (m b : ℕ) (x : ℕ) (xs : List ℕ) (t u : Bool) → after_last m (xs ++ b ∷ []) ≡ after_last m xs ++ b ∷ []
    → cond t (after_last m (xs ++ b ∷ [])) (cond u (xs ++ b ∷ []) (x ∷ xs ++ b ∷ [])) ≡ cond t (after_last m xs) (cond u xs (x ∷ xs)) ++ b ∷ []
split m b x xs true u h = h
split m b x xs false true h = refl
split m b x xs false false h = refl

-- after any other byte, one more byte follows
pub after_other : (m b : ℕ) (xs : List ℕ) → nat_eq b m ≡ false → after_last m (xs ++ b ∷ []) ≡ after_last m xs ++ b ∷ []
after_other m b [] e = rw e refl
after_other m b (x ∷ xs) e =
    let any : list_any (λ c. nat_eq c m) (xs ++ b ∷ []) ≡ list_any (λ c. nat_eq c m) xs = any_push (λ c. nat_eq c m) xs b ∙ rw e (or_false (list_any (λ c. nat_eq c m) xs)) in
    rw any (split m b x xs (list_any (λ c. nat_eq c m) xs) (nat_eq x m) (after_other m b xs e))
