-- Positions on a list of distinct elements, after one more is appended, and after one has left.
use Rattle.std.proofs.Common.{◌≡◌, ◌≢◌, ◌⊎◌, inl, inr, Bool, true, false, not, cond, ◌+◌, List, [], ◌∷◌, ◌++◌, length, Option, Some, None, is_some, refl, sym, ap, ◌∙◌, subst, true≢false, arith}
use Rattle.std.proofs.lemmas.Bool.{cases_Bool}
use Rattle.linked_lists.specs.Neighbours.{IsTest, IsIn, AreDistinct, is_the, head, last_with, last, after, before_with, before, omit}

module _ {A : Type 0} where
  pub head-in : (xs : List A) (j : A) → head xs ≡ Some j → IsIn j xs
  head-in [] j e = cc
  head-in (x ∷ xs) j e = inl cc

  pub last-in : (p : Option A) (xs : List A) (j : A) → last_with p xs ≡ Some j → (p ≡ Some j) ⊎ IsIn j xs
  last-in p [] j e = inl e
  last-in p (x ∷ xs) j e = elim (last-in (Some x) xs j e) [ inl f ↦ inr (inl cc) | inr h ↦ inr (inr h) ]

  pub last-some : (x : A) (xs : List A) → is_some (last_with (Some x) xs) ≡ true
  last-some x [] = refl
  last-some x (y ∷ xs) = last-some y xs

  pub head-push : (xs : List A) (x : A) → head (xs ++ x ∷ []) ≡ cond (is_some (last xs)) (head xs) (Some x)
  head-push [] x = refl
  head-push (y ∷ ys) x = ap (λ v. cond v (Some y) (Some x)) (sym (last-some y ys))

  pub last-push : (p : Option A) (xs : List A) (x : A) → last_with p (xs ++ x ∷ []) ≡ Some x
  last-push p [] x = refl
  last-push p (y ∷ ys) x = last-push (Some y) ys x

  last-omit-here : (p : Option A) (y : A) (ys : List A) → last_with p ys ≡ cond (is_some (head ys)) (last_with (Some y) ys) p
  last-omit-here p y [] = refl
  last-omit-here p y (z ∷ zs) = refl

  pub in-append : (x : A) (xs ys : List A) → IsIn x (xs ++ ys) → IsIn x xs ⊎ IsIn x ys
  in-append x [] ys h = inr h
  in-append x (z ∷ xs) ys (inl e) = inl (inl e)
  in-append x (z ∷ xs) ys (inr h) = elim (in-append x xs ys h) [ inl q ↦ inl (inr q) | inr q ↦ inr q ]

  pub distinct-push : (xs : List A) (x : A) → AreDistinct xs → (IsIn x xs → ⊥) → AreDistinct (xs ++ x ∷ [])
  distinct-push [] x o n = (λ h. h, tt)
  distinct-push (y ∷ xs) x o n = (
    (λ h. elim (in-append y xs (x ∷ []) h) [ inl q ↦ o.0 q | inr q ↦ elim q [ inl e ↦ n (inl (sym e)) | inr r ↦ absurd r ] ]),
    distinct-push xs x o.1 (λ h. n (inr h)),
  )

  pub last-of-in : (xs : List A) (x : A) → last xs ≡ Some x → IsIn x xs
  last-of-in xs x e = elim (last-in None xs x e) [ inl f ↦ cc | inr h ↦ h ]

module _ {A : Type 0} {eq : A → A → Bool} (d : IsTest eq) where
  pub same : (x y : A) → x ≡ y → eq x y ≡ true
  same x y e = (d x y).1 e

  pub other : (x y : A) → x ≢ y → eq x y ≡ false
  other x y n = elim (cases_Bool (eq x y)) [ inl t ↦ absurd (n ((d x y).0 t)) | inr f ↦ f ]

  pub same_or_other : (x y : A) → (x ≡ y) ⊎ (x ≢ y)
  same_or_other x y =
      elim (cases_Bool (eq x y)) [ inl t ↦ inl ((d x y).0 t) | inr f ↦ inr (λ e. true≢false (sym (same x y e) ∙ f)) ]

  -- ---- one step of each

  pub after-same : (i x : A) (xs : List A) → x ≡ i → after eq i (x ∷ xs) ≡ head xs
  after-same i x xs e = ap (λ v. cond v (head xs) (after eq i xs)) (same x i e)

  pub after-other : (i x : A) (xs : List A) → x ≢ i → after eq i (x ∷ xs) ≡ after eq i xs
  after-other i x xs n = ap (λ v. cond v (head xs) (after eq i xs)) (other x i n)

  pub before-same : (p : Option A) (i x : A) (xs : List A) → x ≡ i → before_with eq p i (x ∷ xs) ≡ p
  before-same p i x xs e = ap (λ v. cond v p (before_with eq (Some x) i xs)) (same x i e)

  pub before-other : (p : Option A) (i x : A) (xs : List A) → x ≢ i → before_with eq p i (x ∷ xs) ≡ before_with eq (Some x) i xs
  before-other p i x xs n = ap (λ v. cond v p (before_with eq (Some x) i xs)) (other x i n)

  pub omit-same : (i x : A) (xs : List A) → x ≡ i → omit eq i (x ∷ xs) ≡ omit eq i xs
  omit-same i x xs e = ap (λ v. cond (not v) (x ∷ omit eq i xs) (omit eq i xs)) (same x i e)

  pub omit-other : (i x : A) (xs : List A) → x ≢ i → omit eq i (x ∷ xs) ≡ x ∷ omit eq i xs
  omit-other i x xs n = ap (λ v. cond (not v) (x ∷ omit eq i xs) (omit eq i xs)) (other x i n)

  -- ---- who is where

  pub is_the-same : (o : Option A) (i : A) → o ≡ Some i → is_the eq o i ≡ true
  is_the-same o i e = ap (λ v. is_the eq v i) e ∙ same i i refl

  pub is_the-other : (o : Option A) (i : A) → (o ≡ Some i → ⊥) → is_the eq o i ≡ false
  is_the-other None i n = refl
  is_the-other (Some j) i n = other j i (λ e. n (ap Some e))

  pub after-in : (i : A) (xs : List A) (j : A) → after eq i xs ≡ Some j → IsIn j xs
  after-in i [] j e = cc
  after-in i (x ∷ xs) j e =
      elim (same_or_other x i) [
        | inl f ↦ inr (head-in xs j (sym (after-same i x xs f) ∙ e))
        | inr n ↦ inr (after-in i xs j (sym (after-other i x xs n) ∙ e))
      ]

  pub before-in : (p : Option A) (i : A) (xs : List A) (j : A) → before_with eq p i xs ≡ Some j → (p ≡ Some j) ⊎ IsIn j xs
  before-in p i [] j e = cc
  before-in p i (x ∷ xs) j e =
      elim (same_or_other x i) [
        | inl f ↦ inl (sym (before-same p i x xs f) ∙ e)
        | inr n ↦ elim (before-in (Some x) i xs j (sym (before-other p i x xs n) ∙ e)) [ inl f ↦ inr (inl cc) | inr h ↦ inr (inr h) ]
      ]

  pub after-none : (i : A) (xs : List A) → (IsIn i xs → ⊥) → after eq i xs ≡ None
  after-none i [] n = refl
  after-none i (x ∷ xs) n = after-other i x xs (λ e. n (inl e)) ∙ after-none i xs (λ h. n (inr h))

  pub before-none : (p : Option A) (i : A) (xs : List A) → (IsIn i xs → ⊥) → before_with eq p i xs ≡ None
  before-none p i [] n = refl
  before-none p i (x ∷ xs) n = before-other p i x xs (λ e. n (inl e)) ∙ before-none (Some x) i xs (λ h. n (inr h))

  -- the element before is the one before the list, or one of the list, whatever is before the list
  pub before-cases : (i : A) (xs : List A) → IsIn i xs → ((p : Option A) → before_with eq p i xs ≡ p) ⊎ ((j : A) × IsIn j xs × ((p : Option A) → before_with eq p i xs ≡ Some j))
  before-cases i [] h = absurd h
  before-cases i (x ∷ xs) h =
      elim (same_or_other x i) [
        | inl e ↦ inl (λ p. before-same p i x xs e)
        | inr n ↦ (let k : IsIn i xs = elim h [ inl e ↦ absurd (n e) | inr k ↦ k ] in
            elim (before-cases i xs k) [
              | inl all ↦ inr (x, inl refl, λ p. before-other p i x xs n ∙ all (Some x))
              | inr q ↦ inr (q.0, inr q.1, λ p. before-other p i x xs n ∙ q.2 (Some x))
            ])
      ]

  -- ---- one more at the end

  is_the-last_prior : (i y : A) (ys : List A) → y ≢ i → is_the eq (last_with (Some y) ys) i ≡ is_the eq (last ys) i
  is_the-last_prior i y [] n = other y i n
  is_the-last_prior i y (z ∷ zs) n = refl

  after-push-here : (i y x : A) (ys : List A) → y ≡ i → (IsIn y ys → ⊥) → head (ys ++ x ∷ []) ≡ cond (is_the eq (last_with (Some y) ys) i) (Some x) (head ys)
  after-push-here i y x [] e n = ap (λ v. cond v (Some x) None) (sym (same y i e))
  after-push-here i y x (z ∷ zs) e n =
      ap (λ v. cond v (Some x) (Some z)) (sym (is_the-other (last_with (Some z) zs) i (λ f. n (elim (last-in None (z ∷ zs) i f) [ inl g ↦ cc | inr h ↦ subst (λ v. IsIn v (z ∷ zs)) (sym e) h ]))))

  pub after-push : (i x : A) (xs : List A) → i ≢ x → AreDistinct xs → after eq i (xs ++ x ∷ []) ≡ cond (is_the eq (last xs) i) (Some x) (after eq i xs)
  after-push i x [] n o = after-other i x [] (λ e. n (sym e))
  after-push i x (y ∷ ys) n o =
      elim (same_or_other y i) [
        | inl e ↦ after-same i y (ys ++ x ∷ []) e ∙ after-push-here i y x ys e o.0 ∙ ap (λ v. cond (is_the eq (last_with (Some y) ys) i) (Some x) v) (sym (after-same i y ys e))
        | inr m ↦ after-other i y (ys ++ x ∷ []) m ∙ after-push i x ys n o.1
            ∙ ap (λ v. cond v (Some x) (after eq i ys)) (sym (is_the-last_prior i y ys m))
            ∙ ap (λ v. cond (is_the eq (last_with (Some y) ys) i) (Some x) v) (sym (after-other i y ys m))
      ]

  pub after-push-new : (x : A) (xs : List A) → (IsIn x xs → ⊥) → after eq x (xs ++ x ∷ []) ≡ None
  after-push-new x [] n = after-same x x [] refl
  after-push-new x (y ∷ ys) n = after-other x y (ys ++ x ∷ []) (λ e. n (inl e)) ∙ after-push-new x ys (λ h. n (inr h))

  pub before-push : (p : Option A) (i x : A) (xs : List A) → i ≢ x → before_with eq p i (xs ++ x ∷ []) ≡ before_with eq p i xs
  before-push p i x [] n = before-other p i x [] (λ e. n (sym e))
  before-push p i x (y ∷ ys) n = ap (λ v. cond (eq y i) p v) (before-push (Some y) i x ys n)

  pub before-push-new : (p : Option A) (x : A) (xs : List A) → (IsIn x xs → ⊥) → before_with eq p x (xs ++ x ∷ []) ≡ last_with p xs
  before-push-new p x [] n = before-same p x x [] refl
  before-push-new p x (y ∷ ys) n =
      before-other p x y (ys ++ x ∷ []) (λ e. n (inl e)) ∙ before-push-new (Some y) x ys (λ h. n (inr h))

  -- ---- one less

  pub omit-none : (x : A) (xs : List A) → (IsIn x xs → ⊥) → omit eq x xs ≡ xs
  omit-none x [] n = refl
  omit-none x (y ∷ ys) n = omit-other x y ys (λ e. n (inl e)) ∙ ap (λ v. y ∷ v) (omit-none x ys (λ h. n (inr h)))

  omit-first : (x y : A) (ys : List A) → y ≡ x → AreDistinct (y ∷ ys) → omit eq x (y ∷ ys) ≡ ys
  omit-first x y ys e o = omit-same x y ys e ∙ omit-none x ys (λ h. o.0 (subst (λ v. IsIn v ys) (sym e) h))

  tail-in : (x y : A) (ys : List A) → y ≢ x → IsIn x (y ∷ ys) → IsIn x ys
  tail-in x y ys n h = elim h [ inl e ↦ absurd (n e) | inr k ↦ k ]

  pub head-omit : (x : A) (xs : List A) → AreDistinct xs → IsIn x xs → head (omit eq x xs) ≡ cond (is_some (before eq x xs)) (head xs) (after eq x xs)
  head-omit x [] o h = absurd h
  head-omit x (y ∷ ys) o h =
      elim (same_or_other y x) [
        | inl e ↦ ap head (omit-first x y ys e o) ∙ sym (after-same x y ys e) ∙ ap (λ v. cond (is_some v) (Some y) (after eq x (y ∷ ys))) (sym (before-same None x y ys e))
        | inr n ↦ (let some : is_some (before eq x (y ∷ ys)) ≡ true = elim (before-cases x ys (tail-in x y ys n h)) [
          | inl all ↦ ap is_some (before-other None x y ys n ∙ all (Some y))
          | inr q ↦ ap is_some (before-other None x y ys n ∙ q.2 (Some y))
        ] in
            ap head (omit-other x y ys n) ∙ ap (λ v. cond v (Some y) (after eq x (y ∷ ys))) (sym some))
      ]

  pub last-omit : (p : Option A) (x : A) (xs : List A) → AreDistinct xs → IsIn x xs → last_with p (omit eq x xs) ≡ cond (is_some (after eq x xs)) (last_with p xs) (before_with eq p x xs)
  last-omit p x [] o h = absurd h
  last-omit p x (y ∷ ys) o h =
      elim (same_or_other y x) [
        | inl e ↦ ap (last_with p) (omit-first x y ys e o) ∙ last-omit-here p y ys
            ∙ ap (λ v. cond (is_some v) (last_with (Some y) ys) p) (sym (after-same x y ys e))
            ∙ ap (λ v. cond (is_some (after eq x (y ∷ ys))) (last_with (Some y) ys) v) (sym (before-same p x y ys e))
        | inr n ↦ ap (last_with p) (omit-other x y ys n) ∙ last-omit (Some y) x ys o.1 (tail-in x y ys n h)
            ∙ ap (λ v. cond (is_some v) (last_with (Some y) ys) (before_with eq (Some y) x ys)) (sym (after-other x y ys n))
            ∙ ap (λ v. cond (is_some (after eq x (y ∷ ys))) (last_with (Some y) ys) v) (sym (before-other p x y ys n))
      ]

  -- the element before x, compared with i, which is not the one before the list
  is_the-before_prior : (i x y : A) (ys : List A) → y ≢ i → IsIn x ys → is_the eq (before_with eq (Some y) x ys) i ≡ is_the eq (before eq x ys) i
  is_the-before_prior i x y ys n h =
      elim (before-cases x ys h) [
        | inl all ↦ ap (λ v. is_the eq v i) (all (Some y)) ∙ other y i n ∙ ap (λ v. is_the eq v i) (sym (all None))
        | inr q ↦ ap (λ v. is_the eq v i) (q.2 (Some y) ∙ sym (q.2 None))
      ]

  after-omit-here : (i x y : A) (ys : List A) → y ≡ i → AreDistinct (y ∷ ys) → IsIn x ys → head (omit eq x ys) ≡ cond (is_the eq (before_with eq (Some y) x ys) i) (after eq x ys) (head ys)
  after-omit-here i x y ys e o h =
      head-omit x ys o.1 h ∙ elim (before-cases x ys h) [
        | inl all ↦ ap (λ v. cond (is_some v) (head ys) (after eq x ys)) (all None) ∙ ap (λ v. cond v (after eq x ys) (head ys)) (sym (is_the-same (before_with eq (Some y) x ys) i (all (Some y) ∙ ap Some e)))
        | inr q ↦ ap (λ v. cond (is_some v) (head ys) (after eq x ys)) (q.2 None)
            ∙ ap (λ v. cond v (after eq x ys) (head ys)) (sym (is_the-other (before_with eq (Some y) x ys) i (λ f. o.0 (let g : q.0 ≡ y = (let k = sym (q.2 (Some y)) ∙ f ∙ ap Some (sym e) in cc) in subst (λ v. IsIn v ys) g q.1))))
      ]

  pub after-omit : (i x : A) (xs : List A) → i ≢ x → AreDistinct xs → IsIn x xs → after eq i (omit eq x xs) ≡ cond (is_the eq (before eq x xs) i) (after eq x xs) (after eq i xs)
  after-omit i x [] n o h = absurd h
  after-omit i x (y ∷ ys) n o h =
      elim (same_or_other y x) [
        | inl e ↦ (let m : y ≢ i = λ f. n (sym f ∙ e) in
            ap (after eq i) (omit-first x y ys e o) ∙ sym (after-other i y ys m)
            ∙ ap (λ v. cond (is_the eq v i) (after eq x (y ∷ ys)) (after eq i (y ∷ ys))) (sym (before-same None x y ys e)))
        | inr m ↦ (let k = tail-in x y ys m h in
            ap (after eq i) (omit-other x y ys m) ∙ elim (same_or_other y i) [
              | inl e ↦ after-same i y (omit eq x ys) e ∙ after-omit-here i x y ys e o k
                  ∙ ap (λ v. cond (is_the eq (before_with eq (Some y) x ys) i) v (head ys)) (sym (after-other x y ys m))
                  ∙ ap (λ v. cond (is_the eq (before_with eq (Some y) x ys) i) (after eq x (y ∷ ys)) v) (sym (after-same i y ys e))
                  ∙ ap (λ v. cond (is_the eq v i) (after eq x (y ∷ ys)) (after eq i (y ∷ ys))) (sym (before-other None x y ys m))
              | inr l ↦ after-other i y (omit eq x ys) l ∙ after-omit i x ys n o.1 k
                  ∙ ap (λ v. cond v (after eq x ys) (after eq i ys)) (sym (is_the-before_prior i x y ys l k))
                  ∙ ap (λ v. cond (is_the eq (before_with eq (Some y) x ys) i) v (after eq i ys)) (sym (after-other x y ys m))
                  ∙ ap (λ v. cond (is_the eq (before_with eq (Some y) x ys) i) (after eq x (y ∷ ys)) v) (sym (after-other i y ys l))
                  ∙ ap (λ v. cond (is_the eq v i) (after eq x (y ∷ ys)) (after eq i (y ∷ ys))) (sym (before-other None x y ys m))
            ])
      ]

  before-omit-here : (p : Option A) (i y : A) (ys : List A) → before_with eq p i ys ≡ cond (is_the eq (head ys) i) p (before_with eq (Some y) i ys)
  before-omit-here p i y [] = refl
  before-omit-here p i y (z ∷ zs) =
      elim (same_or_other z i) [
        | inl e ↦ before-same p i z zs e ∙ ap (λ v. cond v p (before_with eq (Some y) i (z ∷ zs))) (sym (same z i e))
        | inr n ↦ before-other p i z zs n ∙ sym (before-other (Some y) i z zs n) ∙ ap (λ v. cond v p (before_with eq (Some y) i (z ∷ zs))) (sym (other z i n))
      ]

  pub before-omit : (p : Option A) (i x : A) (xs : List A) → i ≢ x → AreDistinct xs → IsIn x xs → before_with eq p i (omit eq x xs) ≡ cond (is_the eq (after eq x xs) i) (before_with eq p x xs) (before_with eq p i xs)
  before-omit p i x [] n o h = absurd h
  before-omit p i x (y ∷ ys) n o h =
      elim (same_or_other y x) [
        | inl e ↦ (let m : y ≢ i = λ f. n (sym f ∙ e) in
            ap (before_with eq p i) (omit-first x y ys e o) ∙ before-omit-here p i y ys
            ∙ ap (λ v. cond (is_the eq (head ys) i) p v) (sym (before-other p i y ys m))
            ∙ ap (λ v. cond (is_the eq (head ys) i) v (before_with eq p i (y ∷ ys))) (sym (before-same p x y ys e))
            ∙ ap (λ v. cond (is_the eq v i) (before_with eq p x (y ∷ ys)) (before_with eq p i (y ∷ ys))) (sym (after-same x y ys e)))
        | inr m ↦ (let k = tail-in x y ys m h in
            ap (before_with eq p i) (omit-other x y ys m) ∙ elim (same_or_other y i) [
              | inl e ↦ before-same p i y (omit eq x ys) e ∙ sym (before-same p i y ys e)
                  ∙ ap (λ v. cond v (before_with eq p x (y ∷ ys)) (before_with eq p i (y ∷ ys))) (sym (is_the-other (after eq x (y ∷ ys)) i (λ f. o.0 (subst (λ v. IsIn v ys) (sym e) (after-in x ys i (sym (after-other x y ys m) ∙ f))))))
              | inr l ↦ before-other p i y (omit eq x ys) l ∙ before-omit (Some y) i x ys n o.1 k
                  ∙ ap (λ v. cond (is_the eq (after eq x ys) i) v (before_with eq (Some y) i ys)) (sym (before-other p x y ys m))
                  ∙ ap (λ v. cond (is_the eq (after eq x ys) i) (before_with eq p x (y ∷ ys)) v) (sym (before-other p i y ys l))
                  ∙ ap (λ v. cond (is_the eq v i) (before_with eq p x (y ∷ ys)) (before_with eq p i (y ∷ ys))) (sym (after-other x y ys m))
            ])
      ]

  -- an element that is left was there, and is not the one that left
  pub omit-in : (x j : A) (xs : List A) → IsIn j (omit eq x xs) → IsIn j xs × (j ≢ x)
  omit-in x j [] h = absurd h
  omit-in x j (y ∷ ys) h =
      elim (same_or_other y x) [
        | inl e ↦ (let k = omit-in x j ys (subst (IsIn j) (omit-same x y ys e) h) in (inr k.0, k.1))
        | inr n ↦ elim (subst (IsIn j) (omit-other x y ys n) h) [
          | inl f ↦ (inl f, λ g. n (f ∙ g))
          | inr k ↦ (let r = omit-in x j ys k in (inr r.0, r.1))
        ]
      ]

  pub distinct-omit : (x : A) (xs : List A) → AreDistinct xs → AreDistinct (omit eq x xs)
  distinct-omit x [] o = tt
  distinct-omit x (y ∷ ys) o =
      elim (same_or_other y x) [
        | inl e ↦ subst AreDistinct (sym (omit-same x y ys e)) (distinct-omit x ys o.1)
        | inr n ↦ subst AreDistinct (sym (omit-other x y ys n)) (λ h. o.0 (omit-in x y ys h).0, distinct-omit x ys o.1)
      ]

  pub length-omit : (x : A) (xs : List A) → AreDistinct xs → IsIn x xs → length (omit eq x xs) + 1 ≡ length xs
  length-omit x [] o h = absurd h
  length-omit x (y ∷ ys) o h =
      elim (same_or_other y x) [
        | inl e ↦ omega (arith, ap length (omit-first x y ys e o))
        | inr n ↦ omega (arith, ap length (omit-other x y ys n), length-omit x ys o.1 (tail-in x y ys n h))
      ]

  pub before-of-in : (i : A) (xs : List A) (j : A) → before eq i xs ≡ Some j → IsIn j xs
  before-of-in i xs j e = elim (before-in None i xs j e) [ inl f ↦ cc | inr h ↦ h ]
