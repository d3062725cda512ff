-- Bytes that follow one after another, each as a function finds it.
use Rattle.std.proofs.Common.{◌≡◌, ℕ, List, [], ◌∷◌, ◌++◌, Option, Some, None, unwrap_or, refl, sym, ap, subst, ◌∙◌}
use Rattle.std.proofs.lemmas.Option.{none-some}
use Rattle.script_reader.specs.Tokens.{hex_at, character_at, InSequence, InQuotes}

-- these bytes have been found, and this is what is left
pub record Reached (at : List ℕ → Option (ℕ × List ℕ)) (done : List ℕ) (from to : List ℕ) : Type 0 where
  pub found : InSequence at done from to

pub Reached-none : (at : List ℕ → Option (ℕ × List ℕ)) (done from to : List ℕ) → done ≡ [] → to ≡ from → Reached at done from to
Reached-none at [] from to e same = record { found = sym same }
Reached-none at (b ∷ bs) from to e same = absurd (let x : ⊥ = cc in x)

in_sequence-push : (at : List ℕ → Option (ℕ × List ℕ)) (done : List ℕ) (b : ℕ) (from middle to : List ℕ) → InSequence at done from middle → at middle ≡ Some (b, to) → InSequence at (done ++ b ∷ []) from to
in_sequence-push at [] b from middle to s found = (to, ap at s ∙ found, refl)
in_sequence-push at (c ∷ done) b from middle to s found = (s.0, s.1, in_sequence-push at done b s.0 middle to s.2 found)

pub Reached-next : (at : List ℕ → Option (ℕ × List ℕ)) (done more : List ℕ) (b : ℕ) (from middle to : List ℕ) → Reached at done from middle → at middle ≡ Some (b, to) → more ≡ done ++ b ∷ [] → Reached at more from to
Reached-next at done more b from middle to r found e = rw e (record { found = in_sequence-push at done b from middle to r.found found })

-- there is one way, as far as nothing more is found
pub one_sequence : (at : List ℕ → Option (ℕ × List ℕ)) (xs ys from to end : List ℕ) → InSequence at xs from to → InSequence at ys from end → at to ≡ None → at end ≡ None → (xs ≡ ys) × (to ≡ end)
one_sequence at [] [] from to end s u x y = (refl, sym s ∙ u)
one_sequence at [] (b ∷ ys) from to end s u x y = absurd (none-some _ (sym x ∙ ap at (sym s) ∙ u.1))
one_sequence at (a ∷ xs) [] from to end s u x y = absurd (none-some _ (sym y ∙ ap at (sym u) ∙ s.1))
one_sequence at (a ∷ xs) (b ∷ ys) from to end s u x y =
    let both : Some (a, s.0) ≡ Some (b, u.0) = sym s.1 ∙ u.1 in
    let head : a ≡ b = ap (λ (o : Option (ℕ × List ℕ)). (unwrap_or o (0, [])).0) both in
    let middle : s.0 ≡ u.0 = ap (λ (o : Option (ℕ × List ℕ)). (unwrap_or o (0, [])).1) both in
    let P : List ℕ → Type 0 = λ m. InSequence at xs m to in
    let rest = one_sequence at xs ys u.0 to end (subst P middle s.2) u.2 x y in
    (ap (λ c. c ∷ xs) head ∙ ap (λ l. b ∷ l) rest.0, rest.1)

-- a quote begins neither a byte of a text nor two digits
pub quote_no_character : (to : List ℕ) → character_at (34 ∷ to) ≡ None
quote_no_character to = refl

pub quote_no_digits : (to : List ℕ) → hex_at (34 ∷ to) ≡ None
quote_no_digits [] = refl
quote_no_digits (b ∷ to) = refl

-- if the bytes end without a quote, there are no bytes in quotes
pub none_in_quotes : (at : List ℕ → Option (ℕ × List ℕ)) (done from rest : List ℕ) → ((to : List ℕ) → at (34 ∷ to) ≡ None) → Reached at done from rest → at rest ≡ None → ((to : List ℕ) → ¬ (rest ≡ 34 ∷ to)) → (bytes to : List ℕ) → ¬ InQuotes at bytes from to
none_in_quotes at done from rest quote r ends none bytes to s =
    none to ((one_sequence at done bytes from rest (34 ∷ to) r.found s ends (quote to)).1)

-- and there is one way
pub one_in_quotes : (at : List ℕ → Option (ℕ × List ℕ)) (xs ys from to end : List ℕ) → ((to : List ℕ) → at (34 ∷ to) ≡ None) → InQuotes at xs from to → InQuotes at ys from end → (xs ≡ ys) × (to ≡ end)
one_in_quotes at xs ys from to end quote s u =
    let e = one_sequence at xs ys from (34 ∷ to) (34 ∷ end) s u (quote to) (quote end) in
    let same : 34 ∷ to ≡ 34 ∷ end = e.1 in
    let rest : to ≡ end = cc in
    (e.0, rest)
