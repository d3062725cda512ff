-- A syntax fault has one place.
use Rattle.std.proofs.Common.{◌≡◌, ◌≤◌, ◌<◌, ◌+◌, ℕ, zero, suc, List, [], ◌∷◌, ◌++◌, length, take, drop, refl, sym, ◌∙◌, ap, subst, arith, append_assoc}
use Rattle.std.specs.Prelude.{Option, Some, None, MatchOption}
use Rattle.std.proofs.lemmas.List.{take-append-drop}
use Rattle.ipdl_base.specs.declared.finding.Place.{Place}
use Rattle.ipdl_base.specs.declared.token.Token.{Token}
use Rattle.ipdl_syntax.specs.declared.tree.FileKind.{FileKind}
use Rattle.ipdl_syntax.specs.Program.{Tree}
use Rattle.ipdl_parse.specs.Place.{GoesOn, IsSyntaxPlace, IsPlaceAt}

-- the first elements of a prefix are the first of the list
first_of_first : (tokens : List Token) (i j : ℕ) → i ≤ j → take i (take j tokens) ≡ take i tokens
first_of_first tokens zero j le = refl
first_of_first tokens (suc i) zero le = absurd (let no : ⊥ = omega arith in no)
first_of_first [] (suc i) (suc j) le = refl
first_of_first (t ∷ tokens) (suc i) (suc j) le = ap (λ ts. t ∷ ts) (first_of_first tokens i j (omega arith))

-- a prefix of tokens that continue to a file continues to it
shorter : (kind : FileKind) (tokens : List Token) (i j : ℕ) → i ≤ j → GoesOn kind (take j tokens) → GoesOn kind (take i tokens)
shorter kind tokens i j le (more, (unit, tree)) =
    let between : List Token = drop i (take j tokens) in
    let seam : take j tokens ≡ take i tokens ++ between = sym (take-append-drop i (take j tokens)) ∙ ap (λ ts. ts ++ between) (first_of_first tokens i j le) in
    let whole : take j tokens ++ more ≡ take i tokens ++ (between ++ more) = ap (λ ts. ts ++ more) seam ∙ append_assoc (take i tokens) between more in
    (between ++ more, (unit, subst (λ (ts : List Token). Tree kind ts unit) whole tree))

-- the longest prefix is not shorter than another
not_below : (kind : FileKind) (tokens : List Token) (i j : ℕ) → IsSyntaxPlace kind tokens i → IsSyntaxPlace kind tokens j → ¬ (i < j)
not_below kind tokens i j p q lt =
    let within : j ≤ length tokens = q.within in
    p.longest (omega arith) (shorter kind tokens (i + 1) j (omega arith) q.goes_on)

-- so there is one longest prefix
one_index : (kind : FileKind) (tokens : List Token) (i j : ℕ) → IsSyntaxPlace kind tokens i → IsSyntaxPlace kind tokens j → i ≡ j
one_index kind tokens i j p q =
    let one : i < j → ⊥ = not_below kind tokens i j p q in
    let other : j < i → ⊥ = not_below kind tokens j i q p in
    omega (arith, one, other)

-- a token has one place, and the end has one place
one_place : (found : Option Token) (end a b : Place) → MatchOption found (a ≡ end) (λ t. a ≡ t.place) → MatchOption found (b ≡ end) (λ t. b ≡ t.place) → a ≡ b
one_place None end a b p q = p ∙ sym q
one_place (Some t) end a b p q = p ∙ sym q

-- two syntax faults of tokens have one place
pub one_syntax_place : (kind : FileKind) (tokens : List Token) (end a b : Place) (i j : ℕ) → IsSyntaxPlace kind tokens i → IsSyntaxPlace kind tokens j → IsPlaceAt tokens end i a → IsPlaceAt tokens end j b → a ≡ b
one_syntax_place kind tokens end a b i j p q here there =
    let index : j ≡ i = one_index kind tokens j i q p in
    one_place _ end a b here (subst (λ (n : ℕ). IsPlaceAt tokens end n b) index there)
