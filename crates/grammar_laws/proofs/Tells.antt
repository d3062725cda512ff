-- What follows from a part that is read from good tokens.
use Rattle.std.proofs.Common.{ℕ, inl, inr, List, [], ◌∷◌, ◌++◌, subst}
use Rattle.std.specs.List.{AllByRecursion}
use Rattle.ipdl_base.specs.declared.token.Token.{Token}
use Rattle.ipdl_syntax.specs.Parts.{Part, nothing, ◌⨾◌, either, token, mark, reserved, provided}

-- If the part is read from good tokens, this follows, and the tokens after it are good.
pub record Tells (Good : Token → Type 0) (P : Part) (Told : Type 0) : Type 0 where
  pub tell : (from to : List Token) → P from to → AllByRecursion Good from → Told × AllByRecursion Good to

-- what follows from a conclusion is a conclusion too
pub tells_more : {Good : Token → Type 0} {P : Part} {Told More : Type 0} → (Told → More) → Tells Good P Told → Tells Good P More
tells_more f p = record { tell = λ from to d g. let r = p.tell from to d g in (f r.0, r.1) }

-- no token
pub nothing_tells : {Good : Token → Type 0} {Told : Type 0} → Told → Tells Good nothing Told
nothing_tells {Good} told = record { tell = λ from to e g. (told, subst (AllByRecursion Good) e g) }

-- one good token
pub token_tells : {Good I : Token → Type 0} {Told : Type 0} → ((t : Token) → Good t → I t → Told) → Tells Good (token I) Told
token_tells {Good} {I} {Told} f = record {
  tell = λ from to (t, te, i) g.
      let all : AllByRecursion Good (t ∷ to) = subst (AllByRecursion Good) te g in
      (f t all.0 i, all.1);
}

-- a mark
pub mark_tells : {Good : Token → Type 0} {text : List ℕ} → Tells Good (mark text) (Unit {0})
mark_tells = token_tells (λ t g i. tt)

-- a reserved word
pub reserved_tells : {Good : Token → Type 0} {text : List ℕ} → Tells Good (reserved text) (Unit {0})
reserved_tells = token_tells (λ t g i. tt)

-- one part after the other, where the conclusion from the first is known in the second
pub given_tell : {Good : Token → Type 0} {P Q : Part} {One Two : Type 0} → Tells Good P One → (One → Tells Good Q Two) → Tells Good (P ⨾ Q) (One × Two)
given_tell p f = record {
  tell = λ from to (m, d, e) g.
      let r = p.tell from m d g in
      let s = (f r.0).tell m to e r.1 in
      ((r.0, s.0), s.1);
}

-- one part after the other
pub both_tell : {Good : Token → Type 0} {P Q : Part} {One Two : Type 0} → Tells Good P One → Tells Good Q Two → Tells Good (P ⨾ Q) (One × Two)
both_tell p q = given_tell p (λ told. q)

-- the first of two parts
pub first_tells : {Good : Token → Type 0} {P Q : Part} {One Two : Type 0} → Tells Good P One → Tells Good Q Two → Tells Good (P ⨾ Q) One
first_tells p q = tells_more (λ e. e.0) (both_tell p q)

-- the second
pub next_tells : {Good : Token → Type 0} {P Q : Part} {One Two : Type 0} → Tells Good P One → Tells Good Q Two → Tells Good (P ⨾ Q) Two
next_tells p q = tells_more (λ e. e.1) (both_tell p q)

-- a part under a condition
pub provided_tells : {Good : Token → Type 0} {C : Type 0} {P : Part} {Told : Type 0} → (C → Tells Good P Told) → Tells Good (provided C P) Told
provided_tells f = record { tell = λ from to (c, d) g. (f c).tell from to d g }

-- one part or the other
pub either_tells : {Good : Token → Type 0} {P Q : Part} {Told : Type 0} → Tells Good P Told → Tells Good Q Told → Tells Good (either P Q) Told
either_tells p q = record { tell = λ from to x g. elim x [ inl d ↦ p.tell from to d g | inr d ↦ q.tell from to d g ] }

-- a property of all elements of two lists holds of all elements of both together
pub both_all : {X : Type 0} (P : X → Type 0) (xs ys : List X) → AllByRecursion P xs → AllByRecursion P ys → AllByRecursion P (xs ++ ys)
both_all P [] ys a b = b
both_all P (x ∷ xs) ys a b = (a.0, both_all P xs ys a.1 b)
