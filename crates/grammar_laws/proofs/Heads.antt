-- What comes first in a text, and tests on it.
use Rattle.std.proofs.Common.{◌≡◌, ℕ, Bool, true, false, ◌||◌, ◌&&◌, List, [], ◌∷◌, refl, sym, subst}
use Rattle.std.proofs.Math.Bool.{not}
use Rattle.std.specs.Str.{bytes_eq}
use Rattle.std.proofs.lemmas.Slice.Eq.{bytes_eq-Decides}
use Rattle.ipdl_base.specs.declared.token.Token.{Token}
use Rattle.ipdl_base.specs.declared.token.TokenKind.{TokenKind}
use Rattle.ipdl_base.specs.declared.token.TokenKind.TheVariants as kind

-- what comes first: nothing, or a token of this kind and this text
pub data Head : Type 0 where
  no_head : Head
  a_head : TokenKind → List ℕ → Head

-- what comes first in these tokens
abbrev pub head_of : List Token → Head
head_of [] = no_head
head_of (t ∷ rest) = a_head t.kind t.text

-- a test on what comes first
abbrev pub Test : Type 0
Test = Head → Bool

-- what comes first passes a test
abbrev pub Holds : Test → List Token → Type 0
Holds test tokens = test (head_of tokens) ≡ true

-- the test that all pass
abbrev pub always : Test
always h = true

-- whether what comes first fails a test
abbrev pub opposite : Test → Test
opposite test h = not (test h)

-- whether no token is there
abbrev pub is_end : Test
is_end no_head = true
is_end (a_head k text) = false

-- whether what comes first is a word that is not reserved
abbrev pub is_word : Test
is_word (a_head kind.Word text) = true
is_word _ = false

-- whether what comes first is the mark of this text
abbrev pub is_mark : List ℕ → Test
is_mark text (a_head kind.Mark other) = bytes_eq other text
is_mark text _ = false

-- whether what comes first is the reserved word of this text
abbrev pub is_reserved : List ℕ → Test
is_reserved text (a_head kind.Reserved other) = bytes_eq other text
is_reserved text _ = false

-- a mark passes each test that its text passes
pub of_mark : (text : List ℕ) (test : Test) → test (a_head kind.Mark text) ≡ true → (h : Head) → is_mark text h ≡ true → test h ≡ true
of_mark text test e (a_head kind.Mark other) is = subst (λ (x : List ℕ). test (a_head kind.Mark x) ≡ true) (sym ((bytes_eq-Decides other text).0 is)) e
of_mark text test e _ is = absurd (cc)

-- a reserved word passes each test that its text passes
pub of_reserved : (text : List ℕ) (test : Test) → test (a_head kind.Reserved text) ≡ true → (h : Head) → is_reserved text h ≡ true → test h ≡ true
of_reserved text test e (a_head kind.Reserved other) is = subst (λ (x : List ℕ). test (a_head kind.Reserved x) ≡ true) (sym ((bytes_eq-Decides other text).0 is)) e
of_reserved text test e _ is = absurd (cc)

-- a word passes each test that all words pass
pub of_word : (test : Test) → ((text : List ℕ) → test (a_head kind.Word text) ≡ true) → (h : Head) → is_word h ≡ true → test h ≡ true
of_word test e (a_head kind.Word text) is = e text
of_word test e _ is = absurd (cc)

-- where both of two tests are passed, each is
pub both_true : (a b : Bool) → (a && b) ≡ true → (a ≡ true) × (b ≡ true)
both_true true b e = (refl, e)
both_true false b e = absurd (cc)

-- if one of two tests is passed, a conclusion from each of them holds
pub either_true : (a b : Bool) (C : Type 0) → (a || b) ≡ true → (a ≡ true → C) → (b ≡ true → C) → C
either_true true b C e f g = f refl
either_true false b C e f g = g e

-- no test is passed and not passed
pub not_both : (a : Bool) → a ≡ true → not a ≡ true → ⊥
not_both true e n = cc
not_both false e n = cc
