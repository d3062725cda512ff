-- Two parts that are read from the same tokens: what follows from that, where they end, and with what they begin.
use Rattle.std.proofs.Common.{◌≡◌, ℕ, true, inl, inr, List, refl, sym, ap, subst, ◌∙◌}
use Rattle.ipdl_base.specs.declared.finding.Place.{Place}
use Rattle.ipdl_base.specs.declared.token.Token.{Token}
use Rattle.ipdl_base.specs.declared.token.TokenKind.{TokenKind}
use Rattle.ipdl_base.specs.declared.token.TokenKind.TheVariants as kind
use Rattle.ipdl_syntax.specs.Parts.{Part, nothing, ◌⨾◌, either, token, mark, reserved, word, identifier, quoted, at, provided}
use Rattle.grammar_laws.proofs.Heads.{Head, a_head, head_of, Test, Holds, always, opposite, not_both}

-- From both parts, read from the same tokens, this follows, and they end at the same place, if what comes after each
-- of them passes the test.
pub record Settles (P Q : Part) (following : Test) (Told : Type 0) : Type 0 where
  pub settle : (from to to' : List Token) → P from to → Q from to' → Holds following to → Holds following to' → Told × (to ≡ to')

-- If what comes after the part passes one test, then its first token passes the other.
pub record Begins (P : Part) (following test : Test) : Type 0 where
  pub begun : (from to : List Token) → P from to → Holds following to → Holds test from

-- after no token, what follows comes first
pub begins_nothing : {following test : Test} → ((h : Head) → following h ≡ true → test h ≡ true) → Begins nothing following test
begins_nothing {following} {test} f = record { begun = λ from to e b. subst (λ (x : List Token). Holds test x) (sym e) (f (head_of to) b) }

-- one token passes each test that follows from what holds of it
pub begins_token : {I : Token → Type 0} {following test : Test} → ((t : Token) → I t → test (a_head t.kind t.text) ≡ true) → Begins (token I) following test
begins_token {I} {following} {test} f = record { begun = λ from to (t, te, i) b. subst (λ (x : List Token). Holds test x) (sym te) (f t i) }

-- a mark passes a test that its text passes
pub begins_mark : {text : List ℕ} {following test : Test} → test (a_head kind.Mark text) ≡ true → Begins (mark text) following test
begins_mark {text} {following} {test} e = begins_token (λ t i. ap (λ (k : TokenKind). test (a_head k t.text)) i.0 ∙ ap (λ (x : List ℕ). test (a_head kind.Mark x)) i.1 ∙ e)

-- the same of a reserved word
pub begins_reserved : {text : List ℕ} {following test : Test} → test (a_head kind.Reserved text) ≡ true → Begins (reserved text) following test
begins_reserved {text} {following} {test} e = begins_token (λ t i. ap (λ (k : TokenKind). test (a_head k t.text)) i.0 ∙ ap (λ (x : List ℕ). test (a_head kind.Reserved x)) i.1 ∙ e)

-- two parts begin with what the first begins with before the second
pub begins_both : {P Q : Part} {middle following test : Test} → Begins P middle test → Begins Q following middle → Begins (P ⨾ Q) following test
begins_both p q = record { begun = λ from to (m, d, e) b. p.begun from m d (q.begun m to e b) }

-- the same where it does not matter what follows the first
pub begins_first : {P Q : Part} {following test : Test} → Begins P always test → Begins (P ⨾ Q) following test
begins_first p = record { begun = λ from to (m, d, e) b. p.begun from m d refl }

-- each part passes the test that all pass
pub begins_always : {P : Part} {following : Test} → Begins P following always
begins_always = record { begun = λ from to d b. refl }

-- a part that begins so before anything begins so before this
pub begins_any : {P : Part} {following test : Test} → Begins P always test → Begins P following test
begins_any p = record { begun = λ from to d b. p.begun from to d refl }

-- what passes a test passes each weaker one
pub begins_more : {P : Part} {following one other : Test} → ((h : Head) → one h ≡ true → other h ≡ true) → Begins P following one → Begins P following other
begins_more f p = record { begun = λ from to d b. f (head_of from) (p.begun from to d b) }

-- a part at a place begins as the part does
pub begins_at : {place : Place} {P : Part} {following test : Test} → Begins P following test → Begins (at place P) following test
begins_at p = record { begun = λ from to (t, rest, te, pe, d) b. p.begun from to d b }

-- the same of a part under a condition
pub begins_provided : {C : Type 0} {P : Part} {following test : Test} → Begins P following test → Begins (provided C P) following test
begins_provided p = record { begun = λ from to (c, d) b. p.begun from to d b }

-- one part or the other passes a test that both pass
pub begins_either : {P Q : Part} {following test : Test} → Begins P following test → Begins Q following test → Begins (either P Q) following test
begins_either a b = record { begun = λ from to x h. elim x [ inl p ↦ a.begun from to p h | inr q ↦ b.begun from to q h ] }

-- what follows from a conclusion is a conclusion too
pub told : {P Q : Part} {following : Test} {Told More : Type 0} → (Told → More) → Settles P Q following Told → Settles P Q following More
told f s = record { settle = λ from to to' d d' b b'. let r = s.settle from to to' d d' b b' in (f r.0, r.1) }

-- no token on both sides
pub nothing_settles : {following : Test} {Told : Type 0} → Told → Settles nothing nothing following Told
nothing_settles told = record { settle = λ from to to' d d' b b'. (told, sym d ∙ d') }

-- one token on both sides is the same token
pub token_settles : {I J : Token → Type 0} {following : Test} {Told : Type 0} → ((t : Token) → I t → J t → Told) → Settles (token I) (token J) following Told
token_settles {I} {J} f = record {
  settle = λ from to to' (t, te, i) (u, ue, j) b b'.
      let same : u ≡ t = cc in
      let there : to ≡ to' = cc in
      (f t i (subst J same j), there);
}

-- one mark on both sides
pub mark_settles : {text : List ℕ} {following : Test} → Settles (mark text) (mark text) following (Unit {0})
mark_settles = token_settles (λ t i j. tt)

-- one reserved word on both sides
pub reserved_settles : {text : List ℕ} {following : Test} → Settles (reserved text) (reserved text) following (Unit {0})
reserved_settles = token_settles (λ t i j. tt)

-- the names of two words are the same
pub word_settles : {w v : List ℕ} {following : Test} → Settles (word w) (word v) following (w ≡ v)
word_settles = token_settles (λ t i j. sym i.1 ∙ j.1)

-- the same of two identifiers, and their places
pub identifier_settles : {w v : List ℕ} {p q : Place} {following : Test} → Settles (identifier w p) (identifier v q) following ((w ≡ v) × (p ≡ q))
identifier_settles = token_settles (λ t i j. (sym i.1 ∙ j.1, sym i.2 ∙ j.2))

-- the same of two quoted texts, and their places
pub quoted_settles : {w v : List ℕ} {p q : Place} {following : Test} → Settles (quoted w p) (quoted v q) following ((w ≡ v) × (p ≡ q))
quoted_settles = token_settles (λ t i j. (sym i.1 ∙ j.1, sym i.2 ∙ j.2))

-- one part after the other, where the token between them passes a test
pub both_settle : {P P' Q Q' : Part} {middle following : Test} {One Two : Type 0} → Settles P P' middle One → Begins Q following middle → Begins Q' following middle → Settles Q Q' following Two → Settles (P ⨾ Q) (P' ⨾ Q') following (One × Two)
both_settle {Q = Q} {Q' = Q'} p q q' s = record {
  settle = λ from to to' (m, d, e) (m', d', e') b b'.
      let r = p.settle from m m' d d' (q.begun m to e b) (q'.begun m' to' e' b') in
      let r' = s.settle m to to' e (subst (λ (x : List Token). Q' x to') (sym r.1) e') b b' in
      ((r.0, r'.0), r'.1);
}

-- the same where it does not matter what follows the first
pub next_settle : {P P' Q Q' : Part} {following : Test} {One Two : Type 0} → Settles P P' always One → Settles Q Q' following Two → Settles (P ⨾ Q) (P' ⨾ Q') following (One × Two)
next_settle p s = both_settle p begins_always begins_always s

-- the same where the conclusion from the first is known in the second
pub next_given : {P P' Q Q' : Part} {following : Test} {One Two : Type 0} → Settles P P' always One → (One → Settles Q Q' following Two) → Settles (P ⨾ Q) (P' ⨾ Q') following (One × Two)
next_given {Q = Q} {Q' = Q'} p f = record {
  settle = λ from to to' (m, d, e) (m', d', e') b b'.
      let r = p.settle from m m' d d' refl refl in
      let r' = (f r.0).settle m to to' e (subst (λ (x : List Token). Q' x to') (sym r.1) e') b b' in
      ((r.0, r'.0), r'.1);
}

-- parts that begin with different tokens are not read from the same ones
pub apart : {P Q : Part} {following : Test} {Told : Type 0} (test : Test) → Begins P following test → Begins Q following (opposite test) → Settles P Q following Told
apart test p q = record { settle = λ from to to' d d' b b'. absurd (not_both (test (head_of from)) (p.begun from to d b) (q.begun from to' d' b')) }

-- the same from the other side
pub apart_too : {P Q : Part} {following : Test} {Told : Type 0} (test : Test) → Begins P following (opposite test) → Begins Q following test → Settles P Q following Told
apart_too test p q = record { settle = λ from to to' d d' b b'. absurd (not_both (test (head_of from)) (q.begun from to' d' b') (p.begun from to d b)) }

-- a form that may be missing and begins with nothing that may follow it
pub none_some : {Q : Part} {following : Test} {Told : Type 0} → Begins Q following (opposite following) → Settles nothing Q following Told
none_some {following = following} q = apart following (begins_nothing (λ h b. b)) q

-- the same from the other side
pub some_none : {P : Part} {following : Test} {Told : Type 0} → Begins P following (opposite following) → Settles P nothing following Told
some_none {following = following} p = apart_too following p (begins_nothing (λ h b. b))

-- two parts at places are at one place
pub at_settles : {p q : Place} {P Q : Part} {following : Test} {Told : Type 0} → Settles P Q following Told → Settles (at p P) (at q Q) following ((p ≡ q) × Told)
at_settles {p} {q} s = record {
  settle = λ from to to' (t, rest, te, pe, d) (u, rest', ue, qe, d') b b'.
      let same : t ≡ u = cc in
      let here : p ≡ q = sym pe ∙ ap (λ (x : Token). x.place) same ∙ qe in
      let r = s.settle from to to' d d' b b' in
      ((here, r.0), r.1);
}

-- parts under conditions are settled under both
pub provided_settles : {C D : Type 0} {P Q : Part} {following : Test} {Told : Type 0} → (C → D → Settles P Q following Told) → Settles (provided C P) (provided D Q) following Told
provided_settles f = record { settle = λ from to to' (c, d) (c', d') b b'. (f c c').settle from to to' d d' b b' }

-- one part or the other on each side: all four ways
pub either_settles : {P P' Q Q' : Part} {following : Test} {Told : Type 0} → Settles P P' following Told → Settles P Q' following Told → Settles Q P' following Told → Settles Q Q' following Told → Settles (either P Q) (either P' Q') following Told
either_settles {P} {P'} {Q} {Q'} {following} {Told} a b c d = record {
  settle = λ from to to' x y h h'.
      elim x [
        | inl p ↦ elim y [ inl p' ↦ a.settle from to to' p p' h h' | inr q' ↦ b.settle from to to' p q' h h' ]
        | inr q ↦ elim y [ inl p' ↦ c.settle from to to' q p' h h' | inr q' ↦ d.settle from to to' q q' h h' ]
      ];
}
