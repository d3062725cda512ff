-- The word or the mark after a piece's attributes determines its sort, so pieces that are read from the same tokens
-- are of one sort.
use Rattle.std.proofs.Common.{◌≡◌, ℕ, Bool, true, false, inl, inr, List, [], ◌∷◌, codes, refl, sym, ap, ◌∙◌}
use Rattle.std.specs.Prelude.{if◌then◌else◌}
use Rattle.std.proofs.Math.Bool.{not}
use Rattle.std.specs.Str.{bytes_eq}
use Rattle.ipdl_base.specs.declared.kinds.Semantics.{Semantics}
use Rattle.ipdl_base.specs.declared.kinds.Semantics.TheVariants.{Async, Sync}
use Rattle.ipdl_base.specs.declared.token.Token.{Token}
use Rattle.ipdl_base.specs.declared.token.TokenKind.{TokenKind}
use Rattle.ipdl_base.specs.declared.token.TokenKind.TheVariants as kind
use Rattle.ipdl_syntax.specs.declared.tree.Attribute.{Attribute}
use Rattle.ipdl_syntax.specs.Parts.{mark, reserved}
use Rattle.ipdl_syntax.specs.Grammar.{attributes, protocol_semantics}
use Rattle.grammar_laws.proofs.Heads.{Head, no_head, a_head, head_of, Holds, is_end, is_mark, of_mark}
use Rattle.grammar_laws.proofs.Names.{past_attributes, attributes_settle}
use Rattle.grammar_laws.proofs.Pieces.{Piece, the_include, the_using, the_struct, the_union, the_protocol, opening, closing, Scopes, row}

-- the sort of a piece, of no piece, and of anything else after attributes
pub data Sort : Type 0 where
  sort_end : Sort
  sort_include : Sort
  sort_using : Sort
  sort_struct : Sort
  sort_union : Sort
  sort_protocol : Sort
  sort_opening : Sort
  sort_closing : Sort
  sort_other : Sort

-- the sort that a mark determines
abbrev mark_sort : List ℕ → Sort
mark_sort text = if bytes_eq text (codes "}") then sort_closing else sort_other

-- the sort that a reserved word determines
abbrev word_sort : List ℕ → Sort
word_sort text =
    if bytes_eq text (codes "include") then sort_include else (
    if bytes_eq text (codes "using") then sort_using else (
    if bytes_eq text (codes "struct") then sort_struct else (
    if bytes_eq text (codes "union") then sort_union else (
    if bytes_eq text (codes "sync") then sort_protocol else (
    if bytes_eq text (codes "async") then sort_protocol else (
    if bytes_eq text (codes "protocol") then sort_protocol else (
    if bytes_eq text (codes "namespace") then sort_opening else (
    sort_other))))))))

-- the sort that the first token determines
abbrev sort_at : Head → Sort
sort_at no_head = sort_end
sort_at (a_head kind.Mark text) = mark_sort text
sort_at (a_head kind.Reserved text) = word_sort text
sort_at (a_head kind.Word text) = sort_other
sort_at (a_head kind.Quoted text) = sort_other

-- the sort of a piece
abbrev pub piece_sort : Piece → Sort
piece_sort (the_include i) = sort_include
piece_sort (the_using u) = sort_using
piece_sort (the_struct s) = sort_struct
piece_sort (the_union u) = sort_union
piece_sort (the_protocol p) = sort_protocol
piece_sort (opening name) = sort_opening
piece_sort closing = sort_closing

-- the sort of the first piece
abbrev pub sort_of : List Piece → Sort
sort_of [] = sort_end
sort_of (p ∷ rest) = piece_sort p

-- the attributes of the first piece
abbrev attributes_of : List Piece → List Attribute
attributes_of (the_using u ∷ rest) = u.attributes
attributes_of (the_struct s ∷ rest) = s.attributes
attributes_of (the_union u ∷ rest) = u.attributes
attributes_of (the_protocol p ∷ rest) = p.attributes
attributes_of _ = []

-- the sort of a piece is not that of no piece
pub not_end : (p : Piece) → piece_sort p ≡ sort_end → ⊥
not_end (the_include i) e = cc
not_end (the_using u) e = cc
not_end (the_struct s) e = cc
not_end (the_union u) e = cc
not_end (the_protocol p) e = cc
not_end (opening name) e = cc
not_end closing e = cc

-- a mark that comes first determines the sort
mark_is : (text : List ℕ) (from to : List Token) → mark text from to → sort_at (head_of from) ≡ mark_sort text
mark_is text from to (t, te, is) = ap (λ l. sort_at (head_of l)) te ∙ ap (λ (z : TokenKind). sort_at (a_head z t.text)) is.0 ∙ ap mark_sort is.1

-- the same of a reserved word
word_is : (text : List ℕ) (from to : List Token) → reserved text from to → sort_at (head_of from) ≡ word_sort text
word_is text from to (t, te, is) = ap (λ l. sort_at (head_of l)) te ∙ ap (λ (z : TokenKind). sort_at (a_head z t.text)) is.0 ∙ ap word_sort is.1

-- after the last token there is no piece
end_is : (h : Head) → is_end h ≡ true → sort_at h ≡ sort_end
end_is no_head e = refl
end_is (a_head k text) e = absurd (cc)

-- `sync`, `async` and `protocol` determine a protocol
protocol_is : (s : Semantics) (from middle to : List Token) → protocol_semantics s from middle → reserved (codes "protocol") middle to → sort_at (head_of from) ≡ sort_protocol
protocol_is Sync from middle to d e = word_is (codes "sync") from middle d
protocol_is Async from middle to (inl same) e = ap (λ l. sort_at (head_of l)) same ∙ word_is (codes "protocol") middle to e
protocol_is Async from middle to (inr d) e = word_is (codes "async") from middle d

-- attributes, and after them a token that determines this sort
abbrev Led : List Attribute → Sort → List Token → Type 0
Led list s from = (middle : List Token) × attributes list from middle × (sort_at (head_of middle) ≡ s)

-- each row up to the end begins so
led : (scopes : Scopes) (pieces : List Piece) (from to : List Token) → row scopes pieces from to → Holds is_end to → Led (attributes_of pieces) (sort_of pieces) from
led scopes [] from to d b = (from, refl, ap (λ l. sort_at (head_of l)) d ∙ end_is (head_of to) b)
led scopes (the_include i ∷ rest) from to (m, (n, d, more), e) b = (from, refl, word_is (codes "include") from n d)
led scopes (the_using u ∷ rest) from to (m, (n, a, (o, d, more)), e) b = (n, a, word_is (codes "using") n o d)
led scopes (the_struct s ∷ rest) from to (m, (n, a, (o, d, more)), e) b = (n, a, word_is (codes "struct") n o d)
led scopes (the_union u ∷ rest) from to (m, (c, (n, a, (o, d, more))), e) b = (n, a, word_is (codes "union") n o d)
led scopes (the_protocol p ∷ rest) from to (m, (ms, xs, x, y, z, (n, a, (o, s, (q, d, more)))), e) b = (n, a, protocol_is p.semantics n o q s d)
led scopes (opening name ∷ rest) from to (m, d, e) b = (from, refl, word_is (codes "namespace") from m d)
led scopes (closing ∷ rest) from to (m, d, e) b = (from, refl, mark_is (codes "}") from m d)

-- whether no piece is of this sort
abbrev is_other : Sort → Bool
is_other sort_other = true
is_other _ = false

-- the first piece is of a sort that pieces have
proper : (pieces : List Piece) → is_other (sort_of pieces) ≡ false
proper [] = refl
proper (the_include i ∷ rest) = refl
proper (the_using u ∷ rest) = refl
proper (the_struct s ∷ rest) = refl
proper (the_union u ∷ rest) = refl
proper (the_protocol p ∷ rest) = refl
proper (opening name ∷ rest) = refl
proper (closing ∷ rest) = refl

-- a test is failed where passing it would pass one that is failed
cannot : (a b : Bool) → (a ≡ true → b ≡ true) → b ≡ false → not a ≡ true
cannot true b f e = let t = f refl in absurd (cc)
cannot false b f e = refl

-- a token that determines the sort of a piece is not a bracket
past : (h : Head) (pieces : List Piece) → sort_at h ≡ sort_of pieces → past_attributes h ≡ true
past h pieces e = cannot (is_mark (codes "[") h) (is_other (sort_at h)) (of_mark (codes "[") (λ x. is_other (sort_at x)) refl h) (ap is_other e ∙ proper pieces)

-- rows that are read from the same tokens, up to the end, begin with pieces of one sort
pub same_sort : (scopes : Scopes) (one other : List Piece) (from to to' : List Token) → row scopes one from to → row scopes other from to' → Holds is_end to → Holds is_end to' → sort_of one ≡ sort_of other
same_sort scopes one other from to to' d d' b b' =
    let l = led scopes one from to d b in
    let m = led scopes other from to' d' b' in
    let r = (attributes_settle (attributes_of one) (attributes_of other)).settle from l.0 m.0 l.1 m.1 (past (head_of l.0) one l.2) (past (head_of m.0) other m.2) in
    sym l.2 ∙ ap (λ x. sort_at (head_of x)) r.1 ∙ m.2
