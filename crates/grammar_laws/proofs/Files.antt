-- Each tree is a row of pieces, so tokens have one tree.
use Rattle.std.proofs.Common.{◌≡◌, ℕ, ◌-◌, List, [], ◌∷◌, ◌++◌, Option, Some, None, refl, sym, ap, subst, ◌∙◌}
use Rattle.ipdl_base.specs.declared.token.Token.{Token}
use Rattle.ipdl_syntax.specs.declared.tree.FileKind.{FileKind}
use Rattle.ipdl_syntax.specs.declared.tree.FileKind.TheVariants as file
use Rattle.ipdl_syntax.specs.declared.tree.ProtocolDecl.{ProtocolDecl}
use Rattle.ipdl_syntax.specs.declared.tree.Unit.{Unit as FileUnit}
use Rattle.ipdl_syntax.specs.Grammar.{Inside, inside_end, inside_struct, inside_union, inside_namespace, Outside, outside_end, outside_include, outside_using, outside_struct, outside_union, outside_namespace, Holder, holder_protocol, holder_namespace, inside, outside, holder}
use Rattle.ipdl_syntax.specs.Program.{Declarations, ◌&◌, an_include, a_using, a_struct, a_union, declared_inside, declared_outside, declared_round, protocol_of, unit_of, Tree}
use Rattle.ipdl_syntax.proofs.Declarations.{and_assoc, and_none}
use Rattle.grammar_laws.specs.Boxes.{unboxed}
use Rattle.grammar_laws.specs.Laws.{HasOneTree}
use Rattle.grammar_laws.proofs.Pieces.{Piece, the_include, the_using, the_struct, the_union, the_protocol, opening, closing, Scopes, innermost, row, declared_row, protocol_in, row_unit}
use Rattle.grammar_laws.proofs.Rows.{row_settles}

-- the pieces of the declarations in a namespace, and more after them
abbrev pieces_inside : Inside → List Piece → List Piece
pieces_inside inside_end more = more
pieces_inside (inside_struct s rest) more = the_struct s ∷ pieces_inside rest more
pieces_inside (inside_union u rest) more = the_union u ∷ pieces_inside rest more
pieces_inside (inside_namespace name held rest) more = opening name ∷ pieces_inside held (closing ∷ pieces_inside rest more)

-- the pieces of the declarations outside of all namespaces, and more after them
abbrev pieces_outside : Outside → List Piece → List Piece
pieces_outside outside_end more = more
pieces_outside (outside_include i rest) more = the_include i ∷ pieces_outside rest more
pieces_outside (outside_using u rest) more = the_using u ∷ pieces_outside rest more
pieces_outside (outside_struct s rest) more = the_struct s ∷ pieces_outside rest more
pieces_outside (outside_union u rest) more = the_union u ∷ pieces_outside rest more
pieces_outside (outside_namespace name held rest) more = opening name ∷ pieces_inside held (closing ∷ pieces_outside rest more)

-- the pieces of the protocol and of the declarations around it, and more after them
abbrev pieces_round : Holder → List Piece → List Piece
pieces_round (holder_protocol p) more = the_protocol p ∷ more
pieces_round (holder_namespace name before held after) more = opening name ∷ pieces_inside before (pieces_round held (pieces_inside after (closing ∷ more)))

-- the pieces of the declarations in a namespace are read from the same tokens
row_inside : (a : Inside) (room : ℕ) (scopes : Scopes) (more : List Piece) (from middle to : List Token) → inside room (innermost scopes) a from middle → row scopes more middle to → row scopes (pieces_inside a more) from to
row_inside inside_end room scopes more from middle to d k = subst (λ (x : List Token). row scopes more x to) (sym d) k
row_inside (inside_struct s rest) room scopes more from middle to (m, d, e) k = (m, d, row_inside rest room scopes more m middle to e k)
row_inside (inside_union u rest) room scopes more from middle to (m, d, e) k = (m, d, row_inside rest room scopes more m middle to e k)
row_inside (inside_namespace name held rest) room scopes more from middle to (m, (pos, (n, w, (o, x, (p, y, (q, hd, z))))), e) k =
    (n, w, (o, x, (p, y, row_inside held (room - 1) ((innermost scopes ++ name ∷ []) ∷ scopes) (closing ∷ pieces_inside rest more) p q to hd (m, z, row_inside rest room scopes more m middle to e k))))

-- the same of the declarations outside of all namespaces
row_outside : (a : Outside) (more : List Piece) (from middle to : List Token) → outside a from middle → row [] more middle to → row [] (pieces_outside a more) from to
row_outside outside_end more from middle to d k = subst (λ (x : List Token). row [] more x to) (sym d) k
row_outside (outside_include i rest) more from middle to (m, d, e) k = (m, d, row_outside rest more m middle to e k)
row_outside (outside_using u rest) more from middle to (m, d, e) k = (m, d, row_outside rest more m middle to e k)
row_outside (outside_struct s rest) more from middle to (m, d, e) k = (m, d, row_outside rest more m middle to e k)
row_outside (outside_union u rest) more from middle to (m, d, e) k = (m, d, row_outside rest more m middle to e k)
row_outside (outside_namespace name held rest) more from middle to (m, (n, w, (o, x, (p, y, (q, hd, z)))), e) k =
    (n, w, (o, x, (p, y, row_inside held 15 ((name ∷ []) ∷ []) (closing ∷ pieces_outside rest more) p q to hd (m, z, row_outside rest more m middle to e k))))

-- the same of the protocol and the declarations around it
row_round : (h : Holder) (room : ℕ) (scopes : Scopes) (more : List Piece) (from middle to : List Token) → holder room (innermost scopes) h from middle → row scopes more middle to → row scopes (pieces_round h more) from to
row_round (holder_protocol p) room scopes more from middle to d k = (middle, d, k)
row_round (holder_namespace name before held after) room scopes more from middle to (pos, (n, w, (o, x, (p, y, (q, (r, bd, (s, hd, ad)), z))))) k =
    let inner : Scopes = (innermost scopes ++ name ∷ []) ∷ scopes in (
      n,
      w,
      (
        o,
        x,
        (
          p,
          y,
          row_inside before (room - 1) inner (pieces_round held (pieces_inside after (closing ∷ more))) p r to bd
              (row_round held (room - 1) inner (pieces_inside after (closing ∷ more)) r s to hd
              (row_inside after (room - 1) inner (closing ∷ more) s q to ad (middle, z, k))),
        ),
      ),
    )

-- the pieces in a namespace declare what the form declares
declares_inside : (a : Inside) (more : List Piece) → declared_row (pieces_inside a more) ≡ declared_inside a & declared_row more
declares_inside inside_end more = refl
declares_inside (inside_struct s rest) more = ap (λ (x : Declarations). a_struct s & x) (declares_inside rest more)
declares_inside (inside_union u rest) more = ap (λ (x : Declarations). a_union u & x) (declares_inside rest more)
declares_inside (inside_namespace name held rest) more =
    declares_inside held (closing ∷ pieces_inside rest more)
    ∙ ap (λ (x : Declarations). declared_inside held & x) (declares_inside rest more)
    ∙ sym (and_assoc (declared_inside held) (declared_inside rest) (declared_row more))

-- the same of the declarations outside of all namespaces
declares_outside : (a : Outside) (more : List Piece) → declared_row (pieces_outside a more) ≡ declared_outside a & declared_row more
declares_outside outside_end more = refl
declares_outside (outside_include i rest) more = ap (λ (x : Declarations). an_include i & x) (declares_outside rest more)
declares_outside (outside_using u rest) more = ap (λ (x : Declarations). a_using u & x) (declares_outside rest more)
declares_outside (outside_struct s rest) more = ap (λ (x : Declarations). a_struct s & x) (declares_outside rest more)
declares_outside (outside_union u rest) more = ap (λ (x : Declarations). a_union u & x) (declares_outside rest more)
declares_outside (outside_namespace name held rest) more =
    declares_inside held (closing ∷ pieces_outside rest more)
    ∙ ap (λ (x : Declarations). declared_inside held & x) (declares_outside rest more)
    ∙ sym (and_assoc (declared_inside held) (declared_outside rest) (declared_row more))

-- the same of the protocol and the declarations around it
declares_round : (h : Holder) (more : List Piece) → declared_row (pieces_round h more) ≡ declared_round h & declared_row more
declares_round (holder_protocol p) more = refl
declares_round (holder_namespace name before held after) more =
    declares_inside before (pieces_round held (pieces_inside after (closing ∷ more)))
    ∙ ap (λ (x : Declarations). declared_inside before & x) (
    declares_round held (pieces_inside after (closing ∷ more))
    ∙ ap (λ (x : Declarations). declared_round held & x) (declares_inside after (closing ∷ more))
    ∙ sym (and_assoc (declared_round held) (declared_inside after) (declared_row more)))
    ∙ sym (and_assoc (declared_inside before) (declared_round held & declared_inside after) (declared_row more))

-- no protocol is among the pieces in a namespace
none_inside : (a : Inside) (more : List Piece) → protocol_in (pieces_inside a more) ≡ protocol_in more
none_inside inside_end more = refl
none_inside (inside_struct s rest) more = none_inside rest more
none_inside (inside_union u rest) more = none_inside rest more
none_inside (inside_namespace name held rest) more = none_inside held (closing ∷ pieces_inside rest more) ∙ none_inside rest more

-- no protocol is among the pieces outside of all namespaces
none_outside : (a : Outside) (more : List Piece) → protocol_in (pieces_outside a more) ≡ protocol_in more
none_outside outside_end more = refl
none_outside (outside_include i rest) more = none_outside rest more
none_outside (outside_using u rest) more = none_outside rest more
none_outside (outside_struct s rest) more = none_outside rest more
none_outside (outside_union u rest) more = none_outside rest more
none_outside (outside_namespace name held rest) more = none_inside held (closing ∷ pieces_outside rest more) ∙ none_outside rest more

-- the protocol is the first protocol among the pieces around it
one_round : (h : Holder) (more : List Piece) → protocol_in (pieces_round h more) ≡ Some (protocol_of h)
one_round (holder_protocol p) more = refl
one_round (holder_namespace name before held after) more =
    none_inside before (pieces_round held (pieces_inside after (closing ∷ more))) ∙ one_round held (pieces_inside after (closing ∷ more))

-- a row that takes all tokens, and makes this file
abbrev IsRow : List Token → FileUnit → Type 0
IsRow tokens unit = (pieces : List Piece) × row [] pieces tokens [] × (unit ≡ row_unit pieces)

-- a file is what it declares and its protocol
same_unit : (a b : Declarations) (p q : Option ProtocolDecl) → a ≡ b → p ≡ q → unit_of a p ≡ unit_of b q
same_unit a b p q e f = ap (λ (x : Declarations). unit_of x p) e ∙ ap (unit_of b) f

-- each tree is such a row
is_row : (kind : FileKind) (tokens : List Token) (unit : FileUnit) → Tree kind tokens unit → IsRow tokens unit
is_row file.Header tokens unit (all, d, e) = (
  pieces_outside all [],
  row_outside all [] tokens [] [] d refl,
  e ∙ sym (same_unit (declared_row (pieces_outside all [])) (declared_outside all) (protocol_in (pieces_outside all [])) None (declares_outside all [] ∙ and_none (declared_outside all)) (none_outside all [])),
)
is_row file.Protocol tokens unit (before, one, after, (m, bd, (n, od, ad)), e) =
    let last : List Piece = pieces_outside after [] in
    let pieces : List Piece = pieces_outside before (pieces_round one last) in
    let all : Declarations = declared_outside before & declared_round one & declared_outside after in
    let same : declared_row pieces ≡ all =
    declares_outside before (pieces_round one last)
    ∙ ap (λ (x : Declarations). declared_outside before & x) (
    declares_round one last ∙ ap (λ (x : Declarations). declared_round one & x) (declares_outside after [] ∙ and_none (declared_outside after))) in
    let held : protocol_in pieces ≡ Some (protocol_of one) = none_outside before (pieces_round one last) ∙ one_round one last in
    (pieces, row_outside before (pieces_round one last) tokens m [] bd (row_round one 16 [] last m n [] od (row_outside after [] n [] [] ad refl)), e ∙ sym (same_unit (declared_row pieces) all (protocol_in pieces) (Some (protocol_of one)) same held))

-- so tokens have one tree, up to where its boxes lie
pub one_tree : HasOneTree
one_tree kind tokens one other d d' =
    let r = is_row kind tokens one d in
    let r' = is_row kind tokens other d' in
    let same = (row_settles [] r.0 r'.0).settle tokens [] [] r.1 r'.1 refl refl in
    ap unboxed r.2 ∙ same.0 ∙ sym (ap unboxed r'.2)
