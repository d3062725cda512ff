-- A file as a row of pieces, one after the other, whatever namespaces they are in.
use Rattle.std.proofs.Common.{ℕ, List, [], ◌∷◌, ◌++◌, Option, Some, None, codes}
use Rattle.ipdl_syntax.specs.declared.tree.Include.{Include}
use Rattle.ipdl_syntax.specs.declared.tree.ProtocolDecl.{ProtocolDecl}
use Rattle.ipdl_syntax.specs.declared.tree.StructDecl.{StructDecl}
use Rattle.ipdl_syntax.specs.declared.tree.UnionDecl.{UnionDecl}
use Rattle.ipdl_syntax.specs.declared.tree.Unit.{Unit as FileUnit}
use Rattle.ipdl_syntax.specs.declared.tree.Using.{Using}
use Rattle.ipdl_syntax.specs.Parts.{Part, nothing, ◌⨾◌, mark, reserved, word}
use Rattle.ipdl_syntax.specs.Grammar.{protocol, struct_decl, union_decl, using_decl, include}
use Rattle.ipdl_syntax.specs.Program.{Declarations, ◌&◌, no_declaration, an_include, a_using, a_struct, a_union, unit_of}

-- a declaration, the opening of a namespace of this name, or the closing of one
pub data Piece : Type 0 where
  the_include : Include → Piece
  the_using : Using → Piece
  the_struct : StructDecl → Piece
  the_union : UnionDecl → Piece
  the_protocol : ProtocolDecl → Piece
  opening : List ℕ → Piece
  closing : Piece

-- the names of the open namespaces, each with those around it
abbrev pub Scopes : Type 0
Scopes = List (List (List ℕ))

-- the namespaces around the next declaration
abbrev pub innermost : Scopes → List (List ℕ)
innermost [] = []
innermost (scope ∷ outer) = scope

-- the open namespaces after the innermost is closed
abbrev pub around : Scopes → Scopes
around [] = []
around (scope ∷ outer) = outer

-- pieces where these namespaces are open
abbrev pub row : Scopes → List Piece → Part
row scopes [] = nothing
row scopes (the_include i ∷ rest) = include i ⨾ row scopes rest
row scopes (the_using u ∷ rest) = using_decl u ⨾ row scopes rest
row scopes (the_struct s ∷ rest) = struct_decl (innermost scopes) s ⨾ row scopes rest
row scopes (the_union u ∷ rest) = union_decl (innermost scopes) u ⨾ row scopes rest
row scopes (the_protocol p ∷ rest) = protocol (innermost scopes) p ⨾ row scopes rest
row scopes (opening name ∷ rest) = reserved (codes "namespace") ⨾ word name ⨾ mark (codes "{") ⨾ row ((innermost scopes ++ name ∷ []) ∷ scopes) rest
row scopes (closing ∷ rest) = mark (codes "}") ⨾ row (around scopes) rest

-- what pieces declare
abbrev pub declared_row : List Piece → Declarations
declared_row [] = no_declaration
declared_row (the_include i ∷ rest) = an_include i & declared_row rest
declared_row (the_using u ∷ rest) = a_using u & declared_row rest
declared_row (the_struct s ∷ rest) = a_struct s & declared_row rest
declared_row (the_union u ∷ rest) = a_union u & declared_row rest
declared_row (the_protocol p ∷ rest) = declared_row rest
declared_row (opening name ∷ rest) = declared_row rest
declared_row (closing ∷ rest) = declared_row rest

-- the first protocol among pieces
abbrev pub protocol_in : List Piece → Option ProtocolDecl
protocol_in [] = None
protocol_in (the_include i ∷ rest) = protocol_in rest
protocol_in (the_using u ∷ rest) = protocol_in rest
protocol_in (the_struct s ∷ rest) = protocol_in rest
protocol_in (the_union u ∷ rest) = protocol_in rest
protocol_in (the_protocol p ∷ rest) = Some p
protocol_in (opening name ∷ rest) = protocol_in rest
protocol_in (closing ∷ rest) = protocol_in rest

-- the file that pieces make
abbrev pub row_unit : List Piece → FileUnit
row_unit pieces = unit_of (declared_row pieces) (protocol_in pieces)
