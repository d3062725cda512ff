-- What a file declares, in text order, and the tree of a file's tokens.
use Rattle.std.specs.Prelude.{◌≡◌, List, [], ◌∷◌, ◌++◌, Option, Some, None}
use Rattle.ipdl_base.specs.declared.token.Token.{Token}
use Rattle.ipdl_syntax.specs.declared.tree.FileKind.{FileKind}
use Rattle.ipdl_syntax.specs.declared.tree.FileKind.TheVariants as file
use Rattle.ipdl_syntax.specs.declared.tree.Include.{Include}
use Rattle.ipdl_syntax.specs.declared.tree.ProtocolDecl.{ProtocolDecl}
use Rattle.ipdl_syntax.specs.declared.tree.StructDecl.{StructDecl}
use Rattle.ipdl_syntax.specs.declared.tree.UnionDecl.{UnionDecl}
use Rattle.ipdl_syntax.specs.declared.tree.Unit.{Unit as FileUnit}
use Rattle.ipdl_syntax.specs.declared.tree.Using.{Using}
use Rattle.ipdl_syntax.specs.Grammar.{Inside, inside_end, inside_struct, inside_union, inside_namespace, Outside, outside_end, outside_include, outside_using, outside_struct, outside_union, outside_namespace, Holder, holder_protocol, holder_namespace, header, protocol_file}

-- what a file declares, in text order
pub record Declarations : Type 0 where
  pub includes : List Include
  pub usings : List Using
  pub structs : List StructDecl
  pub unions : List UnionDecl

-- the declarations of both, in their order
infixr 5 ◌&◌
abbrev pub ◌&◌ : Declarations → Declarations → Declarations
first & second = record {
  includes = first.includes ++ second.includes;
  usings = first.usings ++ second.usings;
  structs = first.structs ++ second.structs;
  unions = first.unions ++ second.unions;
}

abbrev pub no_declaration : Declarations
no_declaration = record { includes = []; usings = []; structs = []; unions = [] }

abbrev pub an_include : Include → Declarations
an_include i = record { includes = i ∷ []; usings = []; structs = []; unions = [] }

abbrev pub a_using : Using → Declarations
a_using u = record { includes = []; usings = u ∷ []; structs = []; unions = [] }

abbrev pub a_struct : StructDecl → Declarations
a_struct s = record { includes = []; usings = []; structs = s ∷ []; unions = [] }

abbrev pub a_union : UnionDecl → Declarations
a_union u = record { includes = []; usings = []; structs = []; unions = u ∷ [] }

abbrev pub declared_inside : Inside → Declarations
declared_inside inside_end = no_declaration
declared_inside (inside_struct s rest) = a_struct s & declared_inside rest
declared_inside (inside_union u rest) = a_union u & declared_inside rest
declared_inside (inside_namespace name held rest) = declared_inside held & declared_inside rest

abbrev pub declared_outside : Outside → Declarations
declared_outside outside_end = no_declaration
declared_outside (outside_include i rest) = an_include i & declared_outside rest
declared_outside (outside_using u rest) = a_using u & declared_outside rest
declared_outside (outside_struct s rest) = a_struct s & declared_outside rest
declared_outside (outside_union u rest) = a_union u & declared_outside rest
declared_outside (outside_namespace name held rest) = declared_inside held & declared_outside rest

abbrev pub declared_round : Holder → Declarations
declared_round (holder_protocol p) = no_declaration
declared_round (holder_namespace name before held after) = declared_inside before & declared_round held & declared_inside after

-- the protocol inside the namespaces
abbrev pub protocol_of : Holder → ProtocolDecl
protocol_of (holder_protocol p) = p
protocol_of (holder_namespace name before held after) = protocol_of held

-- a file that declares this, with its protocol, if it has one
abbrev pub unit_of : Declarations → Option ProtocolDecl → FileUnit
unit_of all protocol = record {
  includes = all.includes;
  usings = all.usings;
  structs = all.structs;
  unions = all.unions;
  protocol = protocol;
}

-- The tree of a file's tokens: all tokens form a header or a protocol file, and the unit is what it declares.
abbrev pub Tree : FileKind → List Token → FileUnit → Type 0
Tree file.Header tokens unit =
    (all : Outside) × header all tokens [] × (unit ≡ unit_of (declared_outside all) None)
Tree file.Protocol tokens unit =
    (before : Outside) × (one : Holder) × (after : Outside) × protocol_file before one after tokens []
    × (unit ≡ unit_of (declared_outside before & declared_round one & declared_outside after) (Some (protocol_of one)))
