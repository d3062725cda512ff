-- The grammar of a file, one definition for each form.
use Rattle.std.specs.Prelude.{◌≡◌, ◌≢◌, ℕ, ◌-◌, ◌≤◌, ◌<◌, Bool, true, false, List, [], ◌∷◌, ◌++◌, length, Option, Some, None, codes}
use Rattle.std.specs.List.{flat_map}
use Rattle.ipdl_base.specs.declared.finding.Place.{Place}
use Rattle.ipdl_base.specs.declared.kinds.Direction.{Direction}
use Rattle.ipdl_base.specs.declared.kinds.Direction.TheVariants.{Parent, Child, Both}
use Rattle.ipdl_base.specs.declared.kinds.Semantics.{Semantics}
use Rattle.ipdl_base.specs.declared.kinds.Semantics.TheVariants.{Async, Sync}
use Rattle.ipdl_base.specs.Words.{joined}
use Rattle.ipdl_base.specs.declared.token.TokenKind.TheVariants.{Word, Quoted, Mark}
use Rattle.ipdl_syntax.specs.declared.tree.Attribute.{Attribute}
use Rattle.ipdl_syntax.specs.declared.tree.Base.{Base, Named, Unique'}
use Rattle.ipdl_syntax.specs.declared.tree.Include.{Include}
use Rattle.ipdl_syntax.specs.declared.tree.IncludeKind.{IncludeKind}
use Rattle.ipdl_syntax.specs.declared.tree.IncludeKind.TheVariants as include_kind
use Rattle.ipdl_syntax.specs.declared.tree.MessageDecl.{MessageDecl}
use Rattle.ipdl_syntax.specs.declared.tree.NameAt.{NameAt}
use Rattle.ipdl_syntax.specs.declared.tree.Param.{Param}
use Rattle.ipdl_syntax.specs.declared.tree.ProtocolDecl.{ProtocolDecl}
use Rattle.ipdl_syntax.specs.declared.tree.StructDecl.{StructDecl}
use Rattle.ipdl_syntax.specs.declared.tree.Suffix.{Suffix}
use Rattle.ipdl_syntax.specs.declared.tree.Suffix.TheVariants.{Array, Maybe}
use Rattle.ipdl_syntax.specs.declared.tree.TypeSpec.{TypeSpec}
use Rattle.ipdl_syntax.specs.declared.tree.UnionDecl.{UnionDecl}
use Rattle.ipdl_syntax.specs.declared.tree.Using.{Using}
use Rattle.ipdl_syntax.specs.Parts.{Part, nothing, ◌⨾◌, either, token, mark, reserved, word, identifier, quoted, at, provided}

-- Names

-- words, each with `::` before it
abbrev pub words : List (List ℕ) → Part
words [] = nothing
words (w ∷ ws) = mark (codes "::") ⨾ word w ⨾ words ws

-- a name with its namespaces, as `A::B`
abbrev pub qualified : List ℕ → Part
qualified name from to = (first : List ℕ) × (others : List (List ℕ)) × (name ≡ joined (first ∷ others)) × (word first ⨾ words others) from to

-- the argument of a name, as `<A::B>`, if it has one
abbrev pub argument : Option (List ℕ) → Part
argument None = nothing
argument (Some name) = mark (codes "<") ⨾ qualified name ⨾ mark (codes ">")

-- a name, perhaps with an argument
abbrev pub named : List ℕ → Option (List ℕ) → Part
named name inner = qualified name ⨾ argument inner

-- the text of a name and its argument
abbrev pub whole_name : List ℕ → Option (List ℕ) → List ℕ
whole_name name None = name
whole_name name (Some inner) = name ++ codes "<" ++ inner ++ codes ">"

-- the name that a declaration in these namespaces gives
abbrev pub declared : List (List ℕ) → List ℕ → Place → Part
declared scope full place = token (λ t. (t.kind ≡ Word) × (full ≡ joined (scope ++ t.text ∷ [])) × (t.place ≡ place))

-- Attributes

-- the value of an attribute: any word, reserved or not, or a quoted text
abbrev pub value : Option (List ℕ) → Part
value None = nothing
value (Some text) = mark (codes "=") ⨾ token (λ t. (t.kind ≢ Mark) × (t.text ≡ text))

abbrev pub attribute : Attribute → Part
attribute a = identifier a.name a.place ⨾ value a.value

abbrev pub more_attributes : List Attribute → Part
more_attributes [] = nothing
more_attributes (a ∷ rest) = mark (codes ",") ⨾ attribute a ⨾ more_attributes rest

-- attributes in brackets, joined by commas; without any there are no brackets
abbrev pub attributes : List Attribute → Part
attributes [] = nothing
attributes (a ∷ rest) = mark (codes "[") ⨾ attribute a ⨾ more_attributes rest ⨾ mark (codes "]")

-- Types

abbrev pub suffix : Suffix → Part
suffix Array = mark (codes "[") ⨾ mark (codes "]")
suffix Maybe = mark (codes "?")

abbrev pub suffixes : List Suffix → Part
suffixes [] = nothing
suffixes (s ∷ rest) = suffix s ⨾ suffixes rest

abbrev pub nullable_word : Bool → Part
nullable_word true = reserved (codes "nullable")
nullable_word false = nothing

-- a type around its base: perhaps `nullable`, the base at the type's place, and at most four suffixes
abbrev pub type_round : Bool → Part → List Suffix → Place → Part
type_round nullable base after place =
    provided (length after ≤ 4) (nullable_word nullable ⨾ at place base ⨾ suffixes after)

-- a base, with room for this number of nested UniquePtr
abbrev pub base : ℕ → Base → Part
base room (Named name inner) = named name inner
base room (Unique' _ nullable inner after place) =
    provided (0 < room)
    (reserved (codes "UniquePtr") ⨾ mark (codes "<") ⨾ type_round nullable (base (room - 1) inner) after place ⨾ mark (codes ">"))

-- a type, with at most four nested UniquePtr
abbrev pub type_spec : TypeSpec → Part
type_spec spec = type_round spec.nullable (base 4 spec.base) spec.suffixes spec.place

-- Messages

abbrev pub param : Param → Part
param p = attributes p.attributes ⨾ type_spec p.spec ⨾ identifier p.name p.place

abbrev pub more_params : List Param → Part
more_params [] = nothing
more_params (p ∷ rest) = mark (codes ",") ⨾ param p ⨾ more_params rest

-- any number of parameters, joined by commas
abbrev pub params : List Param → Part
params [] = nothing
params (p ∷ rest) = param p ⨾ more_params rest

abbrev pub returns : Option (List Param) → Part
returns None = nothing
returns (Some ps) = reserved (codes "returns") ⨾ mark (codes "(") ⨾ params ps ⨾ mark (codes ")")

abbrev pub semantics_word : Semantics → List ℕ
semantics_word Async = codes "async"
semantics_word Sync = codes "sync"

-- a message of a section
abbrev pub message : Direction → MessageDecl → Part
message direction m =
    provided (m.direction ≡ direction)
    (attributes m.attributes ⨾ reserved (semantics_word m.semantics) ⨾ identifier m.name m.place ⨾ mark (codes "(") ⨾ params m.params ⨾ mark (codes ")") ⨾ returns m.returns ⨾ mark (codes ";"))

abbrev pub messages : Direction → List MessageDecl → Part
messages direction [] = nothing
messages direction (m ∷ rest) = message direction m ⨾ messages direction rest

-- Protocols

-- a section: who receives, and its messages
pub record MessageSection : Type 0 where
  pub direction : Direction
  pub messages : List MessageDecl

abbrev pub direction_word : Direction → List ℕ
direction_word Parent = codes "parent"
direction_word Child = codes "child"
direction_word Both = codes "both"

abbrev pub section : MessageSection → Part
section s = reserved (direction_word s.direction) ⨾ mark (codes ":") ⨾ messages s.direction s.messages

abbrev pub sections : List MessageSection → Part
sections [] = nothing
sections (s ∷ rest) = section s ⨾ sections rest

-- a statement on management: the protocol's managers (at least one), or a protocol that it manages
pub data Management : Type 0 where
  managed_by : NameAt → List NameAt → Management
  manages : NameAt → Management

abbrev pub more_managers : List NameAt → Part
more_managers [] = nothing
more_managers (n ∷ rest) = reserved (codes "or") ⨾ identifier n.name n.place ⨾ more_managers rest

abbrev pub management : Management → Part
management (managed_by first others) = reserved (codes "manager") ⨾ identifier first.name first.place ⨾ more_managers others ⨾ mark (codes ";")
management (manages n) = reserved (codes "manages") ⨾ identifier n.name n.place ⨾ mark (codes ";")

abbrev pub managements : List Management → Part
managements [] = nothing
managements (m ∷ rest) = management m ⨾ managements rest

-- the managers that a statement names
abbrev pub managers_of : Management → List NameAt
managers_of (managed_by first others) = first ∷ others
managers_of (manages n) = []

-- the managed protocol that a statement names
abbrev pub managed_of : Management → List NameAt
managed_of (managed_by first others) = []
managed_of (manages n) = n ∷ []

-- the word that gives a protocol's semantics; without one it is async
abbrev pub protocol_semantics : Semantics → Part
protocol_semantics Sync = reserved (codes "sync")
protocol_semantics Async = either nothing (reserved (codes "async"))

-- a protocol in these namespaces
abbrev pub protocol : List (List ℕ) → ProtocolDecl → Part
protocol scope p from to =
    (managing : List Management) × (parts : List MessageSection)
    × (p.managers ≡ flat_map managers_of managing) × (p.manages ≡ flat_map managed_of managing) × (p.messages ≡ flat_map (λ s. s.messages) parts)
    × (attributes p.attributes ⨾ protocol_semantics p.semantics ⨾ reserved (codes "protocol") ⨾ declared scope p.full p.place ⨾ mark (codes "{") ⨾ managements managing ⨾ sections parts ⨾ mark (codes "}") ⨾ mark (codes ";")) from to

-- Structs, unions, usings, includes

abbrev pub field : Param → Part
field p = provided (p.attributes ≡ []) (type_spec p.spec ⨾ identifier p.name p.place ⨾ mark (codes ";"))

abbrev pub fields : List Param → Part
fields [] = nothing
fields (p ∷ rest) = field p ⨾ fields rest

abbrev pub struct_decl : List (List ℕ) → StructDecl → Part
struct_decl scope s = attributes s.attributes ⨾ reserved (codes "struct") ⨾ declared scope s.full s.place ⨾ mark (codes "{") ⨾ fields s.fields ⨾ mark (codes "}") ⨾ mark (codes ";")

abbrev pub components : List TypeSpec → Part
components [] = nothing
components (c ∷ rest) = type_spec c ⨾ mark (codes ";") ⨾ components rest

-- a union has at least one component
abbrev pub union_decl : List (List ℕ) → UnionDecl → Part
union_decl scope u =
    provided (u.components ≢ [])
    (attributes u.attributes ⨾ reserved (codes "union") ⨾ declared scope u.full u.place ⨾ mark (codes "{") ⨾ components u.components ⨾ mark (codes "}") ⨾ mark (codes ";"))

-- what another language declares, as a name with its full text
abbrev pub foreign_name : List ℕ → Part
foreign_name full from to = (name : List ℕ) × (inner : Option (List ℕ)) × (full ≡ whole_name name inner) × named name inner from to

abbrev pub using_decl : Using → Part
using_decl u =
    attributes u.attributes ⨾ reserved (codes "using") ⨾ either nothing (either (reserved (codes "class")) (reserved (codes "struct")))
    ⨾ at u.place (foreign_name u.full) ⨾ reserved (codes "from") ⨾ token (λ t. t.kind ≡ Quoted) ⨾ mark (codes ";")

abbrev pub included : IncludeKind → List ℕ → Place → Part
included include_kind.Protocol name place = reserved (codes "protocol") ⨾ identifier name place
included include_kind.Header name place = identifier name place
included include_kind.Quoted name place = quoted name place

abbrev pub include : Include → Part
include i = reserved (codes "include") ⨾ included i.kind i.name i.place ⨾ mark (codes ";")

-- Files

-- the declarations in a namespace but the protocol, in text order
pub data Inside : Type 0 where
  inside_end : Inside
  inside_struct : StructDecl → Inside → Inside
  inside_union : UnionDecl → Inside → Inside
  inside_namespace : List ℕ → Inside → Inside → Inside

-- the declarations in a file outside of all namespaces but the protocol, in text order
pub data Outside : Type 0 where
  outside_end : Outside
  outside_include : Include → Outside → Outside
  outside_using : Using → Outside → Outside
  outside_struct : StructDecl → Outside → Outside
  outside_union : UnionDecl → Outside → Outside
  outside_namespace : List ℕ → Inside → Outside → Outside

-- the protocol, perhaps in namespaces, each with the declarations before and after it
pub data Holder : Type 0 where
  holder_protocol : ProtocolDecl → Holder
  holder_namespace : List ℕ → Inside → Holder → Inside → Holder

-- a namespace around its content
abbrev pub in_namespace : List ℕ → Part → Part
in_namespace name held = reserved (codes "namespace") ⨾ word name ⨾ mark (codes "{") ⨾ held ⨾ mark (codes "}")

-- the declarations of a namespace, with room for this number of nested namespaces
abbrev pub inside : ℕ → List (List ℕ) → Inside → Part
inside room scope inside_end = nothing
inside room scope (inside_struct s rest) = struct_decl scope s ⨾ inside room scope rest
inside room scope (inside_union u rest) = union_decl scope u ⨾ inside room scope rest
inside room scope (inside_namespace name held rest) =
    provided (0 < room) (in_namespace name (inside (room - 1) (scope ++ name ∷ []) held)) ⨾ inside room scope rest

-- the declarations outside of all namespaces, which nest at most 16 deep
abbrev pub outside : Outside → Part
outside outside_end = nothing
outside (outside_include i rest) = include i ⨾ outside rest
outside (outside_using u rest) = using_decl u ⨾ outside rest
outside (outside_struct s rest) = struct_decl [] s ⨾ outside rest
outside (outside_union u rest) = union_decl [] u ⨾ outside rest
outside (outside_namespace name held rest) = in_namespace name (inside 15 (name ∷ []) held) ⨾ outside rest

-- the one protocol, with room for this number of nested namespaces
abbrev pub holder : ℕ → List (List ℕ) → Holder → Part
holder room scope (holder_protocol p) = protocol scope p
holder room scope (holder_namespace name before held after) =
    provided (0 < room) (in_namespace name
    (inside (room - 1) (scope ++ name ∷ []) before ⨾ holder (room - 1) (scope ++ name ∷ []) held ⨾ inside (room - 1) (scope ++ name ∷ []) after))

-- a header: declarations, and no protocol
abbrev pub header : Outside → Part
header all = outside all

-- a protocol file: declarations, the one protocol, and declarations
abbrev pub protocol_file : Outside → Holder → Outside → Part
protocol_file before one after = outside before ⨾ holder 16 [] one ⨾ outside after
