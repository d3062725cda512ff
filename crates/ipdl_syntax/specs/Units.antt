-- What the names and the places in a file's tree are.
use Rattle.std.specs.Prelude.{◌≡◌, ℕ, List, IsSome, IsNone, IfSome}
use Rattle.std.specs.List.{AllByRecursion}
use Rattle.ipdl_base.specs.Words.{IsWord, IsFullName}
use Rattle.ipdl_base.specs.declared.finding.Place.{Place}
use Rattle.ipdl_syntax.specs.declared.tree.Attribute.{Attribute}
use Rattle.ipdl_syntax.specs.declared.tree.Base.{Base, Named, Unique'}
use Rattle.ipdl_syntax.specs.declared.tree.FileKind.{FileKind}
use Rattle.ipdl_syntax.specs.declared.tree.FileKind.TheVariants as file
use Rattle.ipdl_syntax.specs.declared.tree.IncludeKind.{IncludeKind}
use Rattle.ipdl_syntax.specs.declared.tree.IncludeKind.TheVariants as include_kind
use Rattle.ipdl_syntax.specs.declared.tree.MessageDecl.{MessageDecl}
use Rattle.ipdl_syntax.specs.declared.tree.NameAt.{NameAt}
use Rattle.ipdl_syntax.specs.declared.tree.Param.{Param}
use Rattle.ipdl_syntax.specs.declared.tree.ProtocolDecl.{ProtocolDecl}
use Rattle.ipdl_syntax.specs.declared.tree.StructDecl.{StructDecl}
use Rattle.ipdl_syntax.specs.declared.tree.TypeSpec.{TypeSpec}
use Rattle.ipdl_syntax.specs.declared.tree.UnionDecl.{UnionDecl}
use Rattle.ipdl_syntax.specs.declared.tree.Unit.{Unit as FileUnit}
use Rattle.ipdl_syntax.specs.declared.tree.Using.{Using}

-- The tree of a protocol file has a protocol, and that of a header has no protocol.
abbrev pub IsOfKind : FileKind → FileUnit → Type 0
IsOfKind file.Protocol unit = IsSome unit.protocol
IsOfKind file.Header unit = IsNone unit.protocol

-- Names

-- the name of a type and its argument are words joined by colons
abbrev pub BaseHasWords : Base → Type 0
BaseHasWords (Named name inner) = IsFullName name × IfSome inner IsFullName
BaseHasWords (Unique' _ nullable inner after place) = BaseHasWords inner

-- the same of a type
abbrev pub TypeHasWords : TypeSpec → Type 0
TypeHasWords spec = BaseHasWords spec.base

-- a parameter, a return or a field is named by a word
pub record ParamHasWords (p : Param) : Type 0 where
  pub spec : TypeHasWords p.spec
  pub name : IsWord p.name

-- a message, its parameters and its returns are named by words
pub record MessageHasWords (m : MessageDecl) : Type 0 where
  pub name : IsWord m.name
  pub params : AllByRecursion ParamHasWords m.params
  pub returns : IfSome m.returns (AllByRecursion ParamHasWords)

-- the protocols that another protocol names are words
abbrev pub NamesHaveWords : List NameAt → Type 0
NamesHaveWords names = AllByRecursion (λ n. IsWord n.name) names

-- a protocol's full name is of words, and each name in it is a word
pub record ProtocolHasWords (p : ProtocolDecl) : Type 0 where
  pub full : IsFullName p.full
  pub managers : NamesHaveWords p.managers
  pub manages : NamesHaveWords p.manages
  pub messages : AllByRecursion MessageHasWords p.messages

-- a struct's full name and the names in its fields are of words
pub record StructHasWords (s : StructDecl) : Type 0 where
  pub full : IsFullName s.full
  pub fields : AllByRecursion ParamHasWords s.fields

-- a union's full name and the names in its components are of words
pub record UnionHasWords (u : UnionDecl) : Type 0 where
  pub full : IsFullName u.full
  pub components : AllByRecursion TypeHasWords u.components

-- an include names a file by a word; a quoted text may be any
abbrev pub IncludeHasWord : IncludeKind → List ℕ → Type 0
IncludeHasWord include_kind.Protocol name = IsWord name
IncludeHasWord include_kind.Header name = IsWord name
IncludeHasWord include_kind.Quoted text = Unit {0}

-- The names in a file are words, or words joined by colons; what `using` declares and attributes may have other texts.
pub record HasWords (unit : FileUnit) : Type 0 where
  pub includes : AllByRecursion (λ i. IncludeHasWord i.kind i.name) unit.includes
  pub structs : AllByRecursion StructHasWords unit.structs
  pub unions : AllByRecursion UnionHasWords unit.unions
  pub protocol : IfSome unit.protocol ProtocolHasWords

-- Places

-- the place is in the file of this number
abbrev pub IsIn : ℕ → Place → Type 0
IsIn number place = place.file ≡ number

-- each attribute is in this file
abbrev pub AttributesAreIn : ℕ → List Attribute → Type 0
AttributesAreIn number attributes = AllByRecursion (λ a. IsIn number a.place) attributes

-- the types inside a base are in this file
abbrev pub BaseIsIn : ℕ → Base → Type 0
BaseIsIn number (Named name inner) = Unit {0}
BaseIsIn number (Unique' _ nullable inner after place) = IsIn number place × BaseIsIn number inner

-- a type and the types inside it are in this file
pub record TypeIsIn (number : ℕ) (spec : TypeSpec) : Type 0 where
  pub place : IsIn number spec.place
  pub base : BaseIsIn number spec.base

-- a parameter, a return or a field is in this file, with all its parts
pub record ParamIsIn (number : ℕ) (p : Param) : Type 0 where
  pub place : IsIn number p.place
  pub spec : TypeIsIn number p.spec
  pub attributes : AttributesAreIn number p.attributes

-- a message is in this file, with all its parts
pub record MessageIsIn (number : ℕ) (m : MessageDecl) : Type 0 where
  pub place : IsIn number m.place
  pub params : AllByRecursion (ParamIsIn number) m.params
  pub returns : IfSome m.returns (AllByRecursion (ParamIsIn number))
  pub attributes : AttributesAreIn number m.attributes

-- these names are in this file
abbrev pub NamesAreIn : ℕ → List NameAt → Type 0
NamesAreIn number names = AllByRecursion (λ n. IsIn number n.place) names

-- a protocol is in this file, with all its parts
pub record ProtocolIsIn (number : ℕ) (p : ProtocolDecl) : Type 0 where
  pub place : IsIn number p.place
  pub managers : NamesAreIn number p.managers
  pub manages : NamesAreIn number p.manages
  pub messages : AllByRecursion (MessageIsIn number) p.messages
  pub attributes : AttributesAreIn number p.attributes

-- a struct is in this file, with all its parts
pub record StructIsIn (number : ℕ) (s : StructDecl) : Type 0 where
  pub place : IsIn number s.place
  pub fields : AllByRecursion (ParamIsIn number) s.fields
  pub attributes : AttributesAreIn number s.attributes

-- a union is in this file, with all its parts
pub record UnionIsIn (number : ℕ) (u : UnionDecl) : Type 0 where
  pub place : IsIn number u.place
  pub components : AllByRecursion (TypeIsIn number) u.components
  pub attributes : AttributesAreIn number u.attributes

-- what `using` declares is in this file, with its attributes
pub record UsingIsIn (number : ℕ) (u : Using) : Type 0 where
  pub place : IsIn number u.place
  pub attributes : AttributesAreIn number u.attributes

-- All places in a file's tree are in the file of this number.
pub record HasPlacesOf (number : ℕ) (unit : FileUnit) : Type 0 where
  pub includes : AllByRecursion (λ i. IsIn number i.place) unit.includes
  pub usings : AllByRecursion (UsingIsIn number) unit.usings
  pub structs : AllByRecursion (StructIsIn number) unit.structs
  pub unions : AllByRecursion (UnionIsIn number) unit.unions
  pub protocol : IfSome unit.protocol (ProtocolIsIn number)
