-- The two claims on all parts of a file's tree.
use Rattle.std.proofs.Common.{◌≡◌, ℕ, List}
use Rattle.std.specs.List.{AllByRecursion}
use Rattle.ipdl_base.specs.declared.finding.Place.{Place}
use Rattle.ipdl_base.specs.declared.token.Token.{Token}
use Rattle.ipdl_base.specs.declared.token.TokenKind.TheVariants.{Word}
use Rattle.ipdl_base.specs.Words.{IsWord, IsFullName}
use Rattle.ipdl_syntax.specs.declared.tree.Attribute.{Attribute}
use Rattle.ipdl_syntax.specs.declared.tree.Base.{Base}
use Rattle.ipdl_syntax.specs.declared.tree.Include.{Include}
use Rattle.ipdl_syntax.specs.declared.tree.IncludeKind.{IncludeKind}
use Rattle.ipdl_syntax.specs.declared.tree.MessageDecl.{MessageDecl}
use Rattle.ipdl_syntax.specs.declared.tree.NameAt.{NameAt}
use Rattle.ipdl_syntax.specs.declared.tree.Param.{Param}
use Rattle.ipdl_syntax.specs.declared.tree.ProtocolDecl.{ProtocolDecl}
use Rattle.ipdl_syntax.specs.declared.tree.StructDecl.{StructDecl}
use Rattle.ipdl_syntax.specs.declared.tree.TypeSpec.{TypeSpec}
use Rattle.ipdl_syntax.specs.declared.tree.UnionDecl.{UnionDecl}
use Rattle.ipdl_syntax.specs.declared.tree.Unit.{Unit as FileUnit}
use Rattle.ipdl_syntax.specs.declared.tree.Using.{Using}
use Rattle.ipdl_syntax.specs.Program.{Declarations}
use Rattle.ipdl_syntax.specs.Units.{BaseHasWords, TypeHasWords, ParamHasWords, MessageHasWords, ProtocolHasWords, StructHasWords, UnionHasWords, IncludeHasWord, HasWords, IsIn, BaseIsIn, TypeIsIn, ParamIsIn, MessageIsIn, ProtocolIsIn, StructIsIn, UnionIsIn, UsingIsIn, HasPlacesOf}

-- that names are words, or that places are in the file of this number
pub data Claim : Type 0 where
  of_words : Claim
  of_places : ℕ → Claim

-- the claim of a token
abbrev pub Good : Claim → Token → Type 0
Good of_words t = t.kind ≡ Word → IsWord t.text
Good (of_places n) t = t.place.file ≡ n

-- of a word's text
abbrev pub OfWord : Claim → List ℕ → Type 0
OfWord of_words text = IsWord text
OfWord (of_places n) text = Unit {0}

-- of a full name
abbrev pub OfName : Claim → List ℕ → Type 0
OfName of_words name = IsFullName name
OfName (of_places n) name = Unit {0}

-- of a place
abbrev pub OfPlace : Claim → Place → Type 0
OfPlace of_words place = Unit {0}
OfPlace (of_places n) place = IsIn n place

-- of attributes
abbrev pub OfAttributes : Claim → List Attribute → Type 0
OfAttributes claim attributes = AllByRecursion (λ a. OfPlace claim a.place) attributes

-- of a base
abbrev pub OfBase : Claim → Base → Type 0
OfBase of_words b = BaseHasWords b
OfBase (of_places n) b = BaseIsIn n b

-- of a type
abbrev pub OfType : Claim → TypeSpec → Type 0
OfType of_words spec = TypeHasWords spec
OfType (of_places n) spec = TypeIsIn n spec

-- of a parameter, a return or a field
abbrev pub OfParam : Claim → Param → Type 0
OfParam of_words p = ParamHasWords p
OfParam (of_places n) p = ParamIsIn n p

-- of a message
abbrev pub OfMessage : Claim → MessageDecl → Type 0
OfMessage of_words m = MessageHasWords m
OfMessage (of_places n) m = MessageIsIn n m

-- of a name with its place
abbrev pub OfNameAt : Claim → NameAt → Type 0
OfNameAt of_words x = IsWord x.name
OfNameAt (of_places n) x = IsIn n x.place

-- of a protocol
abbrev pub OfProtocol : Claim → ProtocolDecl → Type 0
OfProtocol of_words p = ProtocolHasWords p
OfProtocol (of_places n) p = ProtocolIsIn n p

-- of a struct
abbrev pub OfStruct : Claim → StructDecl → Type 0
OfStruct of_words s = StructHasWords s
OfStruct (of_places n) s = StructIsIn n s

-- of a union
abbrev pub OfUnion : Claim → UnionDecl → Type 0
OfUnion of_words u = UnionHasWords u
OfUnion (of_places n) u = UnionIsIn n u

-- of what `using` declares
abbrev pub OfUsing : Claim → Using → Type 0
OfUsing of_words u = Unit {0}
OfUsing (of_places n) u = UsingIsIn n u

-- of what an include names
abbrev pub OfIncluded : Claim → IncludeKind → List ℕ → Place → Type 0
OfIncluded of_words kind name place = IncludeHasWord kind name
OfIncluded (of_places n) kind name place = IsIn n place

-- of an include
abbrev pub OfInclude : Claim → Include → Type 0
OfInclude of_words i = IncludeHasWord i.kind i.name
OfInclude (of_places n) i = IsIn n i.place

-- of declarations
pub record OfDeclared (claim : Claim) (all : Declarations) : Type 0 where
  pub includes : AllByRecursion (OfInclude claim) all.includes
  pub usings : AllByRecursion (OfUsing claim) all.usings
  pub structs : AllByRecursion (OfStruct claim) all.structs
  pub unions : AllByRecursion (OfUnion claim) all.unions

-- of a file
abbrev pub OfUnit : Claim → FileUnit → Type 0
OfUnit of_words unit = HasWords unit
OfUnit (of_places n) unit = HasPlacesOf n unit
