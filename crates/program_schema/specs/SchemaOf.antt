-- The schema of a program.
use Rattle.std.specs.Prelude.{◌≡◌, ◌↔◌, ℕ, ◌+◌, ◌*◌, List, [], ◌∷◌, Option, Some, None, IsSomeAnd, IsTrue}
use Rattle.std.specs.List.{AllZip}
use Rattle.ipdl_base.specs.Sound.{MessageMentionsUncarried}
use Rattle.ipdl_base.specs.declared.schema.Kind.{Kind}
use Rattle.ipdl_base.specs.declared.schema.Kind.TheVariants.{Normal, Constructor, Delete}
use Rattle.ipdl_base.specs.declared.schema.MessageRow.{MessageRow}
use Rattle.ipdl_base.specs.declared.schema.ParamRow.{ParamRow}
use Rattle.ipdl_base.specs.declared.schema.ProtocolRow.{ProtocolRow}
use Rattle.ipdl_base.specs.declared.schema.Schema.{Schema}
use Rattle.ipdl_base.specs.declared.schema.TypeRow.{TypeRow}
use Rattle.ipdl_base.specs.declared.schema.TypeRow.TheVariants as row
use Rattle.ipdl_syntax.specs.declared.program.Entry.{Entry}
use Rattle.ipdl_syntax.specs.declared.tree.MessageDecl.{MessageDecl}
use Rattle.ipdl_syntax.specs.declared.tree.NameAt.{NameAt}
use Rattle.ipdl_syntax.specs.declared.tree.Param.{Param}
use Rattle.ipdl_syntax.specs.declared.tree.ProtocolDecl.{ProtocolDecl}
use Rattle.name_table.specs.declared.decl.DeclId.{DeclId}
use Rattle.name_table.specs.declared.decl.DeclId.TheVariants.{Struct, Union}
use Rattle.name_table.specs.declared.kinds.MessageKind.TheVariants as kind
use Rattle.name_table.specs.Decls.{FindsOneProtocol, protocol_of, struct_of, union_of}
use Rattle.name_table.specs.Kinds.{IsKindOf, compress_of_message, is_lazy_message, level_of_message, level_of_protocol}
use Rattle.program_schema.specs.Numbers.{Numbering, IsProtocolNumber, AreProtocolFiles, AreTypes}
use Rattle.program_schema.specs.Shapes.{IsShapeOf}

-- each of these has its row at its index, counted from this one on
abbrev pub AreRows : {X Y : Type 0} → (ℕ → X → Y → Type 0) → ℕ → List X → List Y → Type 0
AreRows IsRow index [] [] = Unit {0}
AreRows IsRow index (x ∷ xs) (y ∷ ys) = IsRow index x y × AreRows IsRow (index + 1) xs ys
AreRows IsRow index _ _ = ⊥

-- the row of a parameter, a return or a field
pub record IsParamRow (program : List Entry) (n : Numbering) (file : ℕ) (p : Param) (row : ParamRow) : Type 0 where
  pub name : row.name ≡ p.name
  pub shape : IsShapeOf program n file p.spec row.shape

abbrev pub AreParamRows : List Entry → Numbering → ℕ → List Param → List ParamRow → Type 0
AreParamRows program n file = AllZip (IsParamRow program n file)

-- the rows of returns, if there are returns
abbrev pub AreReturnRows : List Entry → Numbering → ℕ → Option (List Param) → Option (List ParamRow) → Type 0
AreReturnRows program n file None None = Unit {0}
AreReturnRows program n file (Some params) (Some rows) = AreParamRows program n file params rows
AreReturnRows program n file _ _ = ⊥

-- in a file a name finds one protocol, which has this number
abbrev pub IsNumberOfName : List Entry → Numbering → ℕ → List ℕ → ℕ → Type 0
IsNumberOfName program n file name number = (other : ℕ) × FindsOneProtocol program file name other × IsProtocolNumber n number other

-- the kind of a message; that of a constructor has the number of the protocol that its name finds
abbrev pub IsRowKind : List Entry → Numbering → ℕ → ProtocolDecl → MessageDecl → Kind → Type 0
IsRowKind program n file p m Normal = IsKindOf p m kind.Normal
IsRowKind program n file p m (Constructor number) = IsKindOf p m kind.Constructor × IsNumberOfName program n file m.name number
IsRowKind program n file p m Delete = IsKindOf p m kind.Destructor

-- The row of the message at an index of the protocol with this number in this file, by these rows of types.
pub record IsMessageRow (program : List Entry) (n : Numbering) (types : List TypeRow) (number file : ℕ) (p : ProtocolDecl) (index : ℕ) (m : MessageDecl) (row : MessageRow) : Type 0 where
  pub number_is : row.number ≡ number * 65536 + 2 * index
  pub name : row.name ≡ m.name
  pub direction : row.direction ≡ m.direction
  pub semantics : row.semantics ≡ m.semantics
  pub level : row.level ≡ level_of_message m
  pub compress : row.compress ≡ compress_of_message m
  pub kind_is : IsRowKind program n file p m row.kind
  pub params : AreParamRows program n file m.params row.params
  pub returns : AreReturnRows program n file m.returns row.returns
  pub carried : IsTrue row.carried ↔ ¬ MessageMentionsUncarried types row
  pub lazy : row.lazy ≡ is_lazy_message m

-- The row of the protocol of a file.
pub record IsProtocolRow (program : List Entry) (n : Numbering) (types : List TypeRow) (number file : ℕ) (p : ProtocolDecl) (row : ProtocolRow) : Type 0 where
  pub name : row.name ≡ p.full
  pub semantics : row.semantics ≡ p.semantics
  pub level : row.level ≡ level_of_protocol p
  pub managers : AllZip (λ (at : NameAt) m. IsNumberOfName program n file at.name m) p.managers row.managers
  pub manages : AllZip (λ (at : NameAt) m. IsNumberOfName program n file at.name m) p.manages row.manages
  pub messages : AreRows (IsMessageRow program n types number file p) 0 p.messages row.messages

-- the row of a struct or a union
abbrev pub IsTypeRow : List Entry → Numbering → DeclId → TypeRow → Type 0
IsTypeRow program n (Struct file index) (row.Struct name fields) =
    IsSomeAnd (struct_of program file index) (λ s. (name ≡ s.full) × AreParamRows program n file s.fields fields)
IsTypeRow program n (Union file index) (row.Union name components) =
    IsSomeAnd (union_of program file index) (λ u. (name ≡ u.full) × AllZip (IsShapeOf program n file) u.components components)
IsTypeRow program n _ _ = ⊥

-- The schema of a program: a row for each of its protocols, in the order of their full names, and for each of its
-- structs and unions, in text order.
pub record IsSchemaOf (program : List Entry) (schema : Schema) : Type 0 where
  pub numbering : Numbering
  pub files : AreProtocolFiles program numbering.files
  pub ids : AreTypes program numbering.types
  pub protocols : AreRows (λ number file row. IsSomeAnd (protocol_of program file) (λ p. IsProtocolRow program numbering schema.types number file p row)) 0 numbering.files schema.protocols
  pub types : AllZip (IsTypeRow program numbering) numbering.types schema.types
