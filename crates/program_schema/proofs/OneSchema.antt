-- A program has one schema, up to where boxes lie.
use Rattle.std.proofs.Common.{map-id, ◌≡◌, ◌↔◌, ◌∙◌, ℕ, Bool, true, false, true≢false, IsTrue, List, map, Option, Some, None, IsSomeAnd, option_map, refl, sym, ap, subst}
use Rattle.std.specs.List.{AllZip}
use Rattle.ipdl_base.specs.Plain.{plain_shape}
use Rattle.ipdl_base.specs.Sound.{MessageMentionsUncarried}
use Rattle.ipdl_base.specs.declared.kinds.Compress.{Compress}
use Rattle.ipdl_base.specs.declared.kinds.Direction.{Direction}
use Rattle.ipdl_base.specs.declared.kinds.Level.{Level}
use Rattle.ipdl_base.specs.declared.kinds.Semantics.{Semantics}
use Rattle.ipdl_base.specs.declared.schema.Kind.{Kind}
use Rattle.ipdl_base.specs.declared.schema.Kind.TheVariants.{Normal, Constructor, Delete}
use Rattle.ipdl_base.specs.declared.schema.MessageRow.{MessageRow}
use Rattle.ipdl_base.specs.declared.schema.ParamRow.{ParamRow}
use Rattle.ipdl_base.specs.declared.schema.ProtocolRow.{ProtocolRow}
use Rattle.ipdl_base.specs.declared.schema.Schema.{Schema}
use Rattle.ipdl_base.specs.declared.schema.Shape.{Shape}
use Rattle.ipdl_base.specs.declared.schema.TypeRow.{TypeRow}
use Rattle.ipdl_base.specs.declared.schema.TypeRow.TheVariants as row
use Rattle.ipdl_syntax.specs.declared.program.Entry.{Entry}
use Rattle.ipdl_syntax.specs.declared.tree.MessageDecl.{MessageDecl}
use Rattle.ipdl_syntax.specs.declared.tree.NameAt.{NameAt}
use Rattle.ipdl_syntax.specs.declared.tree.Param.{Param}
use Rattle.ipdl_syntax.specs.declared.tree.ProtocolDecl.{ProtocolDecl}
use Rattle.ipdl_syntax.specs.declared.tree.StructDecl.{StructDecl}
use Rattle.ipdl_syntax.specs.declared.tree.UnionDecl.{UnionDecl}
use Rattle.name_table.specs.declared.decl.DeclId.{DeclId}
use Rattle.name_table.specs.declared.decl.DeclId.TheVariants.{Builtin, Using, Struct, Union, Protocol, Endpoint}
use Rattle.name_table.specs.declared.kinds.MessageKind.TheVariants as kind
use Rattle.name_table.specs.Decls.{protocol_of, struct_of, union_of}
use Rattle.program_schema.specs.Laws.{OneSchema, plain_message_row, plain_param_row, plain_protocol_row, plain_schema, plain_type_row}
use Rattle.program_schema.specs.Numbers.{Numbering}
use Rattle.program_schema.specs.SchemaOf.{AreParamRows, AreReturnRows, AreRows, IsMessageRow, IsNumberOfName, IsParamRow, IsProtocolRow, IsRowKind, IsTypeRow}
use Rattle.program_schema.specs.Shapes.{IsShapeOf}
use Rattle.program_schema.proofs.Lists.{rows_of, same_rows}
use Rattle.program_schema.proofs.Numberings.{HasOneNumberEach, one_number_each, one_numbering}
use Rattle.program_schema.proofs.OneShape.{one_shape}
use Rattle.program_schema.proofs.Uncarried.{message_mentions}

-- Rows by their fields

abbrev param_of : List ℕ → Shape → ParamRow
param_of e0 e1 = record { name = e0; shape = e1 }

same_param : (a b : ParamRow) → a.name ≡ b.name → plain_shape a.shape ≡ plain_shape b.shape → plain_param_row a ≡ plain_param_row b
same_param a b p q =
    let same : param_of a.name (plain_shape a.shape) ≡ param_of b.name (plain_shape b.shape) = cc in
    same

abbrev message_of : ℕ → List ℕ → Direction → Semantics → Level → Compress → Kind → List ParamRow → Option (List ParamRow) → Bool → Bool → MessageRow
message_of e0 e1 e2 e3 e4 e5 e6 e7 e8 e9 e10 = record { number = e0; name = e1; direction = e2; semantics = e3; level = e4; compress = e5; kind = e6; params = e7; returns = e8; carried = e9; lazy = e10 }

same_message : (a b : MessageRow) → a.number ≡ b.number → a.name ≡ b.name → a.direction ≡ b.direction → a.semantics ≡ b.semantics → a.level ≡ b.level
    → a.compress ≡ b.compress → a.kind ≡ b.kind → a.params ≡ b.params → a.returns ≡ b.returns → a.carried ≡ b.carried → a.lazy ≡ b.lazy → a ≡ b
same_message a b e1 e2 e3 e4 e5 e6 e7 e8 e9 e10 e11 =
    let same : message_of a.number a.name a.direction a.semantics a.level a.compress a.kind a.params a.returns a.carried a.lazy ≡ message_of b.number b.name b.direction b.semantics b.level b.compress b.kind b.params b.returns b.carried b.lazy = cc in
    same

abbrev protocol_row_of : List ℕ → Semantics → Level → List ℕ → List ℕ → List MessageRow → ProtocolRow
protocol_row_of e0 e1 e2 e3 e4 e5 = record { name = e0; semantics = e1; level = e2; managers = e3; manages = e4; messages = e5 }

same_protocol : (a b : ProtocolRow) → a.name ≡ b.name → a.semantics ≡ b.semantics → a.level ≡ b.level → a.managers ≡ b.managers → a.manages ≡ b.manages → a.messages ≡ b.messages → a ≡ b
same_protocol a b e1 e2 e3 e4 e5 e6 =
    let same : protocol_row_of a.name a.semantics a.level a.managers a.manages a.messages ≡ protocol_row_of b.name b.semantics b.level b.managers b.manages b.messages = cc in
    same

abbrev schema_of : List ProtocolRow → List TypeRow → Schema
schema_of e0 e1 = record { protocols = e0; types = e1 }

same_schema : (a b : Schema) → map plain_protocol_row a.protocols ≡ map plain_protocol_row b.protocols → map plain_type_row a.types ≡ map plain_type_row b.types → plain_schema a ≡ plain_schema b
same_schema a b p q =
    let same : schema_of (map plain_protocol_row a.protocols) (map plain_type_row a.types) ≡ schema_of (map plain_protocol_row b.protocols) (map plain_type_row b.types) = cc in
    same

-- a test with the same meaning for two things
one_test : (a b : Bool) (P Q : Type 0) → (P → Q) → (Q → P) → IsTrue a ↔ ¬ P → IsTrue b ↔ ¬ Q → a ≡ b
one_test true true P Q to back p q = refl
one_test true false P Q to back p q = absurd (true≢false (sym (q.1 (λ h. p.0 refl (back h)))))
one_test false true P Q to back p q = absurd (true≢false (sym (p.1 (λ h. q.0 refl (to h)))))
one_test false false P Q to back p q = refl

-- Rows

module _ (program : List Entry) (n : Numbering) (each : HasOneNumberEach n) where
  pub one_number_of_name : (file : ℕ) (name : List ℕ) (a b : ℕ) → IsNumberOfName program n file name a → IsNumberOfName program n file name b → a ≡ b
  one_number_of_name file name a b p q =
      let same : Protocol q.0 ≡ Protocol p.0 = p.1.1 (Protocol q.0) q.1.0 in
      let files : q.0 ≡ p.0 = cc in
      each.files a b p.0 p.2 (q.2 ∙ ap Some files)

  one_param : (file : ℕ) (p : Param) (a b : ParamRow) → IsParamRow program n file p a → IsParamRow program n file p b → plain_param_row a ≡ plain_param_row b
  one_param file p a b x y = same_param a b (x.name ∙ sym y.name) (one_shape program n each file p.spec a.shape b.shape x.shape y.shape)

  one_params : (file : ℕ) (ps : List Param) (us vs : List ParamRow) → AreParamRows program n file ps us → AreParamRows program n file ps vs → map plain_param_row us ≡ map plain_param_row vs
  one_params file ps us vs x y =
      let Is = IsParamRow program n file in
      same_rows plain_param_row (λ k. Is) (λ k. Is) (λ k p a b. one_param file p a b) 0 ps us vs (rows_of Is 0 ps us x) (rows_of Is 0 ps vs y)

  one_returns : (file : ℕ) (ps : Option (List Param)) (us vs : Option (List ParamRow)) → AreReturnRows program n file ps us → AreReturnRows program n file ps vs → option_map (map plain_param_row) us ≡ option_map (map plain_param_row) vs
  one_returns file None None None x y = refl
  one_returns file None None (Some vs) x y = absurd y
  one_returns file None (Some us) vs x y = absurd x
  one_returns file (Some ps) None vs x y = absurd x
  one_returns file (Some ps) (Some us) None x y = absurd y
  one_returns file (Some ps) (Some us) (Some vs) x y = ap Some (one_params file ps us vs x y)

  one_kind : (file : ℕ) (p : ProtocolDecl) (m : MessageDecl) (a b : Kind) → IsRowKind program n file p m a → IsRowKind program n file p m b → a ≡ b
  one_kind file p m Normal Normal x y = refl
  one_kind file p m Normal (Constructor b) x y = let no : kind.Normal ≡ kind.Constructor = x ∙ sym y.0 in cc
  one_kind file p m Normal Delete x y = let no : kind.Normal ≡ kind.Destructor = x ∙ sym y in cc
  one_kind file p m (Constructor a) Normal x y = let no : kind.Constructor ≡ kind.Normal = x.0 ∙ sym y in cc
  one_kind file p m (Constructor a) (Constructor b) x y = ap Constructor (one_number_of_name file m.name a b x.1 y.1)
  one_kind file p m (Constructor a) Delete x y = let no : kind.Constructor ≡ kind.Destructor = x.0 ∙ sym y in cc
  one_kind file p m Delete Normal x y = let no : kind.Destructor ≡ kind.Normal = x ∙ sym y in cc
  one_kind file p m Delete (Constructor b) x y = let no : kind.Destructor ≡ kind.Constructor = x ∙ sym y.0 in cc
  one_kind file p m Delete Delete x y = refl

  one_message : (types others : List TypeRow) → map plain_type_row types ≡ map plain_type_row others → (number file : ℕ) (p : ProtocolDecl) (index : ℕ) (m : MessageDecl) (a b : MessageRow)
      → IsMessageRow program n types number file p index m a → IsMessageRow program n others number file p index m b → plain_message_row a ≡ plain_message_row b
  one_message types others same number file p index m a b x y =
      let params = one_params file m.params a.params b.params x.params y.params in
      let returns = one_returns file m.returns a.returns b.returns x.returns y.returns in
      let carried = one_test a.carried b.carried (MessageMentionsUncarried types a) (MessageMentionsUncarried others b) (message_mentions others types same a b params returns) (message_mentions types others (sym same) b a (sym params) (sym returns)) x.carried y.carried in
      same_message (plain_message_row a) (plain_message_row b) (x.number_is ∙ sym y.number_is) (x.name ∙ sym y.name) (x.direction ∙ sym y.direction) (x.semantics ∙ sym y.semantics) (x.level ∙ sym y.level)
      (x.compress ∙ sym y.compress) (one_kind file p m a.kind b.kind x.kind_is y.kind_is) params returns carried (x.lazy ∙ sym y.lazy)

  one_names : (file : ℕ) (names : List NameAt) (us vs : List ℕ) → AllZip (λ (at : NameAt) m. IsNumberOfName program n file at.name m) names us → AllZip (λ (at : NameAt) m. IsNumberOfName program n file at.name m) names vs → us ≡ vs
  one_names file names us vs x y =
      let Is = λ (at : NameAt) (m : ℕ). IsNumberOfName program n file at.name m in
      let same = same_rows (λ (m : ℕ). m) (λ k. Is) (λ k. Is) (λ k at a b. one_number_of_name file at.name a b) 0 names us vs (rows_of Is 0 names us x) (rows_of Is 0 names vs y) in
      sym (map-id us) ∙ same ∙ map-id vs

  one_protocol : (types others : List TypeRow) → map plain_type_row types ≡ map plain_type_row others → (number file : ℕ) (p : ProtocolDecl) (a b : ProtocolRow)
      → IsProtocolRow program n types number file p a → IsProtocolRow program n others number file p b → plain_protocol_row a ≡ plain_protocol_row b
  one_protocol types others same number file p a b x y =
      same_protocol (plain_protocol_row a) (plain_protocol_row b) (x.name ∙ sym y.name) (x.semantics ∙ sym y.semantics) (x.level ∙ sym y.level)
      (one_names file p.managers a.managers b.managers x.managers y.managers) (one_names file p.manages a.manages b.manages x.manages y.manages)
      (same_rows plain_message_row (IsMessageRow program n types number file p) (IsMessageRow program n others number file p) (one_message types others same number file p) 0 p.messages a.messages b.messages x.messages y.messages)

  one_of_file : (types others : List TypeRow) → map plain_type_row types ≡ map plain_type_row others → (number file : ℕ) (p : Option ProtocolDecl) (a b : ProtocolRow)
      → IsSomeAnd p (λ d. IsProtocolRow program n types number file d a) → IsSomeAnd p (λ d. IsProtocolRow program n others number file d b) → plain_protocol_row a ≡ plain_protocol_row b
  one_of_file types others same number file None a b x y = absurd x
  one_of_file types others same number file (Some p) a b x y = one_protocol types others same number file p a b x y

  one_struct : (file : ℕ) (s : Option StructDecl) (name other : List ℕ) (us vs : List ParamRow) → IsSomeAnd s (λ d. (name ≡ d.full) × AreParamRows program n file d.fields us) → IsSomeAnd s (λ d. (other ≡ d.full) × AreParamRows program n file d.fields vs)
      → plain_type_row (row.Struct name us) ≡ plain_type_row (row.Struct other vs)
  one_struct file None name other us vs x y = absurd x
  one_struct file (Some s) name other us vs x y =
      let names : name ≡ other = x.0 ∙ sym y.0 in
      let fields = one_params file s.fields us vs x.1 y.1 in
      cc

  one_union : (file : ℕ) (u : Option UnionDecl) (name other : List ℕ) (us vs : List Shape) → IsSomeAnd u (λ d. (name ≡ d.full) × AllZip (IsShapeOf program n file) d.components us) → IsSomeAnd u (λ d. (other ≡ d.full) × AllZip (IsShapeOf program n file) d.components vs)
      → plain_type_row (row.Union name us) ≡ plain_type_row (row.Union other vs)
  one_union file None name other us vs x y = absurd x
  one_union file (Some u) name other us vs x y =
      let names : name ≡ other = x.0 ∙ sym y.0 in
      let Is = IsShapeOf program n file in
      let components = same_rows plain_shape (λ k. Is) (λ k. Is) (λ k spec a b. one_shape program n each file spec a b) 0 u.components us vs (rows_of Is 0 u.components us x.1) (rows_of Is 0 u.components vs y.1) in
      cc

  one_type : (d : DeclId) (a b : TypeRow) → IsTypeRow program n d a → IsTypeRow program n d b → plain_type_row a ≡ plain_type_row b
  one_type (Struct file index) (row.Struct name us) (row.Struct other vs) x y = one_struct file (struct_of program file index) name other us vs x y
  one_type (Struct file index) (row.Struct name us) (row.Union other vs) x y = absurd y
  one_type (Struct file index) (row.Union name us) b x y = absurd x
  one_type (Union file index) (row.Union name us) (row.Union other vs) x y = one_union file (union_of program file index) name other us vs x y
  one_type (Union file index) (row.Union name us) (row.Struct other vs) x y = absurd y
  one_type (Union file index) (row.Struct name us) b x y = absurd x
  one_type (Builtin type) a b x y = absurd x
  one_type (Using file index) a b x y = absurd x
  one_type (Protocol file) a b x y = absurd x
  one_type (Endpoint file managed) a b x y = absurd x

  one_types_of : (ids : List DeclId) (us vs : List TypeRow) → AllZip (IsTypeRow program n) ids us → AllZip (IsTypeRow program n) ids vs → map plain_type_row us ≡ map plain_type_row vs
  one_types_of ids us vs x y =
      let Is = IsTypeRow program n in
      same_rows plain_type_row (λ k. Is) (λ k. Is) (λ k d a b. one_type d a b) 0 ids us vs (rows_of Is 0 ids us x) (rows_of Is 0 ids vs y)

-- Schemas

abbrev IsRowOfFile : List Entry → Numbering → List TypeRow → ℕ → ℕ → ProtocolRow → Type 0
IsRowOfFile program n types number file row = IsSomeAnd (protocol_of program file) (λ p. IsProtocolRow program n types number file p row)

-- a schema with a numbering
abbrev IsNumberedSchema : List Entry → Numbering → Schema → Type 0
IsNumberedSchema program n schema = AreRows (IsRowOfFile program n schema.types) 0 n.files schema.protocols × AllZip (IsTypeRow program n) n.types schema.types

one_numbered : (program : List Entry) (n : Numbering) (a b : Schema) → HasOneNumberEach n → IsNumberedSchema program n a → IsNumberedSchema program n b → plain_schema a ≡ plain_schema b
one_numbered program n a b each x y =
    let types = one_types_of program n each n.types a.types b.types x.1 y.1 in
    let protocols = same_rows plain_protocol_row (IsRowOfFile program n a.types) (IsRowOfFile program n b.types) (λ number file u v. one_of_file program n each a.types b.types types number file (protocol_of program file) u v) 0 n.files a.protocols b.protocols x.0 y.0 in
    same_schema a b protocols types

pub one_schema : OneSchema
one_schema program a b x y =
    let same = one_numbering program x.numbering y.numbering x.files x.ids y.files y.ids in
    one_numbered program x.numbering a b (one_number_each program x.numbering x.files x.ids) (x.protocols, x.types)
    (subst (λ (n : Numbering). IsNumberedSchema program n b) (sym same) (y.protocols, y.types))
