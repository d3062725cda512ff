-- Each type, parameter, message and protocol of a clean program has a row.
use Rattle.std.proofs.Common.{◌≡◌, ◌+◌, ◌*◌, ℕ, List, [], ◌∷◌, Option, Some, None, IsSome, refl, sym, true≢false}
use Rattle.std.specs.List.{AllZip, Contains}
use Rattle.std.specs.Option.{ForSome}
use Rattle.std.proofs.lemmas.List.Elements.{All-contains}
use Rattle.ipdl_base.specs.declared.schema.Kind.{Kind}
use Rattle.ipdl_base.specs.declared.schema.Kind.TheVariants.{Normal, Constructor, Delete}
use Rattle.ipdl_base.specs.declared.schema.MessageRow.{MessageRow}
use Rattle.ipdl_base.specs.declared.schema.ParamRow.{ParamRow}
use Rattle.ipdl_base.specs.declared.schema.ProtocolRow.{ProtocolRow}
use Rattle.ipdl_base.specs.declared.schema.TypeRow.{TypeRow}
use Rattle.ipdl_base.specs.declared.schema.TypeRow.TheVariants as row
use Rattle.ipdl_syntax.specs.declared.program.Entry.{Entry}
use Rattle.ipdl_syntax.specs.declared.tree.MessageDecl.{MessageDecl}
use Rattle.ipdl_syntax.specs.declared.tree.NameAt.{NameAt}
use Rattle.ipdl_syntax.specs.declared.tree.Param.{Param}
use Rattle.ipdl_syntax.specs.declared.tree.ProtocolDecl.{ProtocolDecl}
use Rattle.ipdl_syntax.specs.declared.tree.TypeSpec.{TypeSpec}
use Rattle.name_table.specs.declared.decl.DeclId.{DeclId}
use Rattle.name_table.specs.declared.decl.DeclId.TheVariants.{Builtin, Using, Struct, Union, Protocol, Endpoint}
use Rattle.name_table.specs.declared.kinds.MessageKind.{MessageKind}
use Rattle.name_table.specs.declared.kinds.MessageKind.TheVariants as kind
use Rattle.name_table.specs.Decls.{protocol_of, struct_of, union_of}
use Rattle.name_table.specs.Kinds.{IsKindOf, compress_of_message, is_lazy_message, kind_of_message, level_of_message, level_of_protocol}
use Rattle.name_table.proofs.Order.{in_front, in_tail}
use Rattle.program_schema.specs.Clean.{IsClean}
use Rattle.program_schema.specs.Numbers.{Numbering, place_of}
use Rattle.program_schema.specs.SchemaOf.{AreParamRows, AreReturnRows, AreRows, IsMessageRow, IsNumberOfName, IsParamRow, IsProtocolRow, IsRowKind, IsTypeRow}
use Rattle.program_schema.specs.Shapes.{IsShapeOf}
use Rattle.program_schema.proofs.Unbroken.{and_some}
use Rattle.actor_tables.specs.SchemaSource.{FindsSole, ParamsFindSole, NamesFindSole, MessageFindsSole, FindsSoleProtocol}
use Rattle.actor_tables.proofs.CleanProtocols.{protocol_sole}
use Rattle.actor_tables.proofs.CleanTypes.{struct_sole, union_sole}
use Rattle.schema_existence.proofs.Carried.{carried_flag}
use Rattle.schema_existence.proofs.Shapes.{IsNumberingOf, number_of_name, type_shape}
use Rattle.schema_existence.proofs.Types.{struct_there, union_there}

-- If each member has a row, there are rows.

pub rows_beside : {X Y : Type 0} (R : X → Y → Type 0) (xs : List X) → ((x : X) → Contains xs x → (y : Y) × R x y) → (ys : List Y) × AllZip R xs ys
rows_beside R [] each = ([], tt)
rows_beside R (x ∷ xs) each =
    let first = each x (in_front x xs) in
    let rest = rows_beside R xs (λ z h. each z (in_tail x xs z h)) in
    (first.0 ∷ rest.0, (first.1, rest.1))

pub rows_from : {X Y : Type 0} (R : ℕ → X → Y → Type 0) (index : ℕ) (xs : List X) → ((k : ℕ) (x : X) → Contains xs x → (y : Y) × R k x y) → (ys : List Y) × AreRows R index xs ys
rows_from R index [] each = ([], tt)
rows_from R index (x ∷ xs) each =
    let first = each index x (in_front x xs) in
    let rest = rows_from R (index + 1) xs (λ k z h. each k z (in_tail x xs z h)) in
    (first.0 ∷ rest.0, (first.1, rest.1))

module _ (program : List Entry) (n : Numbering) (numbered : IsNumberingOf program n) where
  param_rows : (file : ℕ) (params : List Param) → ParamsFindSole program file params → (rows : List ParamRow) × AreParamRows program n file params rows
  param_rows file params sole = rows_beside (IsParamRow program n file) params (λ p among.
      let s = type_shape program n numbered file p.spec (All-contains (λ (p : Param). FindsSole program file p.spec.base) params p sole among) in
      (record { name = p.name; shape = s.0 }, record { name = refl; shape = s.1 }))

  return_rows : (file : ℕ) (returns : Option (List Param)) → ForSome returns (ParamsFindSole program file) → (rows : Option (List ParamRow)) × AreReturnRows program n file returns rows
  return_rows file None sole = (None, tt)
  return_rows file (Some params) sole = let rows = param_rows file params (sole params refl) in (Some rows.0, rows.1)

  name_rows : (file : ℕ) (names : List NameAt) → NamesFindSole program file names → (rows : List ℕ) × AllZip (λ (at : NameAt) m. IsNumberOfName program n file at.name m) names rows
  name_rows file names sole = rows_beside (λ (at : NameAt) m. IsNumberOfName program n file at.name m) names (λ at among.
      number_of_name program n numbered file at.name (All-contains (λ (at : NameAt). FindsSoleProtocol program file at.name) names at sole among))

  row_kind : (file : ℕ) (p : ProtocolDecl) (m : MessageDecl) → (IsKindOf p m kind.Constructor → FindsSoleProtocol program file m.name) → (k : MessageKind) → IsKindOf p m k → (told : Kind) × IsRowKind program n file p m told
  row_kind file p m made kind.Normal is = (Normal, is)
  row_kind file p m made kind.Constructor is = let number = number_of_name program n numbered file m.name (made is) in (Constructor number.0, (is, number.1))
  row_kind file p m made kind.Destructor is = (Delete, is)

  message_row : (types : List TypeRow) (number file : ℕ) (p : ProtocolDecl) (index : ℕ) (m : MessageDecl) → MessageFindsSole program file p m → (told : MessageRow) × IsMessageRow program n types number file p index m told
  message_row types number file p index m sole =
      let params = param_rows file m.params sole.params in
      let returns = return_rows file m.returns sole.returns in
      let told = row_kind file p m sole.made (kind_of_message p m) refl in
      let carried = carried_flag types params.0 returns.0 in (
        record {
          number = number * 65536 + 2 * index;
          name = m.name;
          direction = m.direction;
          semantics = m.semantics;
          level = level_of_message m;
          compress = compress_of_message m;
          kind = told.0;
          params = params.0;
          returns = returns.0;
          carried = carried.0;
          lazy = is_lazy_message m;
        },
        record {
          number_is = refl;
          name = refl;
          direction = refl;
          semantics = refl;
          level = refl;
          compress = refl;
          kind_is = told.1;
          params = params.1;
          returns = returns.1;
          carried = carried.1;
          lazy = refl;
        },
      )

  -- the row of the protocol of a file
  pub protocol_row : IsClean program → (types : List TypeRow) (number file : ℕ) (p : ProtocolDecl) → protocol_of program file ≡ Some p → (told : ProtocolRow) × IsProtocolRow program n types number file p told
  protocol_row clean types number file p there =
      let sole = protocol_sole program file p clean there in
      let managers = name_rows file p.managers sole.managers in
      let manages = name_rows file p.manages sole.manages in
      let messages = rows_from (IsMessageRow program n types number file p) 0 p.messages (λ index m among. message_row types number file p index m (All-contains (MessageFindsSole program file p) p.messages m sole.messages among)) in (
        record { name = p.full; semantics = p.semantics; level = level_of_protocol p; managers = managers.0; manages = manages.0; messages = messages.0 },
        record { name = refl; semantics = refl; level = refl; managers = managers.1; manages = manages.1; messages = messages.1 },
      )

  -- the row of a struct or a union
  pub type_row : IsClean program → (d : DeclId) → IsSome (place_of program d) → (told : TypeRow) × IsTypeRow program n d told
  type_row clean (Struct file index) some =
      let s = struct_there program file index some in
      let fields = param_rows file s.0.fields (struct_sole program file index s.0 clean s.1) in
      (row.Struct s.0.full fields.0, and_some (struct_of program file index) (λ t. (s.0.full ≡ t.full) × AreParamRows program n file t.fields fields.0) s.0 s.1 (refl, fields.1))
  type_row clean (Union file index) some =
      let u = union_there program file index some in
      let sole = union_sole program file index u.0 clean u.1 in
      let components = rows_beside (IsShapeOf program n file) u.0.components (λ spec among. type_shape program n numbered file spec (All-contains (λ (t : TypeSpec). FindsSole program file t.base) u.0.components spec sole among)) in
      (row.Union u.0.full components.0, and_some (union_of program file index) (λ v. (u.0.full ≡ v.full) × AllZip (IsShapeOf program n file) v.components components.0) u.0 u.1 (refl, components.1))
  type_row clean (Builtin type) some = absurd (true≢false (sym some))
  type_row clean (Using file index) some = absurd (true≢false (sym some))
  type_row clean (Protocol file) some = absurd (true≢false (sym some))
  type_row clean (Endpoint file managed) some = absurd (true≢false (sym some))
