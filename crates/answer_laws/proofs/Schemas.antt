-- Programs that are alike have the same schemas.
use Rattle.std.proofs.Common.{◌≡◌, ◌∙◌, ℕ, List, Option, Some, None, IsSomeAnd, map, refl, sym, ap, subst}
use Rattle.std.specs.Prelude.{option_map, IsSome}
use Rattle.std.specs.List.{AllZip}
use Rattle.std.specs.Cmp.Lexicographic.{slice_cmp}
use Rattle.std.specs.Ordering.{nat_cmp}
use Rattle.std.specs.declared.cmp.Ordering.TheVariants.{Less}
use Rattle.ipdl_base.specs.declared.schema.Kind.{Kind}
use Rattle.ipdl_base.specs.declared.schema.Kind.TheVariants.{Normal, Constructor, Delete}
use Rattle.ipdl_base.specs.declared.schema.MessageRow.{MessageRow}
use Rattle.ipdl_base.specs.declared.schema.ParamRow.{ParamRow}
use Rattle.ipdl_base.specs.declared.schema.ProtocolRow.{ProtocolRow}
use Rattle.ipdl_base.specs.declared.schema.Schema.{Schema}
use Rattle.ipdl_base.specs.declared.schema.TypeRow.{TypeRow}
use Rattle.ipdl_base.specs.declared.schema.TypeRow.TheVariants as row
use Rattle.ipdl_syntax.specs.declared.program.Entry.{Entry}
use Rattle.ipdl_syntax.specs.declared.tree.MessageDecl.{MessageDecl}
use Rattle.ipdl_syntax.specs.declared.tree.NameAt.{NameAt}
use Rattle.ipdl_syntax.specs.declared.tree.Param.{Param}
use Rattle.ipdl_syntax.specs.declared.tree.ProtocolDecl.{ProtocolDecl}
use Rattle.grammar_laws.specs.Boxes.{unboxed_type, unboxed_param, unboxed_message, unboxed_protocol, unboxed_struct, unboxed_union}
use Rattle.name_table.specs.declared.decl.DeclId.{DeclId}
use Rattle.name_table.specs.declared.decl.DeclId.TheVariants.{Builtin, Using, Struct, Union, Protocol, Endpoint}
use Rattle.name_table.specs.declared.kinds.MessageKind.TheVariants as kind
use Rattle.name_table.specs.Decls.{protocol_of, struct_of, union_of}
use Rattle.name_table.specs.Kinds.{compress_of_message, is_lazy_message, level_of_message, level_of_protocol}
use Rattle.program_schema.specs.Numbers.{Numbering, IsNamedBefore, AreProtocolFiles, place_of, AreTypes}
use Rattle.program_schema.specs.Shapes.{IsShapeOf}
use Rattle.program_schema.specs.SchemaOf.{IsParamRow, AreParamRows, AreReturnRows, IsNumberOfName, IsRowKind, IsMessageRow, IsProtocolRow, IsTypeRow, IsSchemaOf}
use Rattle.answer_laws.specs.Programs.{AreProgramsAlike}
use Rattle.answer_laws.proofs.Lists.{has_alike, option_alike, option_map_alike, rows_alike, some_alike, zip_alike}
use Rattle.answer_laws.proofs.Names.{one_protocol_alike, protocol_alike, struct_alike, union_alike}
use Rattle.answer_laws.proofs.Protocols.{SameProtocol, SameMessage, returns_alike}
use Rattle.answer_laws.proofs.Messages.{kind_alike}
use Rattle.answer_laws.proofs.Shapes.{shape_alike}

-- Numbers

module _ (program other : List Entry) (alike : AreProgramsAlike program other) where
  named_before : (file there : ℕ) → IsNamedBefore program file there → IsNamedBefore other file there
  named_before file there before p q at found =
      let one = some_alike unboxed_protocol (protocol_of other file) (protocol_of program file) (protocol_alike other program (sym alike) file) p at in
      let two = some_alike unboxed_protocol (protocol_of other there) (protocol_of program there) (protocol_alike other program (sym alike) there) q found in
      subst (λ (x : ProtocolDecl). slice_cmp nat_cmp x.full q.full ≡ Less) (sym one.2) (subst (λ (x : ProtocolDecl). slice_cmp nat_cmp (one.0).full x.full ≡ Less) (sym two.2) (before one.0 two.0 one.1 two.1))

  protocol_files : (files : List ℕ) → AreProtocolFiles program files → AreProtocolFiles other files
  protocol_files files are = record {
    ordered = λ i j d before within. named_before _ _ (are.ordered i j d before within);
    exact = λ file. (
      λ among. has_alike unboxed_protocol (protocol_of program file) (protocol_of other file) (protocol_alike program other alike file) ((are.exact file).0 among),
      λ some. (are.exact file).1 (has_alike unboxed_protocol (protocol_of other file) (protocol_of program file) (protocol_alike other program (sym alike) file) some),
    );
  }

  place_alike : (d : DeclId) → place_of program d ≡ place_of other d
  place_alike (Struct file index) = option_map_alike unboxed_struct (λ s. s.place) (λ s. refl) (struct_of program file index) (struct_of other file index) (struct_alike program other alike file index)
  place_alike (Union file index) = option_map_alike unboxed_union (λ u. u.place) (λ u. refl) (union_of program file index) (union_of other file index) (union_alike program other alike file index)
  place_alike (Builtin type) = refl
  place_alike (Using file index) = refl
  place_alike (Protocol file) = refl
  place_alike (Endpoint file managed) = refl

  types_numbered : (types : List DeclId) → AreTypes program types → AreTypes other types
  types_numbered types are = record {
    ordered = λ i j d before within p q at found. are.ordered i j d before within p q (place_alike _ ∙ at) (place_alike _ ∙ found);
    exact = λ d. (
      λ among. subst IsSome (place_alike d) ((are.exact d).0 among),
      λ some. (are.exact d).1 (subst IsSome (sym (place_alike d)) some),
    );
  }

-- Rows

module _ (program other : List Entry) (alike : AreProgramsAlike program other) (n : Numbering) (file : ℕ) where
  number_alike : (name : List ℕ) (number : ℕ) → IsNumberOfName program n file name number → IsNumberOfName other n file name number
  number_alike name number is = (is.0, one_protocol_alike program other alike file name is.0 is.1, is.2)

  numbers_alike : (names others : List NameAt) (numbers : List ℕ) → names ≡ others → AllZip (λ (at : NameAt) m. IsNumberOfName program n file at.name m) names numbers → AllZip (λ (at : NameAt) m. IsNumberOfName other n file at.name m) others numbers
  numbers_alike names others numbers same are =
      zip_alike (λ (at : NameAt). at) (λ at m. IsNumberOfName program n file at.name m) (λ at m. IsNumberOfName other n file at.name m)
      (λ a b m is number. subst (λ (x : NameAt). IsNumberOfName other n file x.name m) is (number_alike a.name m number)) names others numbers (ap (map (λ (at : NameAt). at)) same) are

  param_row : (p q : Param) (r : ParamRow) → unboxed_param p ≡ unboxed_param q → IsParamRow program n file p r → IsParamRow other n file q r
  param_row p q r same is = record {
    name = is.name ∙ (λ i. (same i).name);
    shape = shape_alike program other alike n file p.spec q.spec (λ i. (same i).spec) r.shape is.shape;
  }

  param_rows : (ps qs : List Param) (rs : List ParamRow) → map unboxed_param ps ≡ map unboxed_param qs → AreParamRows program n file ps rs → AreParamRows other n file qs rs
  param_rows ps qs rs same are = zip_alike unboxed_param (IsParamRow program n file) (IsParamRow other n file) param_row ps qs rs same are

  return_rows : (a b : Option (List Param)) (rs : Option (List ParamRow)) → option_map (map unboxed_param) a ≡ option_map (map unboxed_param) b → AreReturnRows program n file a rs → AreReturnRows other n file b rs
  return_rows None None None same are = tt
  return_rows None None (Some rs) same are = absurd are
  return_rows None (Some qs) rs same are = absurd (let no : ⊥ = cc in no)
  return_rows (Some ps) None rs same are = absurd (let no : ⊥ = cc in no)
  return_rows (Some ps) (Some qs) None same are = absurd are
  return_rows (Some ps) (Some qs) (Some rs) same are = let params : map unboxed_param ps ≡ map unboxed_param qs = cc in param_rows ps qs rs params are

  row_kind : (p q : ProtocolDecl) (m o : MessageDecl) (k : Kind) → SameProtocol p q → SameMessage m o → IsRowKind program n file p m k → IsRowKind other n file q o k
  row_kind p q m o Normal at same is = kind_alike p q m o kind.Normal at same is
  row_kind p q m o (Constructor number) at same is =
      (kind_alike p q m o kind.Constructor at same is.0, subst (λ (x : MessageDecl). IsNumberOfName other n file x.name number) same (number_alike m.name number is.1))
  row_kind p q m o Delete at same is = kind_alike p q m o kind.Destructor at same is

  message_row : (types : List TypeRow) (number : ℕ) (p q : ProtocolDecl) → SameProtocol p q → (index : ℕ) (m o : MessageDecl) (r : MessageRow) → SameMessage m o → IsMessageRow program n types number file p index m r → IsMessageRow other n types number file q index o r
  message_row types number p q at index m o r same is = record {
    number_is = is.number_is;
    name = is.name ∙ (λ i. (same i).name);
    direction = is.direction ∙ (λ i. (same i).direction);
    semantics = is.semantics ∙ (λ i. (same i).semantics);
    level = is.level ∙ (λ i. level_of_message (same i));
    compress = is.compress ∙ (λ i. compress_of_message (same i));
    kind_is = row_kind p q m o r.kind at same is.kind_is;
    params = param_rows m.params o.params r.params (λ i. (same i).params) is.params;
    returns = return_rows m.returns o.returns r.returns (returns_alike m o same) is.returns;
    carried = is.carried;
    lazy = is.lazy ∙ (λ i. is_lazy_message (same i));
  }

  protocol_row : (types : List TypeRow) (number : ℕ) (r : ProtocolRow) (p q : ProtocolDecl) → SameProtocol p q → IsProtocolRow program n types number file p r → IsProtocolRow other n types number file q r
  protocol_row types number r p q same is = record {
    name = is.name ∙ (λ i. (same i).full);
    semantics = is.semantics ∙ (λ i. (same i).semantics);
    level = is.level ∙ (λ i. level_of_protocol (same i));
    managers = numbers_alike p.managers q.managers r.managers (λ i. (same i).managers) is.managers;
    manages = numbers_alike p.manages q.manages r.manages (λ i. (same i).manages) is.manages;
    messages = rows_alike unboxed_message (IsMessageRow program n types number file p) (IsMessageRow other n types number file q) (message_row types number p q same) 0 p.messages q.messages r.messages (λ i. (same i).messages) is.messages;
  }

module _ (program other : List Entry) (alike : AreProgramsAlike program other) (n : Numbering) where
  type_row : (d : DeclId) (r : TypeRow) → IsTypeRow program n d r → IsTypeRow other n d r
  type_row (Struct file index) (row.Struct name fields) is =
      option_alike unboxed_struct (λ s. (name ≡ s.full) × AreParamRows program n file s.fields fields) (λ s. (name ≡ s.full) × AreParamRows other n file s.fields fields)
      (λ s t same rows. (rows.0 ∙ (λ i. (same i).full), param_rows program other alike n file s.fields t.fields fields (λ i. (same i).fields) rows.1)) (struct_of program file index) (struct_of other file index) (struct_alike program other alike file index) is
  type_row (Union file index) (row.Union name components) is =
      option_alike unboxed_union (λ u. (name ≡ u.full) × AllZip (IsShapeOf program n file) u.components components) (λ u. (name ≡ u.full) × AllZip (IsShapeOf other n file) u.components components)
      (λ u v same rows. (
        rows.0 ∙ (λ i. (same i).full),
        zip_alike unboxed_type (IsShapeOf program n file) (IsShapeOf other n file) (λ s t w looks is. shape_alike program other alike n file s t looks w is) u.components v.components components (λ i. (same i).components) rows.1,
      ))
      (union_of program file index) (union_of other file index) (union_alike program other alike file index) is
  type_row _ _ is = absurd is

  protocol_rows : (types : List TypeRow) (number file : ℕ) (r : ProtocolRow) → IsSomeAnd (protocol_of program file) (λ p. IsProtocolRow program n types number file p r) → IsSomeAnd (protocol_of other file) (λ p. IsProtocolRow other n types number file p r)
  protocol_rows types number file r is =
      option_alike unboxed_protocol (λ p. IsProtocolRow program n types number file p r) (λ p. IsProtocolRow other n types number file p r) (protocol_row program other alike n file types number r) (protocol_of program file) (protocol_of other file) (protocol_alike program other alike file) is

pub schemas_alike : (program other : List Entry) (schema : Schema) → AreProgramsAlike program other → IsSchemaOf program schema → IsSchemaOf other schema
schemas_alike program other schema alike is = record {
  numbering = is.numbering;
  files = protocol_files program other alike is.numbering.files is.files;
  ids = types_numbered program other alike is.numbering.types is.ids;
  protocols = rows_alike (λ (file : ℕ). file) (λ number file r. IsSomeAnd (protocol_of program file) (λ p. IsProtocolRow program is.numbering schema.types number file p r)) (λ number file r. IsSomeAnd (protocol_of other file) (λ p. IsProtocolRow other is.numbering schema.types number file p r))
      (λ number file there r same has. subst (λ (k : ℕ). IsSomeAnd (protocol_of other k) (λ p. IsProtocolRow other is.numbering schema.types number k p r)) same (protocol_rows program other alike is.numbering schema.types number file r has))
      0 is.numbering.files is.numbering.files schema.protocols refl is.protocols;
  types = zip_alike (λ (d : DeclId). d) (IsTypeRow program is.numbering) (IsTypeRow other is.numbering) (λ d e r same has. subst (λ (k : DeclId). IsTypeRow other is.numbering k r) same (type_row program other alike is.numbering d r has)) is.numbering.types is.numbering.types schema.types refl is.types;
}
