-- In the schema of a clean program each type is defined.
use Rattle.std.proofs.Common.{◌≡◌, ◌∙◌, inl, inr, ◌<◌, ℕ, Bool, List, length, Some, slice_get, sym, subst, arith}
use Rattle.std.specs.List.{AllZip, Contains}
use Rattle.std.proofs.lemmas.Option.{slice_get_cases}
use Rattle.ipdl_base.specs.Sound.{IsDefined}
use Rattle.ipdl_base.specs.Sound as sound
use Rattle.ipdl_base.specs.declared.schema.Shape.{Shape}
use Rattle.ipdl_base.specs.declared.schema.Shape as shape
use Rattle.ipdl_base.specs.declared.schema.TypeRow.{TypeRow}
use Rattle.ipdl_base.specs.declared.schema.TypeRow.TheVariants as row
use Rattle.ipdl_syntax.specs.declared.program.Entry.{Entry}
use Rattle.ipdl_syntax.specs.declared.tree.Base.{Base}
use Rattle.ipdl_syntax.specs.declared.tree.Param.{Param}
use Rattle.ipdl_syntax.specs.declared.tree.StructDecl.{StructDecl}
use Rattle.ipdl_syntax.specs.declared.tree.Suffix.{Suffix}
use Rattle.ipdl_syntax.specs.declared.tree.TypeSpec.{TypeSpec}
use Rattle.ipdl_syntax.specs.declared.tree.UnionDecl.{UnionDecl}
use Rattle.name_table.specs.declared.decl.DeclId.{DeclId}
use Rattle.name_table.specs.declared.decl.DeclId.TheVariants.{Builtin, Using, Struct, Union, Protocol, Endpoint}
use Rattle.name_table.specs.Decls.{struct_of, union_of}
use Rattle.type_rules.specs.Defined.{IsCompound}
use Rattle.type_rules.specs.Defined.{IsDefined as IsDefinedBase, loose, atom, struct, union, inside}
use Rattle.program_schema.specs.Clean.{IsClean}
use Rattle.program_schema.specs.Numbers.{Numbering}
use Rattle.program_schema.specs.SchemaOf.{AreParamRows, IsTypeRow}
use Rattle.program_schema.specs.Shapes.{IsShapeOf, IsShapeOfBase, IsShapeOfDecl, IsSuffixed}
use Rattle.program_schema.proofs.DefinedOrNot.{defined_undenied}
use Rattle.program_schema.proofs.Lists.{in_place, place_in, row_had, row_of, rows_of}
use Rattle.program_schema.proofs.Numbered.{suffixes_keep}
use Rattle.program_schema.proofs.OneShape.{builtin_shape, using_shape, struct_shape, union_shape, protocol_shape, endpoint_shape, unique_shape}
use Rattle.program_schema.proofs.Unbroken.{some_and, struct_undenied, union_undenied}

module _ (program : List Entry) (n : Numbering) (types : List TypeRow) (rows : AllZip (IsTypeRow program n) n.types types) where
  -- with suffixes a shape is defined if it is without them
  with_suffixes : (after : List Suffix) (Holds : Shape → Type 0) → ((s : Shape) → Holds s → IsDefined types s) → (s : Shape) → IsSuffixed Holds after s → IsDefined types s
  with_suffixes = suffixes_keep (IsDefined types) (λ at s d. sound.array d) (λ at s d. sound.maybe d)

  -- the type of a struct is defined if the shapes of its fields are
  struct_row_defined : (t file index : ℕ) (r : TypeRow) (s : StructDecl) → slice_get types t ≡ Some r → IsTypeRow program n (Struct file index) r → struct_of program file index ≡ Some s
      → ((field : Param) → Contains s.fields field → (u : Shape) → IsShapeOf program n file field.spec u → IsDefined types u) → IsDefined types (shape.Named t)
  struct_row_defined t file index (row.Union name components) s at is there each = absurd is
  struct_row_defined t file index (row.Struct name fields) s at is there each =
      let its = some_and (struct_of program file index) _ is in
      let one : Some its.0 ≡ Some s = sym its.1 ∙ there in
      let same : its.0 ≡ s = cc in
      let params : AreParamRows program n file s.fields fields = subst (λ (d : StructDecl). AreParamRows program n file d.fields fields) same its.2.1 in
      sound.struct name fields at (λ field among.
      let place = place_in fields field among in
      let had = row_had _ s.fields fields (rows_of _ 0 s.fields fields params) place.0 field place.1 in
      each had.0 (in_place s.fields place.0 had.0 had.1) field.shape had.2.shape)

  struct_defined : (t file index : ℕ) (s : StructDecl) → slice_get n.types t ≡ Some (Struct file index) → struct_of program file index ≡ Some s
      → ((field : Param) → Contains s.fields field → (u : Shape) → IsShapeOf program n file field.spec u → IsDefined types u) → IsDefined types (shape.Named t)
  struct_defined t file index s at there each =
      let r = row_of _ n.types types (rows_of _ 0 n.types types rows) t (Struct file index) at in
      struct_row_defined t file index r.0 s r.1 r.2 there each

  -- the type of a union is defined if the shape of one component is
  union_row_defined : (t file index : ℕ) (r : TypeRow) (u : UnionDecl) (component : TypeSpec) → slice_get types t ≡ Some r → IsTypeRow program n (Union file index) r → union_of program file index ≡ Some u → Contains u.components component
      → ((s : Shape) → IsShapeOf program n file component s → IsDefined types s) → IsDefined types (shape.Named t)
  union_row_defined t file index (row.Struct name fields) u component at is there among each = absurd is
  union_row_defined t file index (row.Union name components) u component at is there among each =
      let its = some_and (union_of program file index) _ is in
      let one : Some its.0 ≡ Some u = sym its.1 ∙ there in
      let same : its.0 ≡ u = cc in
      let shapes : AllZip (IsShapeOf program n file) u.components components = subst (λ (d : UnionDecl). AllZip (IsShapeOf program n file) d.components components) same its.2.1 in
      let place = place_in u.components component among in
      let its_row = row_of _ u.components components (rows_of _ 0 u.components components shapes) place.0 component place.1 in
      sound.union name components its_row.0 at (in_place components place.0 its_row.0 its_row.1) (each its_row.0 its_row.2)

  union_defined : (t file index : ℕ) (u : UnionDecl) (component : TypeSpec) → slice_get n.types t ≡ Some (Union file index) → union_of program file index ≡ Some u → Contains u.components component
      → ((s : Shape) → IsShapeOf program n file component s → IsDefined types s) → IsDefined types (shape.Named t)
  union_defined t file index u component at there among each =
      let r = row_of _ n.types types (rows_of _ 0 n.types types rows) t (Union file index) at in
      union_row_defined t file index r.0 u component r.1 r.2 there among each

  -- a shape of neither a struct nor a union is defined
  atom_defined : (nullable : Bool) (d : DeclId) (s : Shape) → ¬ IsCompound d → IsShapeOfDecl program n nullable d s → IsDefined types s
  atom_defined nullable (Builtin type) s plain is = subst (IsDefined types) (sym (builtin_shape program n nullable type s is)) sound.builtin
  atom_defined nullable (Using file index) s plain is = subst (IsDefined types) (sym (using_shape program n nullable file index s is).1) sound.using_type
  atom_defined nullable (Struct file index) s plain is = absurd (plain tt)
  atom_defined nullable (Union file index) s plain is = absurd (plain tt)
  atom_defined nullable (Protocol file) s plain is = subst (IsDefined types) (sym (protocol_shape program n nullable file s is).1) sound.actor
  atom_defined nullable (Endpoint file managed) s plain is = subst (IsDefined types) (sym (endpoint_shape program n nullable file managed s is).1) sound.endpoint

  -- the shape of a base that is defined in the program is defined
  base_defined : {file : ℕ} {base : Base} → IsDefinedBase program file base → (nullable : Bool) (s : Shape) → IsShapeOfBase program n file nullable base s → IsDefined types s
  base_defined (loose none) nullable s is = absurd (none is.0 is.1)
  base_defined (atom d finds plain) nullable s is =
      let same : d ≡ is.0 = is.1.1 d finds.0 in
      atom_defined nullable d s plain (subst (λ e. IsShapeOfDecl program n nullable e s) (sym same) is.2)
  base_defined (struct other place decl finds there fields) nullable s is =
      let same : Struct other place ≡ is.0 = is.1.1 (Struct other place) finds.0 in
      let x = struct_shape program n nullable other place s (subst (λ e. IsShapeOfDecl program n nullable e s) (sym same) is.2) in
      subst (IsDefined types) (sym x.1) (struct_defined x.0 other place decl x.2 there (λ field among u its.
      with_suffixes field.spec.suffixes (IsShapeOfBase program n other field.spec.nullable field.spec.base) (base_defined (fields field among) field.spec.nullable) u its))
  base_defined (union other place decl component finds there among d) nullable s is =
      let same : Union other place ≡ is.0 = is.1.1 (Union other place) finds.0 in
      let x = union_shape program n nullable other place s (subst (λ e. IsShapeOfDecl program n nullable e s) (sym same) is.2) in
      subst (IsDefined types) (sym x.1) (union_defined x.0 other place decl component x.2 there among (λ u its.
      with_suffixes component.suffixes (IsShapeOfBase program n other component.nullable component.base) (base_defined d component.nullable) u its))
  base_defined (inside {file} {at} {nullable = inner_nullable} {inner} {after} {place} d) nullable s is =
      let Holds = IsShapeOfBase program n file inner_nullable inner in
      let part = unique_shape (IsSuffixed Holds after) s is in
      subst (IsDefined types) (sym part.2) (sound.unique (with_suffixes after Holds (base_defined d inner_nullable) part.1 part.3))

  spec_defined : (file : ℕ) (spec : TypeSpec) → IsDefinedBase program file spec.base → (s : Shape) → IsShapeOf program n file spec s → IsDefined types s
  spec_defined file spec d s is = with_suffixes spec.suffixes (IsShapeOfBase program n file spec.nullable spec.base) (base_defined d spec.nullable) s is

  row_undenied : IsClean program → (t : ℕ) (d : DeclId) (r : TypeRow) → slice_get types t ≡ Some r → IsTypeRow program n d r → ¬ ¬ IsDefined types (shape.Named t)
  row_undenied clean t (Struct file index) (row.Struct name fields) at is denied =
      let s = some_and (struct_of program file index) _ is in
      struct_undenied program clean file index s.0 s.1 (λ defined. denied (struct_row_defined t file index (row.Struct name fields) s.0 at is s.1 (λ field among. spec_defined file field.spec (defined field among))))
  row_undenied clean t (Struct file index) (row.Union name components) at is denied = absurd is
  row_undenied clean t (Union file index) (row.Struct name fields) at is denied = absurd is
  row_undenied clean t (Union file index) (row.Union name components) at is denied =
      let u = some_and (union_of program file index) _ is in
      union_undenied program clean file index u.0 u.1 (λ defined. denied (union_row_defined t file index (row.Union name components) u.0 defined.0 at is u.1 defined.1 (spec_defined file defined.0 defined.2)))
  row_undenied clean t (Builtin type) r at is denied = absurd is
  row_undenied clean t (Using file index) r at is denied = absurd is
  row_undenied clean t (Protocol file) r at is denied = absurd is
  row_undenied clean t (Endpoint file managed) r at is denied = absurd is

  pub types_defined : IsClean program → (t : ℕ) → t < length types → IsDefined types (shape.Named t)
  types_defined clean t below = elim (slice_get_cases types t).1 [
    | inl found ↦
        let had = row_had _ n.types types (rows_of _ 0 n.types types rows) t found.0 found.2 in
        defined_undenied types t (row_undenied clean t had.0 found.0 found.2 had.2)
    | inr past ↦ absurd (omega arith)
  ]
