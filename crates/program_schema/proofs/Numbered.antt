-- The numbers in a schema: few protocols, and each number is that of one.
use Rattle.std.proofs.Common.{◌≡◌, ◌∙◌, ◌<◌, ◌≤◌, ℕ, Bool, true, List, [], ◌∷◌, length, get_or, eqb, Some, IsSome, slice_get, sym, ap, subst, arith}
use Rattle.std.specs.List.{All, AllZip, IsDistinct}
use Rattle.std.proofs.lemmas.Bool.{eqb-true, false_from_ne_true}
use Rattle.std.proofs.lemmas.List.Folds.{Any-from_list_any}
use Rattle.std.proofs.lemmas.List.Elements.{All-nil, All-cons}
use Rattle.std.proofs.lemmas.Map.Keys.{IsDistinct-from_apart}
use Rattle.std.proofs.lemmas.Map.Steps.{length-le_from_distinct_below}
use Rattle.std.proofs.lemmas.Option.{slice_get_within, slice_get-get_or}
use Rattle.ipdl_base.specs.Sound.{IsInRange, IsFieldInRange, IsTypeInRange}
use Rattle.ipdl_base.specs.declared.schema.ParamRow.{ParamRow}
use Rattle.ipdl_base.specs.declared.schema.Shape.{Shape}
use Rattle.ipdl_base.specs.declared.schema.Shape as shape
use Rattle.ipdl_base.specs.declared.schema.TypeRow.{TypeRow}
use Rattle.ipdl_base.specs.declared.schema.TypeRow.TheVariants as row
use Rattle.ipdl_syntax.specs.declared.program.Entry.{Entry}
use Rattle.ipdl_syntax.specs.declared.tree.Base.{Base, Named, Unique'}
use Rattle.ipdl_syntax.specs.declared.tree.NameAt.{NameAt}
use Rattle.ipdl_syntax.specs.declared.tree.Param.{Param}
use Rattle.ipdl_syntax.specs.declared.tree.Suffix.{Suffix}
use Rattle.ipdl_syntax.specs.declared.tree.Suffix.TheVariants.{Array, Maybe}
use Rattle.ipdl_syntax.specs.declared.tree.TypeSpec.{TypeSpec}
use Rattle.name_table.specs.declared.decl.DeclId.{DeclId}
use Rattle.name_table.specs.declared.decl.DeclId.TheVariants.{Builtin, Using, Struct, Union, Protocol, Endpoint}
use Rattle.name_table.specs.Decls.{protocol_of, struct_of, union_of}
use Rattle.program_schema.specs.Numbers.{Numbering, AreProtocolFiles}
use Rattle.program_schema.specs.SchemaOf.{AreParamRows, IsNumberOfName, IsTypeRow}
use Rattle.program_schema.specs.Shapes.{IsShapeOf, IsShapeOfBase, IsShapeOfDecl, IsSuffixed, IsSuffixedBy}
use Rattle.program_schema.proofs.Lists.{any_place, in_place}
use Rattle.program_schema.proofs.Numberings.{HasOneNumberEach, some_of}
use Rattle.program_schema.proofs.OneShape.{builtin_shape, using_shape, struct_shape, union_shape, protocol_shape, endpoint_shape, array_shape, maybe_shape, unique_shape}
use Rattle.program_schema.proofs.Unbroken.{entry_with, some_and}

-- The files of protocols are few

files_distinct : (n : Numbering) → HasOneNumberEach n → IsDistinct eqb n.files
files_distinct n each = IsDistinct-from_apart eqb n.files (λ i j d before within. false_from_ne_true _ (λ same.
    let a = get_or n.files i d in
    let one : slice_get n.files i ≡ Some a = slice_get-get_or n.files i d (omega arith) in
    let other : slice_get n.files j ≡ Some a = slice_get-get_or n.files j d within ∙ ap Some (sym (eqb-true a (get_or n.files j d) same)) in
    let places : i ≡ j = each.files i j a one other in
    omega arith))

pub file_below : (program : List Entry) (file : ℕ) → IsSome (protocol_of program file) → file < length program
file_below program file is =
    let p = some_of (protocol_of program file) is in
    let e = entry_with program file (λ e. e.unit.protocol) p.0 p.1 in
    slice_get_within program file e.0 e.1

pub few_files : (program : List Entry) (n : Numbering) → AreProtocolFiles program n.files → HasOneNumberEach n → length program ≤ 4096 → length n.files ≤ 4096
few_files program n are each few =
    let most = length-le_from_distinct_below n.files (length program) (files_distinct n each) (λ q h.
    let found = any_place (λ x. eqb q x ≡ true) n.files (Any-from_list_any (eqb q) n.files h) in
    file_below program q ((are.exact q).0 (in_place n.files found.0 q (found.2 ∙ ap Some (sym (eqb-true q found.1 found.3)))))) in
    omega arith

-- Suffixes

-- a property of shapes that passes to arrays and maybes holds with suffixes
pub suffixes_keep : (P : Shape → Type 0) → ((at : _) (s : Shape) → P s → P (shape.Array' at s)) → ((at : _) (s : Shape) → P s → P (shape.Maybe' at s))
    → (after : List Suffix) (Holds : Shape → Type 0) → ((s : Shape) → Holds s → P s) → (s : Shape) → IsSuffixed Holds after s → P s
suffixes_keep P array maybe [] Holds keeps s is = keeps s is
suffixes_keep P array maybe (Array ∷ rest) Holds keeps s is =
    suffixes_keep P array maybe rest (IsSuffixedBy Array Holds) (λ u h. let part = array_shape Holds u h in subst P (sym part.2) (array part.0 part.1 (keeps part.1 part.3))) s is
suffixes_keep P array maybe (Maybe ∷ rest) Holds keeps s is =
    suffixes_keep P array maybe rest (IsSuffixedBy Maybe Holds) (λ u h. let part = maybe_shape Holds u h in subst P (sym part.2) (maybe part.0 part.1 (keeps part.1 part.3))) s is

-- Numbers in range

abbrev pub InRange : Numbering → Shape → Type 0
InRange n = IsInRange (length n.files) (length n.types)

abbrev pub FieldInRange : Numbering → ParamRow → Type 0
FieldInRange n = IsFieldInRange (length n.files) (length n.types)

abbrev pub TypeInRange : Numbering → TypeRow → Type 0
TypeInRange n = IsTypeInRange (length n.files) (length n.types)

module _ (program : List Entry) (n : Numbering) where
  decl_in_range : (nullable : Bool) (d : DeclId) (s : Shape) → IsShapeOfDecl program n nullable d s → InRange n s
  decl_in_range nullable (Builtin type) s is = subst (InRange n) (sym (builtin_shape program n nullable type s is)) tt
  decl_in_range nullable (Using file index) s is = let x = using_shape program n nullable file index s is in subst (InRange n) (sym x.1) tt
  decl_in_range nullable (Struct file index) s is = let x = struct_shape program n nullable file index s is in subst (InRange n) (sym x.1) (slice_get_within n.types x.0 (Struct file index) x.2)
  decl_in_range nullable (Union file index) s is = let x = union_shape program n nullable file index s is in subst (InRange n) (sym x.1) (slice_get_within n.types x.0 (Union file index) x.2)
  decl_in_range nullable (Protocol file) s is = let x = protocol_shape program n nullable file s is in subst (InRange n) (sym x.1) (slice_get_within n.files x.0 file x.2)
  decl_in_range nullable (Endpoint file managed) s is = let x = endpoint_shape program n nullable file managed s is in subst (InRange n) (sym x.1) (slice_get_within n.files x.0 file x.2)

  base_in_range : (file : ℕ) (nullable : Bool) (base : Base) (s : Shape) → IsShapeOfBase program n file nullable base s → InRange n s
  base_in_range file nullable (Named name argument) s is = decl_in_range nullable is.0 s is.2
  base_in_range file nullable (Unique' at inner_nullable inner after place) s is =
      let part = unique_shape (IsSuffixed (IsShapeOfBase program n file inner_nullable inner) after) s is in
      subst (InRange n) (sym part.2) (suffixes_keep (InRange n) (λ at u h. h) (λ at u h. h) after (IsShapeOfBase program n file inner_nullable inner) (base_in_range file inner_nullable inner) part.1 part.3)

  shape_in_range : (file : ℕ) (spec : TypeSpec) (s : Shape) → IsShapeOf program n file spec s → InRange n s
  shape_in_range file spec s is =
      suffixes_keep (InRange n) (λ at u h. h) (λ at u h. h) spec.suffixes (IsShapeOfBase program n file spec.nullable spec.base) (base_in_range file spec.nullable spec.base) s is

  pub params_in_range : (file : ℕ) (ps : List Param) (rows : List ParamRow) → AreParamRows program n file ps rows → All (FieldInRange n) rows
  params_in_range file [] [] are = All-nil (FieldInRange n)
  params_in_range file [] (r ∷ rows) are = absurd are
  params_in_range file (p ∷ ps) [] are = absurd are
  params_in_range file (p ∷ ps) (r ∷ rows) are =
      All-cons (FieldInRange n) r rows (shape_in_range file p.spec r.shape are.0.shape) (params_in_range file ps rows are.1)

  shapes_in_range : (file : ℕ) (specs : List TypeSpec) (shapes : List Shape) → AllZip (IsShapeOf program n file) specs shapes → All (InRange n) shapes
  shapes_in_range file [] [] are = All-nil (InRange n)
  shapes_in_range file [] (s ∷ shapes) are = absurd are
  shapes_in_range file (spec ∷ specs) [] are = absurd are
  shapes_in_range file (spec ∷ specs) (s ∷ shapes) are =
      All-cons (InRange n) s shapes (shape_in_range file spec s are.0) (shapes_in_range file specs shapes are.1)

  type_in_range : (d : DeclId) (r : TypeRow) → IsTypeRow program n d r → TypeInRange n r
  type_in_range (Struct file index) (row.Struct name fields) is =
      let s = some_and (struct_of program file index) _ is in
      params_in_range file s.0.fields fields s.2.1
  type_in_range (Union file index) (row.Union name components) is =
      let u = some_and (union_of program file index) _ is in
      shapes_in_range file u.0.components components u.2.1
  type_in_range (Struct file index) (row.Union name components) is = absurd is
  type_in_range (Union file index) (row.Struct name fields) is = absurd is
  type_in_range (Builtin type) r is = absurd is
  type_in_range (Using file index) r is = absurd is
  type_in_range (Protocol file) r is = absurd is
  type_in_range (Endpoint file managed) r is = absurd is

  pub types_in_range : (ids : List DeclId) (rows : List TypeRow) → AllZip (IsTypeRow program n) ids rows → All (TypeInRange n) rows
  types_in_range [] [] are = All-nil (TypeInRange n)
  types_in_range [] (r ∷ rows) are = absurd are
  types_in_range (d ∷ ids) [] are = absurd are
  types_in_range (d ∷ ids) (r ∷ rows) are = All-cons (TypeInRange n) r rows (type_in_range d r are.0) (types_in_range ids rows are.1)

  -- numbers of names
  pub names_in_range : (file : ℕ) (names : List NameAt) (numbers : List ℕ) → AllZip (λ (at : NameAt) m. IsNumberOfName program n file at.name m) names numbers → All (λ m. m < length n.files) numbers
  names_in_range file [] [] are = All-nil (λ m. m < length n.files)
  names_in_range file [] (m ∷ numbers) are = absurd are
  names_in_range file (at ∷ names) [] are = absurd are
  names_in_range file (at ∷ names) (m ∷ numbers) are = All-cons (λ m. m < length n.files) m numbers (slice_get_within n.files m are.0.0 are.0.2) (names_in_range file names numbers are.1)
