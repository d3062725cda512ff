-- A type of a program has one shape in its schema, up to where boxes lie.
use Rattle.std.proofs.Common.{◌≡◌, ◌∙◌, ℕ, Bool, List, [], ◌∷◌, Some, refl, sym, ap, subst}
use Rattle.ipdl_base.specs.Plain.{plain_shape, one_box}
use Rattle.ipdl_base.specs.declared.builtin.Builtin.{Builtin as BuiltinType}
use Rattle.ipdl_base.specs.declared.schema.Shape.{Shape}
use Rattle.ipdl_base.specs.declared.schema.Shape as shape
use Rattle.ipdl_syntax.specs.declared.program.Entry.{Entry}
use Rattle.ipdl_syntax.specs.declared.tree.Base.{Base, Named, Unique'}
use Rattle.ipdl_syntax.specs.declared.tree.Suffix.{Suffix}
use Rattle.ipdl_syntax.specs.declared.tree.Suffix.TheVariants.{Array, Maybe}
use Rattle.ipdl_syntax.specs.declared.tree.TypeSpec.{TypeSpec}
use Rattle.name_table.specs.declared.decl.DeclId.{DeclId}
use Rattle.name_table.specs.declared.decl.DeclId.TheVariants.{Builtin, Using, Struct, Union, Protocol, Endpoint}
use Rattle.name_table.specs.Declares.{full_name_of}
use Rattle.program_schema.specs.Numbers.{Numbering, IsProtocolNumber, IsTypeNumber}
use Rattle.program_schema.specs.Shapes.{IsShapeOfDecl, IsSuffixedBy, IsSuffixed, IsUnique, IsShapeOfBase, IsShapeOf}
use Rattle.program_schema.proofs.Numberings.{HasOneNumberEach}

-- The shape of a declaration

module _ (program : List Entry) (n : Numbering) (nullable : Bool) where
  pub builtin_shape : (type : BuiltinType) (s : Shape) → IsShapeOfDecl program n nullable (Builtin type) s → s ≡ shape.Builtin type
  builtin_shape type (shape.Builtin other) is = ap shape.Builtin is
  builtin_shape type _ is = absurd is

  pub using_shape : (file index : ℕ) (s : Shape) → IsShapeOfDecl program n nullable (Using file index) s → (name : List ℕ) × (s ≡ shape.Using name) × (full_name_of program (Using file index) ≡ Some name)
  using_shape file index (shape.Using name) is = (name, refl, is)
  using_shape file index _ is = absurd is

  pub struct_shape : (file index : ℕ) (s : Shape) → IsShapeOfDecl program n nullable (Struct file index) s → (number : ℕ) × (s ≡ shape.Named number) × IsTypeNumber n number (Struct file index)
  struct_shape file index (shape.Named number) is = (number, refl, is)
  struct_shape file index _ is = absurd is

  pub union_shape : (file index : ℕ) (s : Shape) → IsShapeOfDecl program n nullable (Union file index) s → (number : ℕ) × (s ≡ shape.Named number) × IsTypeNumber n number (Union file index)
  union_shape file index (shape.Named number) is = (number, refl, is)
  union_shape file index _ is = absurd is

  pub protocol_shape : (file : ℕ) (s : Shape) → IsShapeOfDecl program n nullable (Protocol file) s → (number : ℕ) × (s ≡ shape.Actor number nullable) × IsProtocolNumber n number file
  protocol_shape file (shape.Actor number flag) is = (number, ap (shape.Actor number) is.1, is.0)
  protocol_shape file _ is = absurd is

  pub endpoint_shape : (file : ℕ) (managed : Bool) (s : Shape) → IsShapeOfDecl program n nullable (Endpoint file managed) s → (number : ℕ) × (s ≡ shape.Endpoint number managed) × IsProtocolNumber n number file
  endpoint_shape file managed (shape.Endpoint number flag) is = (number, ap (shape.Endpoint number) is.1, is.0)
  endpoint_shape file managed _ is = absurd is

  one_of_decl : HasOneNumberEach n → (d : DeclId) (a b : Shape) → IsShapeOfDecl program n nullable d a → IsShapeOfDecl program n nullable d b → a ≡ b
  one_of_decl each (Builtin type) a b p q = builtin_shape type a p ∙ sym (builtin_shape type b q)
  one_of_decl each (Using file index) a b p q =
      let x = using_shape file index a p in
      let y = using_shape file index b q in
      let same : Some x.0 ≡ Some y.0 = sym x.2 ∙ y.2 in
      let name : x.0 ≡ y.0 = cc in
      x.1 ∙ ap shape.Using name ∙ sym y.1
  one_of_decl each (Struct file index) a b p q =
      let x = struct_shape file index a p in
      let y = struct_shape file index b q in
      x.1 ∙ ap shape.Named (each.types x.0 y.0 (Struct file index) x.2 y.2) ∙ sym y.1
  one_of_decl each (Union file index) a b p q =
      let x = union_shape file index a p in
      let y = union_shape file index b q in
      x.1 ∙ ap shape.Named (each.types x.0 y.0 (Union file index) x.2 y.2) ∙ sym y.1
  one_of_decl each (Protocol file) a b p q =
      let x = protocol_shape file a p in
      let y = protocol_shape file b q in
      x.1 ∙ ap (λ (k : ℕ). shape.Actor k nullable) (each.files x.0 y.0 file x.2 y.2) ∙ sym y.1
  one_of_decl each (Endpoint file managed) a b p q =
      let x = endpoint_shape file managed a p in
      let y = endpoint_shape file managed b q in
      x.1 ∙ ap (λ (k : ℕ). shape.Endpoint k managed) (each.files x.0 y.0 file x.2 y.2) ∙ sym y.1

-- Suffixes and owned pointers

pub array_shape : (Holds : Shape → Type 0) (s : Shape) → IsSuffixedBy Array Holds s → (at : _) × (element : Shape) × (s ≡ shape.Array' at element) × Holds element
array_shape Holds (shape.Array' at element) is = (at, element, refl, is)
array_shape Holds _ is = absurd is

pub maybe_shape : (Holds : Shape → Type 0) (s : Shape) → IsSuffixedBy Maybe Holds s → (at : _) × (held : Shape) × (s ≡ shape.Maybe' at held) × Holds held
maybe_shape Holds (shape.Maybe' at held) is = (at, held, refl, is)
maybe_shape Holds _ is = absurd is

pub unique_shape : (Holds : Shape → Type 0) (s : Shape) → IsUnique Holds s → (at : _) × (held : Shape) × (s ≡ shape.Unique' at held) × Holds held
unique_shape Holds (shape.Unique' at held) is = (at, held, refl, is)
unique_shape Holds _ is = absurd is

-- at most one shape, up to where boxes lie
abbrev pub HasOneShape : (Shape → Type 0) → Type 0
HasOneShape Holds = (a b : Shape) → Holds a → Holds b → plain_shape a ≡ plain_shape b

one_suffixed_by : (s : Suffix) (Holds : Shape → Type 0) → HasOneShape Holds → HasOneShape (IsSuffixedBy s Holds)
one_suffixed_by Array Holds one a b p q =
    let x = array_shape Holds a p in
    let y = array_shape Holds b q in
    ap plain_shape x.2 ∙ ap (λ (e : Shape). shape.Array' one_box e) (one x.1 y.1 x.3 y.3) ∙ sym (ap plain_shape y.2)
one_suffixed_by Maybe Holds one a b p q =
    let x = maybe_shape Holds a p in
    let y = maybe_shape Holds b q in
    ap plain_shape x.2 ∙ ap (λ (e : Shape). shape.Maybe' one_box e) (one x.1 y.1 x.3 y.3) ∙ sym (ap plain_shape y.2)

one_suffixed : (after : List Suffix) (Holds : Shape → Type 0) → HasOneShape Holds → HasOneShape (IsSuffixed Holds after)
one_suffixed [] Holds one = one
one_suffixed (s ∷ rest) Holds one = one_suffixed rest (IsSuffixedBy s Holds) (one_suffixed_by s Holds one)

one_unique : (Holds : Shape → Type 0) → HasOneShape Holds → HasOneShape (IsUnique Holds)
one_unique Holds one a b p q =
    let x = unique_shape Holds a p in
    let y = unique_shape Holds b q in
    ap plain_shape x.2 ∙ ap (λ (e : Shape). shape.Unique' one_box e) (one x.1 y.1 x.3 y.3) ∙ sym (ap plain_shape y.2)

-- Types

module _ (program : List Entry) (n : Numbering) (each : HasOneNumberEach n) (file : ℕ) where
  one_of_base : (nullable : Bool) (base : Base) → HasOneShape (IsShapeOfBase program n file nullable base)
  one_of_base nullable (Named name argument) a b p q =
      let same = p.1.1 q.0 q.1.0 in
      ap plain_shape (one_of_decl program n nullable each p.0 a b p.2 (subst (λ d. IsShapeOfDecl program n nullable d b) same q.2))
  one_of_base nullable (Unique' at inner_nullable inner after place) a b p q =
      one_unique (IsSuffixed (IsShapeOfBase program n file inner_nullable inner) after) (one_suffixed after (IsShapeOfBase program n file inner_nullable inner) (one_of_base inner_nullable inner)) a b p q

  pub one_shape : (spec : TypeSpec) → HasOneShape (IsShapeOf program n file spec)
  one_shape spec = one_suffixed spec.suffixes (IsShapeOfBase program n file spec.nullable spec.base) (one_of_base spec.nullable spec.base)
