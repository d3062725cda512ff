-- The structs and unions of a program, in the order of the text.
use Rattle.std.proofs.Common.{◌≡◌, ℕ, zero, suc, List, Option, Some, None, IsSome, option_map, option_and_then, slice_get, refl, sym, ap, ◌∙◌, true≢false, Ordering, Equal}
use Rattle.std.specs.Cmp.{IsTotalOrder}
use Rattle.std.specs.FinMap.{nat_cmp-IsAntisymmetric}
use Rattle.std.specs.List.{Contains}
use Rattle.std.specs.Ordering.{nat_cmp, ordering_then}
use Rattle.std.proofs.lemmas.Cmp.{nat_cmp_total, on_total, then_total}
use Rattle.std.proofs.lemmas.Option.{none-some, same_Some}
use Rattle.ipdl_base.specs.declared.finding.Place.{Place}
use Rattle.ipdl_syntax.specs.Programs.{IsProgram}
use Rattle.ipdl_syntax.specs.Units.{StructIsIn, UnionIsIn}
use Rattle.ipdl_syntax.specs.declared.program.Entry.{Entry}
use Rattle.ipdl_syntax.specs.declared.tree.StructDecl.{StructDecl}
use Rattle.ipdl_syntax.specs.declared.tree.UnionDecl.{UnionDecl}
use Rattle.findings.specs.Order.{place_cmp}
use Rattle.findings.proofs.Order.{both_equal, place_total, same_place}
use Rattle.name_table.specs.declared.decl.DeclId.{DeclId}
use Rattle.name_table.specs.declared.decl.DeclId.TheVariants.{Builtin, Using, Struct, Union, Protocol, Endpoint}
use Rattle.name_table.specs.Declares.{full_name_in}
use Rattle.name_table.specs.Decls.{struct_of, union_of}
use Rattle.name_table.specs.Rows.{declared_from}
use Rattle.name_table.proofs.Order.{all_declared}
use Rattle.type_rules.proofs.Lists.{contains_map}
use Rattle.program_schema.specs.Numbers.{AreTypes, place_of, list_number, index_of}
use Rattle.program_schema.proofs.Lists.{holds_at}
use Rattle.program_schema.proofs.Numberings.{some_of}
use Rattle.program_schema.proofs.Unbroken.{entry_with}
use Rattle.name_existence.proofs.Names.{decls}
use Rattle.schema_existence.proofs.Keys.{in_key_order}

mapped : {X Y : Type 0} (f : X → Y) (o : Option X) (y : Y) → option_map f o ≡ Some y → (x : X) × (o ≡ Some x) × (f x ≡ y)
mapped f None y is = absurd (none-some y is)
mapped f (Some x) y is = (x, refl, same_Some (f x) y is)

-- the struct or the union that has a place

pub struct_there : (program : List Entry) (file index : ℕ) → IsSome (place_of program (Struct file index)) → (s : StructDecl) × (struct_of program file index ≡ Some s)
struct_there program file index some =
    let p = some_of (place_of program (Struct file index)) some in
    let s = mapped (λ (s : StructDecl). s.place) (struct_of program file index) p.0 p.1 in
    (s.0, s.1)

pub union_there : (program : List Entry) (file index : ℕ) → IsSome (place_of program (Union file index)) → (u : UnionDecl) × (union_of program file index ≡ Some u)
union_there program file index some =
    let p = some_of (place_of program (Union file index)) some in
    let u = mapped (λ (u : UnionDecl). u.place) (union_of program file index) p.0 p.1 in
    (u.0, u.1)

-- a struct or a union that has a place is declared
declared : (program : List Entry) (d : DeclId) → IsSome (place_of program d) → Contains (decls program) d
declared program (Struct file index) some =
    let s = struct_there program file index some in
    let e = entry_with program file (λ e. slice_get e.unit.structs index) s.0 s.1 in
    contains_map (λ (x : DeclId × List ℕ). x.0) (declared_from 0 program) (Struct file index, s.0.full)
    (all_declared program file (Struct file index) s.0.full (refl, ap (option_and_then (λ (e : Entry). full_name_in e (Struct file index))) e.1 ∙ ap (option_map (λ (s : StructDecl). s.full)) e.2))
declared program (Union file index) some =
    let u = union_there program file index some in
    let e = entry_with program file (λ e. slice_get e.unit.unions index) u.0 u.1 in
    contains_map (λ (x : DeclId × List ℕ). x.0) (declared_from 0 program) (Union file index, u.0.full)
    (all_declared program file (Union file index) u.0.full (refl, ap (option_and_then (λ (e : Entry). full_name_in e (Union file index))) e.1 ∙ ap (option_map (λ (u : UnionDecl). u.full)) e.2))
declared program (Builtin type) some = absurd (true≢false (sym some))
declared program (Using file index) some = absurd (true≢false (sym some))
declared program (Protocol file) some = absurd (true≢false (sym some))
declared program (Endpoint file managed) some = absurd (true≢false (sym some))

-- In order

abbrev declared_cmp : Place × DeclId → Place × DeclId → Ordering
declared_cmp a b = ordering_then (place_cmp a.0 b.0) (ordering_then (nat_cmp (list_number a.1) (list_number b.1)) (nat_cmp (index_of a.1) (index_of b.1)))

declared_total : IsTotalOrder declared_cmp
declared_total = then_total (on_total (λ (x : Place × DeclId). x.0) place_total) (then_total (on_total (λ (x : Place × DeclId). list_number x.1) nat_cmp_total) (on_total (λ (x : Place × DeclId). index_of x.1) nat_cmp_total))

-- the struct or the union of a list, a file and an index
abbrev type_by : ℕ → ℕ → ℕ → DeclId
type_by zero file index = Struct file index
type_by (suc n) file index = Union file index

module _ (program : List Entry) (is : IsProgram program) where
  -- a struct or a union is that of its list, of the file of its place, and of its index
  type_is : (d : DeclId) (p : Place) → place_of program d ≡ Some p → d ≡ type_by (list_number d) p.file (index_of d)
  type_is (Struct file index) p at =
      let s = mapped (λ (s : StructDecl). s.place) (struct_of program file index) p at in
      let e = entry_with program file (λ e. slice_get e.unit.structs index) s.0 s.1 in
      let here = holds_at (StructIsIn file) e.0.unit.structs index s.0 (is.entries file e.0 e.1).places.structs e.2 in
      ap (λ (k : ℕ). Struct k index) (sym here.place ∙ ap (λ (q : Place). q.file) s.2)
  type_is (Union file index) p at =
      let u = mapped (λ (u : UnionDecl). u.place) (union_of program file index) p at in
      let e = entry_with program file (λ e. slice_get e.unit.unions index) u.0 u.1 in
      let here = holds_at (UnionIsIn file) e.0.unit.unions index u.0 (is.entries file e.0 e.1).places.unions e.2 in
      ap (λ (k : ℕ). Union k index) (sym here.place ∙ ap (λ (q : Place). q.file) u.2)
  type_is (Builtin type) p at = absurd (none-some p at)
  type_is (Using file index) p at = absurd (none-some p at)
  type_is (Protocol file) p at = absurd (none-some p at)
  type_is (Endpoint file managed) p at = absurd (none-some p at)

  tied : (d e : DeclId) (p q : Place) → place_of program d ≡ Some p → place_of program e ≡ Some q → declared_cmp (p, d) (q, e) ≡ Equal → d ≡ e
  tied d e p q at there tie =
      let first = both_equal (place_cmp p q) _ tie in
      let second = both_equal (nat_cmp (list_number d) (list_number e)) (nat_cmp (index_of d) (index_of e)) first.1 in
      type_is d p at ∙ ap (λ (k : ℕ). type_by k p.file (index_of d)) (nat_cmp-IsAntisymmetric (list_number d) (list_number e) second.0)
      ∙ ap (λ (x : Place). type_by (list_number e) x.file (index_of d)) (same_place p q first.0)
      ∙ ap (type_by (list_number e) q.file) (nat_cmp-IsAntisymmetric (index_of d) (index_of e) second.1) ∙ sym (type_is e q there)

  pub types_in_order : (types : List DeclId) × AreTypes program types
  types_in_order =
      let all = in_key_order (place_of program) declared_cmp declared_total tied (decls program) (declared program) in
      (all.0, record { ordered = all.1; exact = all.2 })
