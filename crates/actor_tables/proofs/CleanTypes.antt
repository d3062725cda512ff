-- In a program that breaks no rule each name of a type finds neither nothing nor two declarations.
use Rattle.std.proofs.Common.{◌≡◌, ℕ, Bool, List, get_or, Some, slice_get, inl, inr, refl}
use Rattle.std.specs.List.{Any}
use Rattle.std.proofs.lemmas.Option.{slice_get-get_or, option_and_then_some}
use Rattle.ipdl_base.specs.declared.finding.Place.{Place}
use Rattle.ipdl_base.specs.declared.finding.TheConstants.Rule as rule
use Rattle.ipdl_syntax.specs.declared.program.Entry.{Entry}
use Rattle.ipdl_syntax.specs.declared.tree.Base.{Base, Named, Unique'}
use Rattle.ipdl_syntax.specs.declared.tree.Param.{Param}
use Rattle.ipdl_syntax.specs.declared.tree.StructDecl.{StructDecl}
use Rattle.ipdl_syntax.specs.declared.tree.TypeSpec.{TypeSpec}
use Rattle.ipdl_syntax.specs.declared.tree.UnionDecl.{UnionDecl}
use Rattle.name_table.specs.Decls.{struct_of, union_of}
use Rattle.type_rules.specs.TypeNames.{IsUnknown, IsAmbiguous, IsUnknownType, IsAmbiguousType}
use Rattle.type_rules.specs.Written.{OfType}
use Rattle.type_rules.proofs.Places.{HoldsWithin, InType, InParams, InUnit, some_in_file}
use Rattle.program_schema.specs.Clean.{IsClean}
use Rattle.program_schema.proofs.Lists.{any_at}
use Rattle.actor_tables.specs.SchemaSource.{FindsSole, ParamsFindSole, TypesFindSole}

never_unknown : (program : List Entry) → IsClean program → (place : Place) → ¬ IsUnknownType program place
never_unknown program clean place h = clean.types (record { place = place; rule = rule.UNKNOWN_TYPE }) (inl (refl, h))

never_ambiguous : (program : List Entry) → IsClean program → (place : Place) → ¬ IsAmbiguousType program place
never_ambiguous program clean place h = clean.types (record { place = place; rule = rule.AMBIGUOUS_TYPE }) (inr (inl (refl, h)))

-- properties of a type's name at a place
abbrev pub Unknown : List Entry → ℕ → Place → OfType
Unknown program file place = λ nullable base here. IsUnknown program file base × (here ≡ place)

abbrev pub Ambiguous : List Entry → ℕ → Place → OfType
Ambiguous program file place = λ nullable base here. IsAmbiguous program file base × (here ≡ place)

within_sole : (program : List Entry) (file : ℕ) (nullable : Bool) (base : Base) (here : Place) → ((place : Place) → ¬ HoldsWithin (Unknown program file place) nullable base here)
    → ((place : Place) → ¬ HoldsWithin (Ambiguous program file place) nullable base here) → FindsSole program file base
within_sole program file nullable (Named name argument) here unknown ambiguous = (λ h. unknown here (h, refl), λ h. ambiguous here (h, refl))
within_sole program file nullable (Unique' at inner_nullable inner after inner_here) here unknown ambiguous =
    within_sole program file inner_nullable inner inner_here (λ place h. unknown place (inr h)) (λ place h. ambiguous place (inr h))

pub params_sole : (program : List Entry) (file : ℕ) (params : List Param) → ((place : Place) → ¬ InParams (Unknown program file place) params) → ((place : Place) → ¬ InParams (Ambiguous program file place) params) → ParamsFindSole program file params
params_sole program file params unknown ambiguous = λ k d below.
    let p : Param = get_or params k d in
    let at : slice_get params k ≡ Some p = slice_get-get_or params k d below in
    within_sole program file p.spec.nullable p.spec.base p.spec.place
    (λ place h. unknown place (any_at (λ (q : Param). InType (Unknown program file place) q.spec) params k p at h))
    (λ place h. ambiguous place (any_at (λ (q : Param). InType (Ambiguous program file place) q.spec) params k p at h))

types_sole : (program : List Entry) (file : ℕ) (types : List TypeSpec) → ((place : Place) → ¬ Any (InType (Unknown program file place)) types) → ((place : Place) → ¬ Any (InType (Ambiguous program file place)) types) → TypesFindSole program file types
types_sole program file types unknown ambiguous = λ k d below.
    let t : TypeSpec = get_or types k d in
    let at : slice_get types k ≡ Some t = slice_get-get_or types k d below in
    within_sole program file t.nullable t.base t.place
    (λ place h. unknown place (any_at (InType (Unknown program file place)) types k t at h))
    (λ place h. ambiguous place (any_at (InType (Ambiguous program file place)) types k t at h))

-- in the tree of a file
pub unit_unknown : (program : List Entry) (file : ℕ) (e : Entry) → IsClean program → slice_get program file ≡ Some e → (place : Place) → ¬ InUnit (Unknown program file place) e.unit
unit_unknown program file e clean at place h = never_unknown program clean place (some_in_file (λ n. Unknown program n place) program (file, e, at, h))

pub unit_ambiguous : (program : List Entry) (file : ℕ) (e : Entry) → IsClean program → slice_get program file ≡ Some e → (place : Place) → ¬ InUnit (Ambiguous program file place) e.unit
unit_ambiguous program file e clean at place h = never_ambiguous program clean place (some_in_file (λ n. Ambiguous program n place) program (file, e, at, h))

pub struct_sole : (program : List Entry) (file index : ℕ) (s : StructDecl) → IsClean program → struct_of program file index ≡ Some s → ParamsFindSole program file s.fields
struct_sole program file index s clean is =
    option_and_then_some (λ (e : Entry). slice_get e.unit.structs index) (slice_get program file) s is (λ e at here.
    params_sole program file s.fields
    (λ place h. unit_unknown program file e clean at place (inl (any_at (λ (t : StructDecl). InParams (Unknown program file place) t.fields) e.unit.structs index s here h)))
    (λ place h. unit_ambiguous program file e clean at place (inl (any_at (λ (t : StructDecl). InParams (Ambiguous program file place) t.fields) e.unit.structs index s here h))))

pub union_sole : (program : List Entry) (file index : ℕ) (u : UnionDecl) → IsClean program → union_of program file index ≡ Some u → TypesFindSole program file u.components
union_sole program file index u clean is =
    option_and_then_some (λ (e : Entry). slice_get e.unit.unions index) (slice_get program file) u is (λ e at here.
    types_sole program file u.components
    (λ place h. unit_unknown program file e clean at place (inr (inl (any_at (λ (t : UnionDecl). Any (InType (Unknown program file place)) t.components) e.unit.unions index u here h))))
    (λ place h. unit_ambiguous program file e clean at place (inr (inl (any_at (λ (t : UnionDecl). Any (InType (Ambiguous program file place)) t.components) e.unit.unions index u here h)))))
