-- The types that are defined: those whose parts end in finitely many steps. The rule on definedness (B3).
use Rattle.std.specs.Prelude.{◌≡◌, ℕ, ◌⊎◌, Bool, List, Option, Some}
use Rattle.std.specs.List.{Any, Contains}
use Rattle.ipdl_base.specs.declared.finding.Place.{Place}
use Rattle.ipdl_syntax.specs.declared.program.Entry.{Entry}
use Rattle.ipdl_syntax.specs.declared.tree.Base.{Base, Named, Unique'}
use Rattle.ipdl_syntax.specs.declared.tree.Param.{Param}
use Rattle.ipdl_syntax.specs.declared.tree.StructDecl.{StructDecl}
use Rattle.ipdl_syntax.specs.declared.tree.TypeSpec.{TypeSpec}
use Rattle.ipdl_syntax.specs.declared.tree.UnionDecl.{UnionDecl}
use Rattle.findings.specs.Gains.{AtSome}
use Rattle.name_table.specs.declared.decl.DeclId.{DeclId}
use Rattle.name_table.specs.declared.decl.DeclId.TheVariants.{Struct, Union}
use Rattle.name_table.specs.Decls.{FindsOne, struct_of, union_of}

-- a struct or a union
abbrev pub IsCompound : DeclId → Type 0
IsCompound (Struct file place) = Unit {0}
IsCompound (Union file place) = Unit {0}
IsCompound _ = ⊥

-- A base is defined in a file, by a finite derivation: a name that does not find exactly one declaration, or finds
-- one that is neither a struct nor a union; a struct if all of its fields are; a union if one component is; a
-- UniquePtr if its inside is. Suffixes and `nullable` change nothing: a type is defined if its base is.
pub data IsDefined (program : List Entry) : ℕ → Base → Type 0 where
  loose : {file : ℕ} {name : List ℕ} {argument : Option (List ℕ)} → ((d : DeclId) → ¬ FindsOne program file name argument d) → IsDefined program file (Named name argument)
  atom : {file : ℕ} {name : List ℕ} {argument : Option (List ℕ)} (d : DeclId) → FindsOne program file name argument d → ¬ IsCompound d → IsDefined program file (Named name argument)
  struct : {file : ℕ} {name : List ℕ} {argument : Option (List ℕ)} (other place : ℕ) (s : StructDecl) → FindsOne program file name argument (Struct other place) → struct_of program other place ≡ Some s
      → ((field : Param) → Contains s.fields field → IsDefined program other field.spec.base) → IsDefined program file (Named name argument)
  union : {file : ℕ} {name : List ℕ} {argument : Option (List ℕ)} (other place : ℕ) (u : UnionDecl) (component : TypeSpec) → FindsOne program file name argument (Union other place) → union_of program other place ≡ Some u
      → Contains u.components component → IsDefined program other component.base → IsDefined program file (Named name argument)
  inside : {file : ℕ} {at : _} {nullable : Bool} {inner : Base} {after : _} {place : Place} → IsDefined program file inner → IsDefined program file (Unique' at nullable inner after place)

-- a struct of a file is defined if all of its fields are
abbrev pub IsDefinedStruct : List Entry → ℕ → StructDecl → Type 0
IsDefinedStruct program file s = (field : Param) → Contains s.fields field → IsDefined program file field.spec.base

-- a union of a file is defined if one component is
abbrev pub IsDefinedUnion : List Entry → ℕ → UnionDecl → Type 0
IsDefinedUnion program file u = (component : TypeSpec) × Contains u.components component × IsDefined program file component.base

-- B3: the struct or union whose name is at this place is not defined
abbrev pub IsUndefinedType : List Entry → Place → Type 0
IsUndefinedType program place =
    AtSome (λ file e.
    Any (λ s. (¬ IsDefinedStruct program file s) × (s.place ≡ place)) e.unit.structs
    ⊎ Any (λ u. (¬ IsDefinedUnion program file u) × (u.place ≡ place)) e.unit.unions) program
