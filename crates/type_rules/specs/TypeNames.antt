-- The rules on the names of types and on `nullable` (B1, B2, B5).
use Rattle.std.specs.Prelude.{◌≡◌, ℕ, true, List}
use Rattle.ipdl_base.specs.declared.finding.Place.{Place}
use Rattle.ipdl_syntax.specs.declared.program.Entry.{Entry}
use Rattle.ipdl_syntax.specs.declared.tree.Base.{Base, Named, Unique'}
use Rattle.name_table.specs.declared.decl.DeclId.{DeclId}
use Rattle.name_table.specs.declared.decl.DeclId.TheVariants.{Protocol}
use Rattle.name_table.specs.Decls.{FindsNone, FindsOne, FindsTwo}
use Rattle.type_rules.specs.Written.{SomeType}

-- a base is a name that finds nothing
abbrev pub IsUnknown : List Entry → ℕ → Base → Type 0
IsUnknown program file (Named name argument) = FindsNone program file name argument
IsUnknown program file (Unique' _ _ _ _ _) = ⊥

-- a base is a name that finds two or more declarations
abbrev pub IsAmbiguous : List Entry → ℕ → Base → Type 0
IsAmbiguous program file (Named name argument) = FindsTwo program file name argument
IsAmbiguous program file (Unique' _ _ _ _ _) = ⊥

-- a declaration whose values are actors
abbrev pub IsActor : DeclId → Type 0
IsActor (Protocol p) = Unit {0}
IsActor _ = ⊥

-- a base is not an actor: a name that finds one declaration that is not a protocol, or a UniquePtr
abbrev pub IsNoActor : List Entry → ℕ → Base → Type 0
IsNoActor program file (Named name argument) = (d : DeclId) × FindsOne program file name argument d × ¬ IsActor d
IsNoActor program file (Unique' _ _ _ _ _) = Unit {0}

-- B1: the type at this place has a name that finds nothing
abbrev pub IsUnknownType : List Entry → Place → Type 0
IsUnknownType program place = SomeType (λ file nullable base here. IsUnknown program file base × (here ≡ place)) program

-- B2: the type at this place has a name that finds two or more declarations
abbrev pub IsAmbiguousType : List Entry → Place → Type 0
IsAmbiguousType program place = SomeType (λ file nullable base here. IsAmbiguous program file base × (here ≡ place)) program

-- B5: `nullable` is before the type at this place, whose base is not an actor
abbrev pub IsNullableNonActor : List Entry → Place → Type 0
IsNullableNonActor program place = SomeType (λ file nullable base here. (nullable ≡ true) × IsNoActor program file base × (here ≡ place)) program
