-- Properties of the types that a program writes.
use Rattle.std.specs.Prelude.{ℕ, Bool, List}
use Rattle.std.specs.List.{Any}
use Rattle.ipdl_base.specs.declared.finding.Place.{Place}
use Rattle.ipdl_syntax.specs.declared.program.Entry.{Entry}
use Rattle.ipdl_syntax.specs.declared.tree.Base.{Base}
use Rattle.written_parts.specs.Types.{written_types}

-- a property of a type: of whether `nullable` is before its base, of the base, and of the type's place
abbrev pub OfType : Type 1
OfType = Bool → Base → Place → Type 0

-- this holds of a type that the program writes, by the number of its file
abbrev pub SomeType : (ℕ → OfType) → List Entry → Type 0
SomeType Holds program = Any (λ w. Holds w.file w.spec.nullable w.spec.base w.spec.place) (written_types program)
