-- The rules on the names of types and on `nullable`, as one relation. It serves the code alone.
use Rattle.std.specs.Prelude.{◌≡◌, ℕ, ◌⊎◌, Bool, true, List}
use Rattle.ipdl_base.specs.declared.finding.Finding.{Finding}
use Rattle.ipdl_base.specs.declared.finding.Place.{Place}
use Rattle.ipdl_base.specs.declared.finding.Rule.{Rule}
use Rattle.ipdl_base.specs.declared.finding.TheConstants.Rule as rule
use Rattle.ipdl_syntax.specs.declared.program.Entry.{Entry}
use Rattle.ipdl_syntax.specs.declared.tree.Base.{Base}
use Rattle.type_rules.specs.TypeNames.{IsUnknown, IsAmbiguous, IsNoActor}

-- a base, with or without `nullable` before it, breaks this rule
abbrev pub Breaks : List Entry → ℕ → Bool → Base → Rule → Type 0
Breaks program file nullable base r =
    ((r ≡ rule.UNKNOWN_TYPE) × IsUnknown program file base)
    ⊎ (((r ≡ rule.AMBIGUOUS_TYPE) × IsAmbiguous program file base)
    ⊎ ((r ≡ rule.NULLABLE_NON_ACTOR) × (nullable ≡ true) × IsNoActor program file base))

-- a type breaks the finding's rule, and is at its place
abbrev pub BreaksAt : List Entry → Finding → ℕ → Bool → Base → Place → Type 0
BreaksAt program f file nullable base here = Breaks program file nullable base f.rule × (here ≡ f.place)
