-- The rules on types, names of declarations and attributes, and the places at which a program breaks them.
use Rattle.std.specs.Prelude.{◌≡◌, ◌⊎◌, List}
use Rattle.ipdl_base.specs.declared.finding.Finding.{Finding}
use Rattle.ipdl_base.specs.declared.finding.TheConstants.Rule as rule
use Rattle.ipdl_syntax.specs.declared.program.Entry.{Entry}
use Rattle.type_rules.specs.TypeNames.{IsUnknownType, IsAmbiguousType, IsNullableNonActor}
use Rattle.type_rules.specs.Defined.{IsUndefinedType}
use Rattle.type_rules.specs.Declarations.{IsRepeatedDeclaration, IsRepeatedField}
use Rattle.type_rules.specs.Attributes.{IsBadAttribute}

-- the finding holds of the program: its rule is broken at its place
abbrev pub BrokenAt : List Entry → Finding → Type 0
BrokenAt program f =
    ((f.rule ≡ rule.UNKNOWN_TYPE) × IsUnknownType program f.place)
    ⊎ (((f.rule ≡ rule.AMBIGUOUS_TYPE) × IsAmbiguousType program f.place)
    ⊎ (((f.rule ≡ rule.UNDEFINED_TYPE) × IsUndefinedType program f.place)
    ⊎ (((f.rule ≡ rule.REPEATED_DECLARATION) × IsRepeatedDeclaration program f.place)
    ⊎ (((f.rule ≡ rule.NULLABLE_NON_ACTOR) × IsNullableNonActor program f.place)
    ⊎ (((f.rule ≡ rule.REPEATED_FIELD) × IsRepeatedField program f.place)
    ⊎ ((f.rule ≡ rule.BAD_ATTRIBUTE) × IsBadAttribute program f.place))))))
