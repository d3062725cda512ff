-- The rules on written types, as one relation and separately.
use Rattle.std.proofs.Common.{◌≡◌, List, ◌⊎◌, inl, inr}
use Rattle.std.specs.Prelude.{◌↔◌}
use Rattle.ipdl_base.specs.declared.finding.Finding.{Finding}
use Rattle.ipdl_base.specs.declared.finding.TheConstants.Rule as rule
use Rattle.ipdl_syntax.specs.declared.program.Entry.{Entry}
use Rattle.type_rules.specs.Breaks.{BreaksAt}
use Rattle.type_rules.specs.TypeNames.{IsUnknownType, IsAmbiguousType, IsNullableNonActor}
use Rattle.type_rules.specs.Written.{SomeType}

-- the findings of the three rules on types
abbrev pub BrokenTypes : List Entry → Finding → Type 0
BrokenTypes program f =
    ((f.rule ≡ rule.UNKNOWN_TYPE) × IsUnknownType program f.place)
    ⊎ (((f.rule ≡ rule.AMBIGUOUS_TYPE) × IsAmbiguousType program f.place)
    ⊎ ((f.rule ≡ rule.NULLABLE_NON_ACTOR) × IsNullableNonActor program f.place))

-- the three rules as one relation, and separately
pub types_break : (program : List Entry) (f : Finding) → SomeType (BreaksAt program f) program ↔ BrokenTypes program f
types_break program f = (
  λ h. elim h.4.0 [
    | inl p ↦ inl (p.0, (h.0, h.1, h.2, h.3, (p.1, h.4.1)))
    | inr more ↦ elim more [
      | inl p ↦ inr (inl (p.0, (h.0, h.1, h.2, h.3, (p.1, h.4.1))))
      | inr p ↦ inr (inr (p.0, (h.0, h.1, h.2, h.3, (p.1, p.2, h.4.1))))
    ]
  ],
  λ h. elim h [
    | inl p ↦ (let w = p.1 in (w.0, w.1, w.2, w.3, (inl (p.0, w.4.0), w.4.1)))
    | inr more ↦ elim more [
      | inl p ↦ (let w = p.1 in (w.0, w.1, w.2, w.3, (inr (inl (p.0, w.4.0)), w.4.1)))
      | inr p ↦ (let w = p.1 in (w.0, w.1, w.2, w.3, (inr (inr (p.0, w.4.0, w.4.1)), w.4.2)))
    ]
  ],
)
