-- The findings of all rules.
use Rattle.std.proofs.Common.{◌≡◌, List, inl, inr}
use Rattle.ipdl_base.specs.declared.finding.Finding.{Finding}
use Rattle.ipdl_base.specs.declared.finding.TheConstants.Rule as rule
use Rattle.ipdl_syntax.specs.declared.program.Entry.{Entry}
use Rattle.findings.specs.Adds.{Adds}
use Rattle.findings.specs.Gains.{Gains}
use Rattle.type_rules.specs.Attributes.{IsBadAttribute}
use Rattle.type_rules.specs.Breaks.{BreaksAt}
use Rattle.type_rules.specs.Broken.{BrokenAt}
use Rattle.type_rules.specs.Declarations.{IsRepeatedDeclaration, IsRepeatedField}
use Rattle.type_rules.specs.Defined.{IsUndefinedType}
use Rattle.type_rules.specs.Written.{SomeType}
use Rattle.findings.proofs.Gathers.{Gains-then, Gains-like, Gains-rule}
use Rattle.type_rules.proofs.Types.{types_break}

-- the findings on types, then those of the four other rules
pub all_broken : (program : List Entry) (old a b c d found : List Finding) → Gains (λ f. SomeType (BreaksAt program f) program) old a → Gains (λ f. (f.rule ≡ rule.UNDEFINED_TYPE) × IsUndefinedType program f.place) a b
    → Adds rule.REPEATED_DECLARATION (IsRepeatedDeclaration program) b c → Adds rule.REPEATED_FIELD (IsRepeatedField program) c d → Adds rule.BAD_ATTRIBUTE (IsBadAttribute program) d found → Gains (BrokenAt program) old found
all_broken program old a b c d found types undefined declarations fields attributes =
    Gains-like _ (BrokenAt program) old found
    (Gains-then _ _ old a found types (Gains-then _ _ a b found undefined (Gains-then _ _ b c found (Gains-rule _ _ b c declarations) (Gains-then _ _ c d found (Gains-rule _ _ c d fields) (Gains-rule _ _ d found attributes)))))
    (λ f h. elim h [
      | inl x ↦ elim ((types_break program f).0 x) [ inl one ↦ inl one | inr more ↦ elim more [ inl two ↦ inr (inl two) | inr five ↦ inr (inr (inr (inr (inl five)))) ] ]
      | inr h2 ↦ elim h2 [
        | inl three ↦ inr (inr (inl three))
        | inr h3 ↦ elim h3 [
          | inl four ↦ inr (inr (inr (inl four)))
          | inr h4 ↦ elim h4 [ inl six ↦ inr (inr (inr (inr (inr (inl six))))) | inr seven ↦ inr (inr (inr (inr (inr (inr seven))))) ]
        ]
      ]
    ])
    (λ f h. elim h [
      | inl one ↦ inl ((types_break program f).1 (inl one))
      | inr h2 ↦ elim h2 [
        | inl two ↦ inl ((types_break program f).1 (inr (inl two)))
        | inr h3 ↦ elim h3 [
          | inl three ↦ inr (inl three)
          | inr h4 ↦ elim h4 [
            | inl four ↦ inr (inr (inl four))
            | inr h5 ↦ elim h5 [
              | inl five ↦ inl ((types_break program f).1 (inr (inr five)))
              | inr h6 ↦ elim h6 [ inl six ↦ inr (inr (inr (inl six))) | inr seven ↦ inr (inr (inr (inr seven))) ]
            ]
          ]
        ]
      ]
    ])
