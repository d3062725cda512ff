-- The findings of all rules on types, names of declarations and attributes are listed.
use Rattle.ipdl_base.specs.declared.finding.TheConstants.Rule as rule
use Rattle.report_existence.proofs.Finite.{either_place, of_rule}
use Rattle.rule_existence.specs.Laws.{TypeFindingsAreListed}
use Rattle.rule_existence.proofs.TypesDeclared.{attributes_listed, declarations_listed, fields_listed}
use Rattle.rule_existence.proofs.TypesNamed.{ambiguous_listed, nullable_listed, undefined_listed, unknown_listed}

pub type_findings_are_listed : TypeFindingsAreListed
type_findings_are_listed program =
    either_place _ _ (of_rule rule.UNKNOWN_TYPE _ (unknown_listed program))
    (either_place _ _ (of_rule rule.AMBIGUOUS_TYPE _ (ambiguous_listed program))
    (either_place _ _ (of_rule rule.UNDEFINED_TYPE _ (undefined_listed program))
    (either_place _ _ (of_rule rule.REPEATED_DECLARATION _ (declarations_listed program))
    (either_place _ _ (of_rule rule.NULLABLE_NON_ACTOR _ (nullable_listed program))
    (either_place _ _ (of_rule rule.REPEATED_FIELD _ (fields_listed program)) (of_rule rule.BAD_ATTRIBUTE _ (attributes_listed program)))))))
