use Rattle.std.proofs.Common.{◌≡◌, true, Some, take}
use Rattle.std.specs.Prelude.{slice_get}
use Rattle.ipdl_base.specs.declared.finding.TheConstants.Rule as rule
use Rattle.findings.specs.Gains.{Gains, AtSome}
use Rattle.type_rules.specs.Compounds.{told, place_of}
use Rattle.type_rules.proofs.undefined.add_unmarked.Given as goal

-- those so far have their findings
abbrev pub invariant-loop-number : goal.invariant-loop-number
invariant-loop-number l = Gains (λ f. AtSome (λ k c. (f.rule ≡ rule.UNDEFINED_TYPE) × (¬ (slice_get l.marks k ≡ Some true)) × (place_of (told c) ≡ f.place)) (take l.number l.all)) l.fn.found.items l.found.items
