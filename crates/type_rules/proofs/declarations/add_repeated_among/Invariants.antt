use Rattle.std.proofs.Common.{◌≡◌, true, false, List, take}
use Rattle.std.specs.List.{Any}
use Rattle.ipdl_base.specs.declared.finding.TheConstants.Rule as rule
use Rattle.findings.specs.Adds.{Adds}
use Rattle.type_rules.specs.Declarations.{Declaration}
use Rattle.type_rules.specs.Firsts.{told, FirstsAre, IsRepeatedAmong}
use Rattle.type_rules.proofs.declarations.add_repeated_among.Given as goal

-- the declarations so far have their findings
abbrev pub invariant-loop-declaration : goal.invariant-loop-declaration
invariant-loop-declaration l =
    (all : List Declaration) → FirstsAre false all l.any → FirstsAre true all l.own
    → Adds rule.REPEATED_DECLARATION (λ place. Any (λ d. IsRepeatedAmong all (told d) × (d.place ≡ place)) (take l.declaration-index l.these)) l.fn.found.items l.found.items
