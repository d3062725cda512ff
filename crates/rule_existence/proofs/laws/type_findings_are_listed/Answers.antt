use Rattle.rule_existence.proofs.TypesListed as law
use Rattle.rule_existence.proofs.laws.type_findings_are_listed.Goals as goal

pub returns : goal.returns
returns c = law.type_findings_are_listed
