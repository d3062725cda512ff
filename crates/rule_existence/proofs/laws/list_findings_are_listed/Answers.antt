use Rattle.rule_existence.proofs.ListsListed as law
use Rattle.rule_existence.proofs.laws.list_findings_are_listed.Goals as goal

pub returns : goal.returns
returns c = law.list_findings_are_listed
