use Rattle.rule_existence.proofs.ManagersListed as law
use Rattle.rule_existence.proofs.laws.manager_findings_are_listed.Goals as goal

pub returns : goal.returns
returns c = law.manager_findings_are_listed
