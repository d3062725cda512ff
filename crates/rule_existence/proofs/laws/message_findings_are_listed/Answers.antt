use Rattle.rule_existence.proofs.MessagesListed as law
use Rattle.rule_existence.proofs.laws.message_findings_are_listed.Goals as goal

pub returns : goal.returns
returns c = law.message_findings_are_listed
