use Rattle.manager_rules.proofs.report.add_of_file.Goals as goal

pub returns-in-Some : goal.returns-in-Some
returns-in-Some c = rw c.in-Some.is c.add_of_protocol.ensures
