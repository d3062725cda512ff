use Rattle.sync_list.proofs.Unique.{one_list, one_fault, never_both}
use Rattle.sync_list.proofs.laws.one_list.Goals as goal

pub returns-clause-list : goal.returns-clause-list
returns-clause-list c = one_list

pub returns-clause-fault : goal.returns-clause-fault
returns-clause-fault c = one_fault

pub returns-clause-never_both : goal.returns-clause-never_both
returns-clause-never_both c = never_both
