use Rattle.sync_list.proofs.Unique.{only_list, only_fault}
use Rattle.sync_list.proofs.reader.read_list.Goals as goal

pub returns-clause-only_list : goal.returns-clause-only_list
returns-clause-only_list c = only_list c.args.text.now c.read_lines.result c.read_lines.ensures.list c.read_lines.ensures.fault

pub returns-clause-only_fault : goal.returns-clause-only_fault
returns-clause-only_fault c = only_fault c.args.text.now c.read_lines.result c.read_lines.ensures.list c.read_lines.ensures.fault
