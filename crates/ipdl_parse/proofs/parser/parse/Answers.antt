use Rattle.ipdl_parse.proofs.Places.{left_within, fault_of}
use Rattle.ipdl_parse.proofs.parser.parse.Goals as goal

pub fault-requires : goal.fault-requires
fault-requires c = left_within c.args.kind c.args.tokens.now c.in-Err-Left.left (rw c.in-Err-Left.field-0-is at c.in-Err-Left.ensures.stops)

pub returns-in-Err-Left-clause-fault : goal.returns-in-Err-Left-clause-fault
returns-in-Err-Left-clause-fault c =
    fault_of c.args.kind c.args.tokens.now c.args.end c.in-Err-Left.left c.fault.result (rw c.in-Err-Left.field-0-is at c.in-Err-Left.ensures.stops) c.fault.ensures
