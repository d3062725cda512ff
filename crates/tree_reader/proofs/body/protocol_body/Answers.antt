use Rattle.tree_reader.proofs.BodyTurns.{more_statements, body_read}
use Rattle.tree_reader.proofs.body.protocol_body.Goals as goal

pub statements-preserved : goal.statements-preserved
statements-preserved c =
    more_statements c.statements.managers.items c.statement.new.managers.items c.statements.manages.items c.statement.new.manages.items c.args.reader.now c.statements.reader c.statement.new.reader
    c.statements.invariant c.in_ok-statement.ensures.read c.in_ok-statement.ensures.turns c.in_ok-statement.ensures.fewer

pub returns-clause-read : goal.returns-clause-read
returns-clause-read c =
    body_read c.from_vec.result c.from_vec-2.result c.statement.new.managers.items c.statement.new.manages.items c.from_vec-3.result c.in_ok-messages.messages.items c.args.reader.now c.statement.new.reader c.sections.new.reader c.take.new.self c.take-2.new.self
    c.from_vec.ensures c.from_vec-2.ensures c.from_vec-3.ensures
    (more_statements c.statements.managers.items c.statement.new.managers.items c.statements.manages.items c.statement.new.manages.items c.args.reader.now c.statements.reader c.statement.new.reader
    c.statements.invariant c.in_ok-statement.ensures.read c.in_ok-statement.ensures.turns c.in_ok-statement.ensures.fewer)
    c.in_ok-messages.ensures.read c.in_ok-take.ensures.read c.in_ok-take-2.ensures.read
