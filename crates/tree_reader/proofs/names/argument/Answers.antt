use Rattle.tree_reader.proofs.NameForms.{argument_read, argument_turns, argument_stops}
use Rattle.tree_reader.proofs.names.argument.Goals as goal

pub returns-in_err-argument_name-clause-stops : goal.returns-in_err-argument_name-clause-stops
returns-in_err-argument_name-clause-stops c =
    argument_stops c.from_residual.result _ c.args.reader.now c.skips.new.self c.from_residual.ensures.1 (c.skips.ensures.yes c.if-skips.true) c.in_err-argument_name.ensures.stops

pub returns-in_ok-argument_name-clause-read : goal.returns-in_ok-argument_name-clause-read
returns-in_ok-argument_name-clause-read c = argument_read _ _ _ _ (c.skips.ensures.yes c.if-skips.true) c.in_ok-argument_name.ensures.read

pub returns-in_ok-argument_name-clause-turns : goal.returns-in_ok-argument_name-clause-turns
returns-in_ok-argument_name-clause-turns c =
    argument_turns c.args.reader.now c.skips.new.self c.argument_name.new.reader (c.skips.ensures.yes c.if-skips.true) c.in_ok-argument_name.ensures.turns
