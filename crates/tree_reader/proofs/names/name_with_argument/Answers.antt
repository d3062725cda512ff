use Rattle.tree_reader.proofs.NameForms.{named_stops}
use Rattle.tree_reader.proofs.names.name_with_argument.Goals as goal

pub returns-in_err-inner-clause-stops : goal.returns-in_err-inner-clause-stops
returns-in_err-inner-clause-stops c =
    named_stops c.from_residual-in_err-inner.result _ c.args.reader.now c.qualified.new.reader c.from_residual-in_err-inner.ensures.1 c.in_ok-name.ensures.turns c.in_err-inner.ensures.stops
