use Rattle.script_reader.proofs.Refused.{refuses_on}
use Rattle.script_reader.proofs.StatementForms.{same_arguments, not_whole, only_return}
use Rattle.std.proofs.Common.{[]}
use Rattle.script_reader.specs.Grammar.{arguments}
use Rattle.script_reader.proofs.statements.returning.Goals as goal

pub returns-in_err-values-clause-stops : goal.returns-in_err-values-clause-stops
returns-in_err-values-clause-stops c = refuses_on _ _ _ _ c.from_residual.ensures.1 (λ none. only_return c.args.reader.now (λ vs. none vs [])) c.in_err-values.ensures.stops

pub returns-in_err-end-clause-stops : goal.returns-in_err-end-clause-stops
returns-in_err-end-clause-stops c =
    refuses_on _ _ _ _ c.from_residual-in_err-end.ensures.1
    (λ some. only_return c.args.reader.now (not_whole arguments same_arguments c.in_ok-values.values c.args.reader.now c.arguments.new.reader c.in_ok-values.ensures.read some))
    c.in_err-end.ensures.stops
