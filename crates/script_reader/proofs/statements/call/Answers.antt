use Rattle.script_reader.proofs.Refused.{refuses_on}
use Rattle.script_reader.proofs.StatementForms.{same_message, not_after}
use Rattle.script_reader.specs.Grammar.{message, arguments}
use Rattle.script_reader.proofs.statements.call.Goals as goal

pub returns-in_err-message-clause-stops : goal.returns-in_err-message-clause-stops
returns-in_err-message-clause-stops c = refuses_on _ _ _ _ c.from_residual.ensures.1 (λ none d to h. none d.message h.0 h.1) c.in_err-message.ensures.stops

pub returns-in_err-values-clause-stops : goal.returns-in_err-values-clause-stops
returns-in_err-values-clause-stops c =
    refuses_on _ _ _ _ c.from_residual-in_err-values.ensures.1
    (λ none d to. not_after message same_message c.in_ok-message.message c.args.reader.now c.message.new.reader c.in_ok-message.ensures.read (arguments d.values) to (none d.values to) d.message)
    c.in_err-values.ensures.stops
