use Rattle.std.proofs.Common.{[], sym, ◌∙◌}
use Rattle.script_reader.proofs.Refused.{refuses_on}
use Rattle.script_reader.proofs.StatementForms.{only_on}
use Rattle.script_reader.proofs.statements.opening.Goals as goal

pub returns-in_err-message-clause-stops : goal.returns-in_err-message-clause-stops
returns-in_err-message-clause-stops c =
    refuses_on _ _ _ _ c.from_residual-in_err-message.ensures.1
    (λ none. only_on c.args.side c.args.reader.now c.in_ok-word.word c.word.new.self c.in_ok-word.ensures.read (sym c.as_slice-else-is.ensures ∙ c.is-else-is.ensures.yes c.if-is-2.true) (λ m. none m []))
    c.in_err-message.ensures.stops
