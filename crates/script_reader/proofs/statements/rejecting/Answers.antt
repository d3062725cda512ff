use Rattle.script_reader.proofs.Refused.{refuses_on}
use Rattle.script_reader.proofs.StatementForms.{same_name, not_after, only_reject}
use Rattle.std.proofs.Common.{[]}
use Rattle.script_reader.specs.Grammar.{name, message}
use Rattle.script_reader.proofs.statements.rejecting.Goals as goal

pub returns-in_err-name-clause-stops : goal.returns-in_err-name-clause-stops
returns-in_err-name-clause-stops c =
    refuses_on _ _ _ _ c.from_residual.ensures.1 (λ none. only_reject c.args.reader.now (c.is_empty.ensures.not c.if-is_empty.false) (λ n m h. none n h.0 h.1)) c.in_err-name.ensures.stops

pub returns-in_err-message-clause-stops : goal.returns-in_err-message-clause-stops
returns-in_err-message-clause-stops c =
    refuses_on _ _ _ _ c.from_residual-in_err-message.ensures.1
    (λ none. only_reject c.args.reader.now (c.is_empty.ensures.not c.if-is_empty.false)
    (λ n m. not_after name same_name c.in_ok-name.name c.args.reader.now c.name.new.self c.in_ok-name.ensures.read (message m) [] (none m []) n))
    c.in_err-message.ensures.stops
