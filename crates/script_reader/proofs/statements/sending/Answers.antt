use Rattle.script_reader.proofs.Refused.{refuses_on}
use Rattle.script_reader.proofs.StatementForms.{same_who, same_call, not_after, not_whole, only_send}
use Rattle.std.proofs.Common.{[]}
use Rattle.script_reader.specs.Grammar.{who, call}
use Rattle.script_reader.proofs.statements.sending.Goals as goal

pub returns-in_err-who-clause-stops : goal.returns-in_err-who-clause-stops
returns-in_err-who-clause-stops c = refuses_on _ _ _ _ c.from_residual.ensures.1 (λ none. only_send c.args.reader.now (λ w d h. none w h.0 h.1)) c.in_err-who.ensures.stops

pub returns-in_err-call-clause-stops : goal.returns-in_err-call-clause-stops
returns-in_err-call-clause-stops c =
    refuses_on _ _ _ _ c.from_residual-in_err-call.ensures.1
    (λ none. only_send c.args.reader.now (λ w d. not_after who same_who c.in_ok-who.who c.args.reader.now c.who.new.self c.in_ok-who.ensures.read (call d) [] (none d []) w))
    c.in_err-call.ensures.stops

pub returns-in_err-end-clause-stops : goal.returns-in_err-end-clause-stops
returns-in_err-end-clause-stops c =
    refuses_on _ _ _ _ c.from_residual-in_err-end.ensures.1
    (λ some. only_send c.args.reader.now (λ w d. not_after who same_who c.in_ok-who.who c.args.reader.now c.who.new.self c.in_ok-who.ensures.read (call d) []
    (not_whole call same_call c.in_ok-call.call c.who.new.self c.call.new.reader c.in_ok-call.ensures.read some d) w))
    c.in_err-end.ensures.stops
