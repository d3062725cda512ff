use Rattle.script_reader.proofs.Refused.{refuses_on}
use Rattle.script_reader.proofs.StatementForms.{same_name, same_call, same_arguments, not_after, not_whole, only_resolve, mark_no_name}
use Rattle.std.proofs.Common.{[]}
use Rattle.script_reader.specs.Grammar.{name, arguments, call}
use Rattle.script_reader.proofs.statements.resolving.Goals as goal

pub returns-in_err-values-clause-stops : goal.returns-in_err-values-clause-stops
returns-in_err-values-clause-stops c =
    refuses_on _ _ _ _ c.from_residual.ensures.1 (λ none. only_resolve c.args.reader.now (λ vs. none vs []) (λ n d h. mark_no_name 40 n _ _ _ (c.is_at.ensures.yes c.if-is_at.true) h.1)) c.in_err-values.ensures.stops

pub returns-in_err-end-clause-stops : goal.returns-in_err-end-clause-stops
returns-in_err-end-clause-stops c =
    refuses_on _ _ _ _ c.from_residual-in_err-end.ensures.1
    (λ some. only_resolve c.args.reader.now (not_whole arguments same_arguments c.in_ok-values.values c.args.reader.now c.arguments.new.reader c.in_ok-values.ensures.read some) (λ n d h. mark_no_name 40 n _ _ _ (c.is_at.ensures.yes c.if-is_at.true) h.1))
    c.in_err-end.ensures.stops

pub returns-in_err-name-clause-stops : goal.returns-in_err-name-clause-stops
returns-in_err-name-clause-stops c =
    refuses_on _ _ _ _ c.from_residual-in_err-name.ensures.1
    (λ none. only_resolve c.args.reader.now (λ vs h. c.is_at.ensures.not c.if-is_at.false h.0 h.1) (λ n d h. none n h.0 h.1))
    c.in_err-name.ensures.stops

pub returns-in_err-call-clause-stops : goal.returns-in_err-call-clause-stops
returns-in_err-call-clause-stops c =
    refuses_on _ _ _ _ c.from_residual-in_err-call.ensures.1
    (λ none. only_resolve c.args.reader.now (λ vs h. c.is_at.ensures.not c.if-is_at.false h.0 h.1)
    (λ n d. not_after name same_name c.in_ok-name.name c.args.reader.now c.name.new.self c.in_ok-name.ensures.read (call d) [] (none d []) n))
    c.in_err-call.ensures.stops

pub returns-in_err-end-2-clause-stops : goal.returns-in_err-end-2-clause-stops
returns-in_err-end-2-clause-stops c =
    refuses_on _ _ _ _ c.from_residual-in_err-end-2.ensures.1
    (λ some. only_resolve c.args.reader.now (λ vs h. c.is_at.ensures.not c.if-is_at.false h.0 h.1)
    (λ n d. not_after name same_name c.in_ok-name.name c.args.reader.now c.name.new.self c.in_ok-name.ensures.read (call d) []
    (not_whole call same_call c.in_ok-call.call c.name.new.self c.call.new.reader c.in_ok-call.ensures.read some d) n))
    c.in_err-end-2.ensures.stops
