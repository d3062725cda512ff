use Rattle.script_reader.proofs.Refused.{refuses_on}
use Rattle.script_reader.proofs.StatementForms.{same_name, same_who, same_call, not_after, not_whole, only_new}
use Rattle.std.proofs.Common.{[]}
use Rattle.script_reader.specs.Grammar.{name, who, call}
use Rattle.script_reader.specs.Parts.{◌⨾◌}
use Rattle.script_reader.proofs.statements.making.Goals as goal

pub returns-in_err-name-clause-stops : goal.returns-in_err-name-clause-stops
returns-in_err-name-clause-stops c = refuses_on _ _ _ _ c.from_residual.ensures.1 (λ none. only_new c.args.reader.now (λ n w d h. none n h.0 h.1)) c.in_err-name.ensures.stops

pub returns-in_err-who-clause-stops : goal.returns-in_err-who-clause-stops
returns-in_err-who-clause-stops c =
    refuses_on _ _ _ _ c.from_residual-in_err-who.ensures.1
    (λ none. only_new c.args.reader.now (λ n w d. not_after name same_name c.in_ok-name.name c.args.reader.now c.name.new.self c.in_ok-name.ensures.read (who w ⨾ call d) [] (λ h. none w h.0 h.1) n))
    c.in_err-who.ensures.stops

pub returns-in_err-call-clause-stops : goal.returns-in_err-call-clause-stops
returns-in_err-call-clause-stops c =
    refuses_on _ _ _ _ c.from_residual-in_err-call.ensures.1
    (λ none. only_new c.args.reader.now (λ n w d. not_after name same_name c.in_ok-name.name c.args.reader.now c.name.new.self c.in_ok-name.ensures.read (who w ⨾ call d) []
    (not_after who same_who c.in_ok-who.who c.name.new.self c.who.new.self c.in_ok-who.ensures.read (call d) [] (none d []) w) n))
    c.in_err-call.ensures.stops

pub returns-in_err-end-clause-stops : goal.returns-in_err-end-clause-stops
returns-in_err-end-clause-stops c =
    refuses_on _ _ _ _ c.from_residual-in_err-end.ensures.1
    (λ some. only_new c.args.reader.now (λ n w d. not_after name same_name c.in_ok-name.name c.args.reader.now c.name.new.self c.in_ok-name.ensures.read (who w ⨾ call d) []
    (not_after who same_who c.in_ok-who.who c.name.new.self c.who.new.self c.in_ok-who.ensures.read (call d) []
    (not_whole call same_call c.in_ok-call.call c.who.new.self c.call.new.reader c.in_ok-call.ensures.read some d) w) n))
    c.in_err-end.ensures.stops
