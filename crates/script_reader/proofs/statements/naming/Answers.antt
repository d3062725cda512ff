use Rattle.script_reader.proofs.Refused.{refuses_on}
use Rattle.script_reader.proofs.StatementForms.{same_name, not_after, only_let}
use Rattle.std.proofs.Common.{[]}
use Rattle.script_reader.specs.Grammar.{name, who}
use Rattle.script_reader.proofs.statements.naming.Goals as goal

pub returns-in_err-name-clause-stops : goal.returns-in_err-name-clause-stops
returns-in_err-name-clause-stops c = refuses_on _ _ _ _ c.from_residual.ensures.1 (λ none. only_let c.args.reader.now (λ n w h. none n h.0 h.1)) c.in_err-name.ensures.stops

pub returns-in_err-who-clause-stops : goal.returns-in_err-who-clause-stops
returns-in_err-who-clause-stops c =
    refuses_on _ _ _ _ c.from_residual-in_err-who.ensures.1
    (λ none. only_let c.args.reader.now (λ n w. not_after name same_name c.in_ok-name.name c.args.reader.now c.name.new.self c.in_ok-name.ensures.read (who w) [] (none w []) n))
    c.in_err-who.ensures.stops
