use Rattle.std.proofs.Common.{[], List, sym, subst, ◌∙◌}
use Rattle.script_reader.specs.declared.token.ScriptToken.{ScriptToken}
use Rattle.script_reader.specs.Grammar.{statement}
use Rattle.script_reader.proofs.Refused.{refuses_on, refuses_as}
use Rattle.script_reader.proofs.TokenLists.{one_tokens}
use Rattle.script_reader.proofs.line.statement_of.Goals as goal

pub returns-in_err-tokens-clause-stops : goal.returns-in_err-tokens-clause-stops
returns-in_err-tokens-clause-stops c = refuses_on _ _ _ _ c.from_residual.ensures.1 (λ none s h. none h.0 h.1) c.in_err-tokens.ensures.stops

pub returns-clause-stops : goal.returns-clause-stops
returns-clause-stops c =
    refuses_as _ _ c.statement.result
    (λ none s h. let P : List ScriptToken → Type 0 = λ l. statement s l [] in
    none s (subst P (one_tokens h.0 c.in_ok-tokens.tokens.items c.args.line.now h.1 c.in_ok-tokens.ensures.read ∙ sym c.as_slice.ensures.value) h.2))
    c.statement.ensures.stops
