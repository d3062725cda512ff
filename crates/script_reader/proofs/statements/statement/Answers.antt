use Rattle.std.proofs.Common.{List, subst}
use Rattle.script_reader.specs.declared.token.ScriptToken.{ScriptToken}
use Rattle.script_reader.specs.Grammar.{keyword_of}
use Rattle.script_reader.specs.Parts.{single}
use Rattle.script_reader.proofs.Balanced.{unbalanced}
use Rattle.script_reader.proofs.Refused.{refuses_on}
use Rattle.script_reader.proofs.StatementForms.{no_keyword}
use Rattle.script_reader.proofs.statements.statement.Goals as goal

pub returns-in_err-keyword-clause-stops : goal.returns-in_err-keyword-clause-stops
returns-in_err-keyword-clause-stops c =
    refuses_on _ _ _ _ c.from_residual.ensures.1
    (λ none. no_keyword c.args.tokens.now (λ k to. let P : List ScriptToken → Type 0 = λ l. ¬ single keyword_of k l to in subst P c.new-reader.ensures (none k to)))
    c.in_err-keyword.ensures.stops

pub returns-then-is_unclosed-clause-stops : goal.returns-then-is_unclosed-clause-stops
returns-then-is_unclosed-clause-stops c = λ s. unbalanced s c.args.tokens.now (c.is_unclosed.ensures.0 c.if-is_unclosed.true)
