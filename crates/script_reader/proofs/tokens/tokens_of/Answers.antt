use Rattle.std.proofs.Common.{ℕ, List, sym, subst, ◌∙◌}
use Rattle.script_reader.specs.Tokens.{IsToken}
use Rattle.script_reader.proofs.Refused.{refuses_on}
use Rattle.script_reader.proofs.TokenLists.{HasTaken-next, taken_whole, none_taken}
use Rattle.script_reader.proofs.tokens.tokens_of.Goals as goal

pub returns-in_err-token-clause-stops : goal.returns-in_err-token-clause-stops
returns-in_err-token-clause-stops c =
    refuses_on _ _ _ _ c.from_residual.ensures.1
    (λ none. none_taken c.args.line.now c.tokens.tokens.items c.tokens.cursor c.tokens.invariant (sym c.is_blank.ensures ∙ c.tokens-test.true)
    (λ t to. let P : List ℕ → Type 0 = λ l. ¬ IsToken t l to in subst P c.pass_blanks.ensures.rest (none t to)))
    c.in_err-token.ensures.stops

pub tokens-preserved : goal.tokens-preserved
tokens-preserved c =
    HasTaken-next c.args.line.now c.tokens.tokens.items _ c.in_ok-token.field-0 c.tokens.cursor _ c.tokens.invariant (sym c.is_blank.ensures ∙ c.tokens-test.true)
    (let P : List ℕ → Type 0 = λ l. IsToken c.in_ok-token.field-0 l c.token.new.cursor in subst P c.pass_blanks.ensures.rest c.in_ok-token.ensures.read)
    c.in_ok-push.ensures.items

pub returns-clause-read : goal.returns-clause-read
returns-clause-read c = taken_whole c.args.line.now c.tokens.tokens.items c.tokens.cursor c.tokens.invariant (sym c.is_blank.ensures ∙ c.tokens-test.false)
