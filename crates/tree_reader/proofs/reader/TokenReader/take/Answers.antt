use Rattle.std.proofs.Common.{List, length, ap, ◌∙◌}
use Rattle.ipdl_base.specs.declared.token.Token.{Token}
use Rattle.tree_reader.specs.declared.refusal.TreeRefusal.TheVariants.{Left}
use Rattle.tree_reader.proofs.Tokens.{taken, not_taken}
use Rattle.tree_reader.proofs.Turns.{is_spelled}
use Rattle.tree_reader.proofs.reader.TokenReader.take.Goals as goal

pub returns-then-skips-clause-read : goal.returns-then-skips-clause-read
returns-then-skips-clause-read c = is_spelled c.args.symbol _ _ (c.skips.ensures.yes c.if-skips.true)

pub returns-then-skips-clause-turns : goal.returns-then-skips-clause-turns
returns-then-skips-clause-turns c = taken c.args.symbol _ _ c.requires (c.skips.ensures.yes c.if-skips.true)

pub returns-else-skips-clause-stops : goal.returns-else-skips-clause-stops
returns-else-skips-clause-stops c =
    let kept = c.skips.ensures.not c.if-skips.false in
    not_taken c.args.symbol c.args.self.now c.refusal.result c.requires kept.0 (c.refusal.ensures ∙ ap (λ (x : List Token). Left (length x)) kept.1)
