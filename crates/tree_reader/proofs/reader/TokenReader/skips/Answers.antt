use Rattle.std.proofs.Common.{◌∙◌, sym, rules}
use denote.Enum.Bare.{differs_false}
use Rattle.tree_reader.specs.contracts.symbol.Symbol.{the_type}
use Rattle.tree_reader.proofs.reader.TokenReader.skips.Goals as goal

pub returns-clause-yes : goal.returns-clause-yes
returns-clause-yes c = λ _.
    let same = differs_false the_type (search rules) _ _ (sym c.ne.ensures ∙ c.if-ne.false) in
    let next = c.pass.ensures in
    (next.0, next.1, next.2.0 ∙ (sym c.symbol.ensures ∙ same))
