use Rattle.std.proofs.Common.{rules, ◌≡◌, ◌≢◌}
use Rattle.tree_reader.specs.declared.symbol.Symbol.TheVariants.{Word}
use Rattle.tree_reader.specs.Symbols.{first_symbol}
use Rattle.tree_reader.proofs.Tokens.{taken, not_taken, is_identifier, next_word}
use Rattle.tree_reader.proofs.reader.TokenReader.word.Goals as goal

pub returns-then-ne-clause-stops : goal.returns-then-ne-clause-stops
returns-then-ne-clause-stops c =
    let other : first_symbol c.args.self.now ≢ Word = search rules in
    not_taken Word c.args.self.now c.refusal.result (λ e. cc) other c.refusal.ensures

pub returns-clause-read : goal.returns-clause-read
returns-clause-read c =
    let is : first_symbol c.args.self.now ≡ Word = search rules in
    is_identifier _ _ _ _ _ is c.in_ok-text.ensures

pub returns-clause-turns : goal.returns-clause-turns
returns-clause-turns c =
    let is : first_symbol c.args.self.now ≡ Word = search rules in
    taken Word _ _ (λ e. cc) (next_word _ _ _ _ _ _ is c.in_ok-text.ensures)
