use Rattle.std.proofs.Common.{sym, ◌∙◌, arith}
use Rattle.script_reader.proofs.Begins.{word_begins}
use Rattle.script_reader.proofs.tokens.token_of.Goals as goal

pub returns-in_ok-name-in-Word-clause-less : goal.returns-in_ok-name-in-Word-clause-less
returns-in_ok-name-in-Word-clause-less c = let some = word_begins c.args.cursor.now (sym c.requires ∙ c.in-Word.is) in omega (arith, some)
