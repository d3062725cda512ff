use Rattle.std.proofs.Common.{rules}
use Rattle.tree_reader.specs.declared.symbol.Symbol.TheVariants as symbols
use Rattle.tree_reader.proofs.FileForms.{namespace_closed}
use Rattle.tree_reader.proofs.Turns.{next_of}
use Rattle.tree_reader.proofs.file.close_namespace.Goals as goal

pub returns-clause-read : goal.returns-clause-read
returns-clause-read c = λ kind tokens h.
    namespace_closed kind tokens c.args.draft.now c.args.reader.now c.pass.new.self c.pop.new.self _ c.requires.inside c.pop.ensures.items (search (rules, c.pop.ensures.len)) (next_of symbols.CloseBrace _ _ _ c.requires.closing c.pass.ensures) h
