use Rattle.ipdl_base.specs.declared.kinds.Semantics.TheVariants.{Sync}
use Rattle.std.proofs.Common.{inr, refl}
use Rattle.tree_reader.specs.declared.symbol.Symbol.TheVariants as symbols
use Rattle.tree_reader.proofs.FileForms.{word_read, other_word_read}
use Rattle.tree_reader.proofs.Turns.{is_spelled}
use Rattle.tree_reader.proofs.file.protocol_semantics.Goals as goal

pub returns-then-skips-clause-drafted : goal.returns-then-skips-clause-drafted
returns-then-skips-clause-drafted c = λ kind tokens list draft may h.
    let next = c.skips.ensures.yes c.if-skips.true in
    word_read kind tokens list draft c.args.reader.now c.skips.new.self symbols.Sync Sync (inr refl) (is_spelled symbols.Sync _ _ next) next may h

pub returns-clause-drafted : goal.returns-clause-drafted
returns-clause-drafted c = λ kind tokens list draft may h.
    let other = c.skips.ensures.not c.if-skips.false in
    other_word_read c.skips-2.result kind tokens list draft c.args.reader.now c.skips.new.self c.skips-2.new.self c.requires other.0 other.1 c.skips-2.ensures.yes c.skips-2.ensures.not may h
