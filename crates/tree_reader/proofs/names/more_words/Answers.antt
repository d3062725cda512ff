use Rattle.std.proofs.Common.{arith}
use Rattle.tree_reader.proofs.NameForms.{word_goes_on, word_stays_on, word_stops}
use Rattle.tree_reader.proofs.Turns.{fewer_of}
use Rattle.tree_reader.proofs.names.more_words.Goals as goal

pub returns-in_err-word-clause-stops : goal.returns-in_err-word-clause-stops
returns-in_err-word-clause-stops c =
    word_stops c.from_residual-in_err-word.result _ c.args.reader.now c.words.reader c.skips.new.self c.from_residual-in_err-word.ensures.1
    c.words.invariant.turns (c.skips.ensures.yes c.words-test.true) c.in_err-word.ensures.stops

pub words-preserved : goal.words-preserved
words-preserved c =
    let here = c.skips.ensures.yes c.words-test.true in
    record {
      read = word_goes_on _ _ _ _ _ _ _ _ _ _ _ c.in_ok-append.ensures.ok c.in_ok-append-2.ensures.ok c.as_slice.ensures here c.in_ok-word.ensures.read c.words.invariant.read;
      turns = word_stays_on c.args.reader.now c.words.reader c.skips.new.self c.word.new.self c.words.invariant.turns here c.in_ok-word.ensures.turns;
      fewer = omega (arith, fewer_of _ _ _ here, c.in_ok-word.ensures.less);
    }
