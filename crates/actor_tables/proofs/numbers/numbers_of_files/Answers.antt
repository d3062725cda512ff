use Rattle.std.proofs.Common.{◌∙◌, refl, length-set}
use Rattle.actor_tables.proofs.NamedFiles.{finds_more, finds_all}
use Rattle.actor_tables.proofs.numbers.numbers_of_files.Goals as goal

pub loop-number-preserved : goal.loop-number-preserved
loop-number-preserved c = record {
  long = length-set c.loop-number.numbers.items _ c.loop-number.number ∙ c.loop-number.invariant.long;
  found = finds_more c.args.files.now c.loop-number.numbers.items c.loop-number.number _ c.loop-number-test.true refl (rw c.loop-number.invariant.long (c.requires.below c.loop-number.number 0 c.loop-number-test.true)) c.loop-number.invariant.found;
}

pub returns : goal.returns
returns c = finds_all c.args.files.now c.loop-number.numbers.items c.args.count c.loop-number.number c.loop-number.invariant.long c.requires.below c.loop-number-test.false c.loop-number.invariant.found
