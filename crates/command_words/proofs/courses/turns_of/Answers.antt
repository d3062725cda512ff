use Rattle.std.proofs.Common.{refl}
use Rattle.command_words.proofs.OneCourse.{no_turns}
use Rattle.command_words.proofs.courses.turns_of.Goals as goal

pub returns-in_default-clause-usage : goal.returns-in_default-clause-usage
returns-in_default-clause-usage c is turns = no_turns c.args.letters.now c.loop-letter.letter-index _ turns c.loop-letter-test.true (λ turn. c.in_default.ensures.none refl turn)
