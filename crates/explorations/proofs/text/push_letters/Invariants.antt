use Rattle.std.proofs.Common.{◌≡◌, ◌++◌, drop, map}
use Rattle.command_words.specs.RunOptions.{letter_of}
use Rattle.explorations.proofs.text.push_letters.Given as goal

-- what is written and the letters of what is left
abbrev pub invariant-loop-turn : goal.invariant-loop-turn
invariant-loop-turn l = l.out.items ++ map letter_of (drop l.turn-index l.word) ≡ l.fn.out.items ++ map letter_of l.word
