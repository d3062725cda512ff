use Rattle.std.proofs.Common.{◌≡◌, map, take}
use Rattle.command_words.specs.RunOptions.{letter_of}
use Rattle.command_words.proofs.courses.turns_of.Given as goal

-- the turns of the letters so far are there
abbrev pub invariant-loop-letter : goal.invariant-loop-letter
invariant-loop-letter l = take l.letter-index l.letters ≡ map letter_of l.turns.items
