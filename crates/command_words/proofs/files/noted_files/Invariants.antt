use Rattle.std.proofs.Common.{take, map}
use Rattle.command_words.specs.Compile.{AreListed}
use Rattle.command_words.specs.Listed.{IsKeyed, names_of}
use Rattle.command_words.proofs.files.noted_files.Given as goal

-- the files of the words so far are noted, each under its key
abbrev pub invariant-loop-word : goal.invariant-loop-word
invariant-loop-word l = record { keyed : IsKeyed l.files; listed : AreListed (map (λ w. w.now) (take l.word-index l.words)) (names_of l.files) }
