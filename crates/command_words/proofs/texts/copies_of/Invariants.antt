use Rattle.std.proofs.Common.{◌≡◌, take, map, string_bytes}
use Rattle.command_words.proofs.texts.copies_of.Given as goal

-- the words so far are copied
abbrev pub invariant-loop-word : goal.invariant-loop-word
invariant-loop-word l = map string_bytes l.copies.items ≡ map (λ w. w.now) (take l.word-index l.words)
