use Rattle.actor_tables.specs.Numbered.{AreNamedFiles}
use Rattle.actor_tables.proofs.numbers.named_files.Given as goal

abbrev pub invariant-loop-file : goal.invariant-loop-file
invariant-loop-file l = AreNamedFiles l.program l.file l.named.items
