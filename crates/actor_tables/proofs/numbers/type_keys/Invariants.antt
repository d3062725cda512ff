use Rattle.std.proofs.Common.{[]}
use Rattle.actor_tables.specs.Numbered.{AddsKeys, IsKeyBelow}
use Rattle.actor_tables.proofs.numbers.type_keys.Given as goal

abbrev pub invariant-loop-entry : goal.invariant-loop-entry
invariant-loop-entry l = AddsKeys (IsKeyBelow l.program l.entry-index) [] l.keys.items
