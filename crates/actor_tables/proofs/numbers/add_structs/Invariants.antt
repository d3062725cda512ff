use Rattle.std.proofs.Common.{◌<◌}
use Rattle.actor_tables.specs.Numbered.{AddsKeys, IsStructKey}
use Rattle.actor_tables.proofs.numbers.add_structs.Given as goal

abbrev pub invariant-loop-index : goal.invariant-loop-index
invariant-loop-index l = AddsKeys (λ key. (key.index < l.index) × IsStructKey l.structs key) l.fn.keys.items l.keys.items
