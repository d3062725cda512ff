use Rattle.std.proofs.Common.{◌<◌}
use Rattle.actor_tables.specs.Numbered.{AddsKeys, IsUnionKey}
use Rattle.actor_tables.proofs.numbers.add_unions.Given as goal

abbrev pub invariant-loop-index : goal.invariant-loop-index
invariant-loop-index l = AddsKeys (λ key. (key.index < l.index) × IsUnionKey l.unions key) l.fn.keys.items l.keys.items
