use Rattle.std.proofs.Common.{◌≡◌, take}
use Rattle.std.specs.List.{filter_map}
use Rattle.actor_tables.specs.Marked.{part_of}
use Rattle.actor_tables.proofs.carried.component_parts.Given as goal

abbrev pub invariant-loop-component : goal.invariant-loop-component
invariant-loop-component l = l.parts.items ≡ filter_map part_of (take l.component-index l.components)
