use Rattle.std.proofs.Common.{◌≡◌, take}
use Rattle.std.specs.List.{filter_map}
use Rattle.actor_tables.specs.Marked.{part_of}
use Rattle.actor_tables.proofs.carried.field_parts.Given as goal

abbrev pub invariant-loop-field : goal.invariant-loop-field
invariant-loop-field l = l.parts.items ≡ filter_map (λ field. part_of field.shape) (take l.field-index l.fields)
