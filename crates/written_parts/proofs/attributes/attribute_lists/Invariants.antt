use Rattle.std.proofs.Common.{[], take}
use Rattle.std.specs.List.{flat_map}
use Rattle.written_parts.specs.Appends.{Appends}
use Rattle.written_parts.specs.Attributes.{told, lists_of_unit}
use Rattle.written_parts.proofs.attributes.attribute_lists.Given as goal

-- those so far are listed
abbrev pub invariant-loop-entry : goal.invariant-loop-entry
invariant-loop-entry l = Appends told (flat_map (λ e. lists_of_unit e.unit) (take l.entry-index l.program)) [] l.lists.items
