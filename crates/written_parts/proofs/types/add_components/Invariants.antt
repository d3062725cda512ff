use Rattle.std.proofs.Common.{take}
use Rattle.written_parts.specs.Appends.{Appends}
use Rattle.written_parts.specs.Types.{told, types_of_components}
use Rattle.written_parts.proofs.types.add_components.Given as goal

-- those so far are listed
abbrev pub invariant-loop-component : goal.invariant-loop-component
invariant-loop-component l = Appends told (types_of_components l.file (take l.component-index l.components)) l.fn.types.items l.types.items
