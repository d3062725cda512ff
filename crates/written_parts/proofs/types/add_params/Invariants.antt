use Rattle.std.proofs.Common.{take}
use Rattle.written_parts.specs.Appends.{Appends}
use Rattle.written_parts.specs.Types.{told, types_of_params}
use Rattle.written_parts.proofs.types.add_params.Given as goal

-- those so far are listed
abbrev pub invariant-loop-param : goal.invariant-loop-param
invariant-loop-param l = Appends told (types_of_params l.file (take l.param-index l.params)) l.fn.types.items l.types.items
