use Rattle.std.proofs.Common.{◌≡◌, map, take}
use Rattle.std.specs.List.{flat_map, enumerate_from}
use Rattle.written_parts.specs.Types.{told, types_of_unit}
use Rattle.written_parts.proofs.types.written_types.Given as goal

-- those so far are listed
abbrev pub invariant-loop-file : goal.invariant-loop-file
invariant-loop-file l = map told l.types.items ≡ flat_map (λ e. types_of_unit e.0 e.1.unit) (enumerate_from 0 (take l.file l.program))
