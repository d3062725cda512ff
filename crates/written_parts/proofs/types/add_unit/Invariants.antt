use Rattle.std.proofs.Common.{take}
use Rattle.std.specs.List.{flat_map}
use Rattle.written_parts.specs.Appends.{Appends}
use Rattle.written_parts.specs.Types.{told, types_of_params, types_of_components}
use Rattle.written_parts.proofs.types.add_unit.Given as goal

-- those so far are listed
abbrev pub invariant-loop-struct_decl : goal.invariant-loop-struct_decl
invariant-loop-struct_decl l = Appends told (flat_map (λ s. types_of_params l.file s.fields) (take l.struct_decl-index l.unit.structs)) l.fn.types.items l.types.items

-- those so far are listed
abbrev pub invariant-loop-union_decl : goal.invariant-loop-union_decl
invariant-loop-union_decl l = Appends told (flat_map (λ u. types_of_components l.file u.components) (take l.union_decl-index l.unit.unions)) l.initial.types.items l.types.items
