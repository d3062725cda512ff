use Rattle.std.proofs.Common.{map, take}
use Rattle.written_parts.specs.Appends.{Appends}
use Rattle.written_parts.specs.Attributes.{told, borne_by}
use Rattle.written_parts.specs.declared.attributes.Bearer.TheVariants as bearer
use Rattle.written_parts.proofs.attributes.add_unit.Given as goal

-- those so far are listed
abbrev pub invariant-loop-using_decl : goal.invariant-loop-using_decl
invariant-loop-using_decl l = Appends told (map (λ u. borne_by bearer.Using u.attributes) (take l.using_decl-index l.unit.usings)) l.fn.lists.items l.lists.items

-- those so far are listed
abbrev pub invariant-loop-struct_decl : goal.invariant-loop-struct_decl
invariant-loop-struct_decl l = Appends told (map (λ s. borne_by bearer.Struct s.attributes) (take l.struct_decl-index l.unit.structs)) l.initial.lists.items l.lists.items

-- those so far are listed
abbrev pub invariant-loop-union_decl : goal.invariant-loop-union_decl
invariant-loop-union_decl l = Appends told (map (λ u. borne_by bearer.Union u.attributes) (take l.union_decl-index l.unit.unions)) l.initial.lists.items l.lists.items
