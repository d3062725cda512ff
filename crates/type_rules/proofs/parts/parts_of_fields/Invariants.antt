use Rattle.std.proofs.Common.{map, take}
use Rattle.type_rules.specs.Parts.{AreParts}
use Rattle.type_rules.proofs.parts.parts_of_fields.Given as goal

-- those so far
abbrev pub invariant-loop-field : goal.invariant-loop-field
invariant-loop-field l = AreParts l.names l.files l.file (map (λ x. x.spec.base) (take l.field-index l.fields)) l.parts
