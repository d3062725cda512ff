use Rattle.std.proofs.Common.{◌≡◌, map, take}
use Rattle.type_rules.specs.Steps.{name_place}
use Rattle.type_rules.proofs.fields.names_of.Given as goal

abbrev pub invariant-loop-field : goal.invariant-loop-field
invariant-loop-field l = map name_place l.names.items ≡ map (λ x. (x.name, x.place)) (take l.field-index l.fields)
