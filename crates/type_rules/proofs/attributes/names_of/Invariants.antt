use Rattle.std.proofs.Common.{◌≡◌, map, take}
use Rattle.type_rules.specs.Steps.{name_place}
use Rattle.type_rules.proofs.attributes.names_of.Given as goal

abbrev pub invariant-loop-attribute : goal.invariant-loop-attribute
invariant-loop-attribute l = map name_place l.names.items ≡ map (λ x. (x.name, x.place)) (take l.attribute-index l.attributes)
