use Rattle.std.proofs.Common.{map, take}
use Rattle.type_rules.specs.Parts.{AreParts}
use Rattle.type_rules.proofs.parts.parts_of_components.Given as goal

-- those so far
abbrev pub invariant-loop-component : goal.invariant-loop-component
invariant-loop-component l = AreParts l.names l.files l.file (map (λ x. x.base) (take l.component-index l.components)) l.parts
