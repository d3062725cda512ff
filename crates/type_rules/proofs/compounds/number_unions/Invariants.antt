use Rattle.std.proofs.Common.{map, take}
use Rattle.type_rules.specs.Compounds.{told, union, AreNumbers}
use Rattle.type_rules.proofs.compounds.number_unions.Given as goal

abbrev pub invariant-loop-item : goal.invariant-loop-item
invariant-loop-item l = AreNumbers (union l.file) (take l.item-index l.unions) l.numbers.items (map told l.fn.all.items) (map told l.all.items)
