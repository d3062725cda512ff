use Rattle.std.proofs.Common.{map, take}
use Rattle.type_rules.specs.Compounds.{told, struct, AreNumbers}
use Rattle.type_rules.proofs.compounds.number_structs.Given as goal

abbrev pub invariant-loop-item : goal.invariant-loop-item
invariant-loop-item l = AreNumbers (struct l.file) (take l.item-index l.structs) l.numbers.items (map told l.fn.all.items) (map told l.all.items)
