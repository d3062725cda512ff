use Rattle.std.proofs.Common.{◌≡◌, ◌++◌, false, map, take}
use Rattle.type_rules.specs.Firsts.{told}
use Rattle.type_rules.proofs.declarations.list_unions.Given as goal

abbrev pub invariant-loop-item : goal.invariant-loop-item
invariant-loop-item l = map told l.all.items ≡ map told l.fn.all.items ++ map (λ x. record { full = x.full; place = x.place; is_using = false }) (take l.item-index l.unions)
