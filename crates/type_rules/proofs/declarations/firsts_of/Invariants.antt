use Rattle.std.proofs.Common.{map, take}
use Rattle.type_rules.specs.Firsts.{told, FirstsAre}
use Rattle.type_rules.proofs.declarations.firsts_of.Given as goal

-- the places of the declarations so far
abbrev pub invariant-loop-declaration : goal.invariant-loop-declaration
invariant-loop-declaration l = FirstsAre l.own (map told (take l.declaration-index l.all)) l.firsts
