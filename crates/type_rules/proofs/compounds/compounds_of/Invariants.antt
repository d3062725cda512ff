use Rattle.std.proofs.Common.{map, take}
use Rattle.type_rules.specs.Compounds.{told, AllNumbered}
use Rattle.type_rules.proofs.compounds.compounds_of.Given as goal

-- the files so far
abbrev pub invariant-loop-file : goal.invariant-loop-file
invariant-loop-file l = AllNumbered (take l.file l.program) (map told l.all.items) l.files.items
