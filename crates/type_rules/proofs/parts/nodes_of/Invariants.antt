use Rattle.std.proofs.Common.{map, take}
use Rattle.type_rules.specs.Compounds.{told}
use Rattle.type_rules.specs.Parts.{AreNodes}
use Rattle.type_rules.proofs.parts.nodes_of.Given as goal

-- the nodes so far
abbrev pub invariant-loop-compound : goal.invariant-loop-compound
invariant-loop-compound l = AreNodes l.names l.compounds.files.items (map told (take l.compound-index l.compounds.all.items)) l.nodes.items
