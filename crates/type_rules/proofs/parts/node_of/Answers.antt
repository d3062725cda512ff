use Rattle.std.proofs.Common.{refl}
use Rattle.type_rules.proofs.parts.node_of.Goals as goal

pub returns-in_ok-parts-in-Struct : goal.returns-in_ok-parts-in-Struct
returns-in_ok-parts-in-Struct c = rw c.in-Struct.is (c.in_ok-parts-in-Struct.parts, rw c.as_slice.ensures at c.in_ok-parts-in-Struct.ensures, record { need = refl; parts_are = refl })

pub returns-in_ok-parts-in-Union : goal.returns-in_ok-parts-in-Union
returns-in_ok-parts-in-Union c = rw c.in-Union.is (c.in_ok-parts-in-Union.parts, rw c.as_slice-in-Union.ensures at c.in_ok-parts-in-Union.ensures, c.union_node.ensures)
