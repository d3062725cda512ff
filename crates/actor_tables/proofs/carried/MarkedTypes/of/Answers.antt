use Rattle.actor_tables.proofs.Uncarried.{marked}
use Rattle.actor_tables.proofs.carried.MarkedTypes.of.Goals as goal

pub returns-clause-marks : goal.returns-clause-marks
returns-clause-marks c =
    marked _ c.in_ok-nodes.nodes.items (rw c.as_slice.ensures.value at c.in_ok-nodes.ensures) (rw c.as_slice-2.ensures.value at c.in_ok-marks.ensures)
