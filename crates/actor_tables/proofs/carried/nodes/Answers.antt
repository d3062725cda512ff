use Rattle.std.proofs.Common.{refl}
use Rattle.actor_tables.proofs.Uncarried.{nodes_first, nodes_next}
use Rattle.actor_tables.proofs.carried.nodes.Goals as goal

pub loop-row-init : goal.loop-row-init
loop-row-init c = nodes_first c.push.new.self.items c.new-nodes.result.items _ c.in_ok-push.ensures.items c.new-nodes.ensures.items refl c.new.ensures.items

pub loop-row-preserved : goal.loop-row-preserved
loop-row-preserved c =
    nodes_next c.args.rows.now c.loop-row.nodes.items c.push-in-loop-row.new.self.items c.loop-row.row-index c.row-item.result c.in_ok-node.field-0 c.loop-row-test.true c.row-item.is c.loop-row.invariant c.in_ok-node.ensures c.in_ok-push-2.ensures.items
