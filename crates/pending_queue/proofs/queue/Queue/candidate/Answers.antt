use Rattle.std.proofs.Common.{◌≡◌, ◌<◌, sym, ap, ◌∙◌, subst}
use Rattle.linked_lists.specs.declared.link.NodeLink.{NodeLink}
use Rattle.linked_lists.specs.Chosen.{chosen_keys}
use Rattle.linked_lists.specs.Chains.{link_of_some}
use Rattle.pending_queue.specs.declared.node.Chain.TheVariants.{SameClass}
use Rattle.pending_queue.specs.Classes.{is_class}
use Rattle.pending_queue.specs.DeferralContext.{is_free}
use Rattle.pending_queue.specs.Queue.{keys_of, queue_item, node_at}
use Rattle.pending_queue.specs.Walk.{IsAt, rank_of}
use Rattle.pending_queue.proofs.Walking.{none_free, steps}
use Rattle.pending_queue.proofs.queue.Queue.candidate.Goals.{After-link_at-at}
use Rattle.pending_queue.specs.Nodes.{link_of}
use Rattle.pending_queue.proofs.queue.Queue.candidate.Goals as goal

pub returns-then-defers_class : goal.returns-then-defers_class
returns-then-defers_class c =
    none_free c.args.holding.now c.args.class (queue_item c.args.self.now) (keys_of c.args.self.now) (sym c.defers_class.ensures ∙ c.if-defers_class.true)

step : (c : After-link_at-at) →
    let keys = chosen_keys (is_class c.args.class) (queue_item c.args.self.now) (keys_of c.args.self.now) in
    IsAt (is_free c.args.holding.now) (queue_item c.args.self.now) keys c.link_at-at.result.next × (rank_of c.link_at-at.result.next keys < rank_of c.loop-at.at keys)
step c =
    let q = c.args.self.now in
    let t = is_free c.args.holding.now in
    let keys = chosen_keys (is_class c.args.class) (queue_item q) (keys_of q) in
    let r = steps q c.requires t c.args.class c.in-Some.key (subst (IsAt t (queue_item q) keys) c.in-Some.is c.loop-at.invariant) (sym c.frees.ensures ∙ c.if-frees.false) in
    let next : (link_of_some (link_of SameClass) (node_at q c.in-Some.key)).next ≡ c.link_at-at.result.next = ap (λ (l : NodeLink). l.next) (sym c.link_at-at.ensures) in
    (subst (IsAt t (queue_item q) keys) next r.0, subst (λ v. rank_of v keys < rank_of c.loop-at.at keys) next (subst (λ v. rank_of (link_of_some (link_of SameClass) (node_at q c.in-Some.key)).next keys < rank_of v keys) (sym c.in-Some.is) r.1))

pub loop-at-smaller : goal.loop-at-smaller
loop-at-smaller c = (step (goal.at.loop-at-smaller c).After-link_at-at).1

pub loop-at-preserved : goal.loop-at-preserved
loop-at-preserved c = (step (goal.at.loop-at-preserved c).After-link_at-at).0
