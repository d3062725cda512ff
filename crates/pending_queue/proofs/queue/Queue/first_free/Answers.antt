use Rattle.std.proofs.Common.{ap, ◌∙◌}
use Rattle.pending_queue.specs.declared.class.Class.TheVariants.{Asynchronous, SyncNot, SyncInside, Highest}
use Rattle.pending_queue.specs.DeferralContext.{is_free}
use Rattle.pending_queue.specs.Queue.{node_at, earlier_of}
use Rattle.pending_queue.proofs.Walking.{earliest_is, of_class_at}
use Rattle.pending_queue.proofs.queue.Queue.first_free.Goals as goal

pub returns : goal.returns
returns c =
    let q = c.args.self.now in
    let n = node_at q in
    let at = of_class_at q c.requires (is_free c.args.holding.now) in
    let cpow = c.earlier-cpow.ensures ∙ ap (λ v. earlier_of n v c.candidate-mark.result) c.candidate.ensures ∙ ap (earlier_of n (at Highest)) c.candidate-mark.ensures in
    let inside = c.earlier-sync_inside.ensures ∙ ap (λ v. earlier_of n v c.earlier-cpow.result) c.candidate-2.ensures ∙ ap (earlier_of n (at SyncInside)) cpow in
    let outer = c.earlier-sync_not.ensures ∙ ap (λ v. earlier_of n v c.earlier-sync_inside.result) c.candidate-3.ensures ∙ ap (earlier_of n (at SyncNot)) inside in
    c.earlier.ensures ∙ ap (λ v. earlier_of n v c.earlier-sync_not.result) c.candidate-4.ensures ∙ ap (earlier_of n (at Asynchronous)) outer ∙ earliest_is q c.requires (is_free c.args.holding.now)
