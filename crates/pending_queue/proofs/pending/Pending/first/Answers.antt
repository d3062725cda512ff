use Rattle.std.proofs.Common.{ap, ◌∙◌, find}
use Rattle.pending_queue.specs.ArrivedItems.{ArrivedItems}
use Rattle.pending_queue.specs.DeferralContext.{is_free}
use Rattle.pending_queue.proofs.QueueLemmas.{free_none, free_some}
use Rattle.pending_queue.proofs.pending.Pending.first.Goals as goal

pub returns-in_err-key : goal.returns-in_err-key
returns-in_err-key c =
    rw c.from_residual.ensures ((free_none c.self.inside.queue (is_free c.args.holding.now) c.self.invariant c.in_err-key.ensures).0
    ∙ ap (λ (v : ArrivedItems). find (is_free c.args.holding.now) v.items) c.self.view_is)

pub returns : goal.returns
returns c =
    c.item.ensures ∙ (free_some c.self.inside.queue (is_free c.args.holding.now) c.in_ok-key.key c.self.invariant c.in_ok-key.ensures).1
    ∙ ap (λ (v : ArrivedItems). find (is_free c.args.holding.now) v.items) c.self.view_is
