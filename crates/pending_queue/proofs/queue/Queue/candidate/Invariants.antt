use Rattle.linked_lists.specs.Chosen.{chosen_keys}
use Rattle.pending_queue.specs.Classes.{is_class}
use Rattle.pending_queue.specs.DeferralContext.{is_free}
use Rattle.pending_queue.specs.Queue.{keys_of, queue_item}
use Rattle.pending_queue.specs.Walk.{rank_of, IsAt}
use Rattle.pending_queue.proofs.queue.Queue.candidate.Given as goal

abbrev pub invariant-loop-at : goal.invariant-loop-at
invariant-loop-at l =
    IsAt (is_free l.holding) (queue_item l.self) (chosen_keys (is_class l.fn.class) (queue_item l.self) (keys_of l.self)) l.at

abbrev pub decreases-loop-at : goal.decreases-loop-at
decreases-loop-at l = rank_of l.at (chosen_keys (is_class l.fn.class) (queue_item l.self) (keys_of l.self))
