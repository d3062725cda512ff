use Rattle.ordered_queue.specs.Passes.{view_of}
use Rattle.queue_link.specs.Stamping.{next_stamp, stamps_in}
use Rattle.queue_link.proofs.steps.push_next.Given as goal

-- the stamp after those of all that was popped
abbrev pub ghost-stamped : goal.ghost-stamped
ghost-stamped g a = next_stamp (stamps_in (view_of a._popping.now).popped)
