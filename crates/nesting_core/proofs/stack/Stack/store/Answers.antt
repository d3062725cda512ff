use Rattle.nesting_core.proofs.RoomLemmas.{FitsRoom-with_answer}
use Rattle.nesting_core.proofs.stack.Stack.store.Goals as goal

pub invariant_of-self : goal.invariant_of-self
invariant_of-self c =
    (c.self.invariant.0, rw c.store.ensures (FitsRoom-with_answer c.args.answer _ c.self.invariant.1))
