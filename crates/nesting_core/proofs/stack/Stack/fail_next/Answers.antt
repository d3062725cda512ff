use Rattle.nesting_core.proofs.AnswerLemmas.{unchanged_if_none}
use Rattle.nesting_core.proofs.stack.Stack.fail_next.Goals as goal

pub returns-clause-unchanged : goal.returns-clause-unchanged
returns-clause-unchanged c = unchanged_if_none _ _ _ _ c.awaited-seq.ensures c.store.ensures
