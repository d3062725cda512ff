use Rattle.std.proofs.Common.{arith, sym, ◌∙◌, ap, reverse, take}
use Rattle.nesting_core.specs.Answers.{with_answer}
use Rattle.nesting_core.proofs.Stored.{with_answer-none, stored}
use Rattle.nesting_core.proofs.stack.store.Goals as goal

pub returns-then-is_unanswered : goal.returns-then-is_unanswered
returns-then-is_unanswered c =
    stored _ _ _ _ _ _ _ _ c.loop-index.invariant.0 (omega arith) (omega arith) (sym c.is_unanswered.ensures ∙ c.if-is_unanswered.true) c.head-head.ensures (λ k d gt lt. c.loop-index.invariant.1 k d (omega arith) lt)

pub returns : goal.returns
returns c =
    with_answer-none _ _ _ (omega arith) (λ k d lt. c.loop-index.invariant.1 k d (omega arith) lt) ∙ ap (λ ys. with_answer c.args.answer (reverse (take c.args.len ys))) c.loop-index.invariant.0
