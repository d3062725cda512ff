use Rattle.std.proofs.Common.{SFits, w32, rules, arith, sym, ◌∙◌, to_z-of_z}
use Rattle.history_reading.proofs.Answered.{answered_at, answered_none}
use Rattle.history_reading.proofs.stack.answer.Goals as goal

pub returns-then-is_wait_for : goal.returns-then-is_wait_for
returns-then-is_wait_for c =
    let fits : SFits w32 c.args.n = search rules in
    rw (to_z-of_z fits)
    at (answered_at _ _ _ _ _ _ _ c.loop-index.invariant.0 (omega arith) (sym c.is_wait_for.ensures ∙ c.if-is_wait_for.true) c.answered.ensures (λ k f gt lt. c.loop-index.invariant.1 k f (omega arith) lt))

pub returns : goal.returns
returns c =
    let fits : SFits w32 c.args.n = search rules in
    rw (to_z-of_z fits) at (answered_none _ _ _ c.loop-index.invariant.0 (λ k f lt. c.loop-index.invariant.1 k f (omega arith) lt))
