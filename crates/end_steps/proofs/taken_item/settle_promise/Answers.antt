use Rattle.std.proofs.Common.{◌≡◌, ℤ, map, refl, ap, ◌∙◌}
use Rattle.std.proofs.lemmas.Int.{to_z-of_z}
use mir.Syntax.{w32}
use Rattle.nesting_core.specs.declared.frame.Answer.{Answer}
use Rattle.nesting_core.specs.declared.frame.Answer.TheVariants as answer
use Rattle.nesting_core.specs.Plain.{plain_answer}
use Rattle.promise_table.specs.declared.promise.Outcome.{Outcome}
use Rattle.promise_table.specs.Plain.{plain_outcome}
use Rattle.channel_model.specs.Takes.{outcome_of, settled_entry}
use Rattle.end_steps.proofs.taken_item.settle_promise.Goals as goal

plain-outcome : (a : Answer) → plain_outcome (outcome_of a) ≡ outcome_of (plain_answer a)
plain-outcome (answer.Ok vs) = refl
plain-outcome (answer.Fault reason) = refl

pub returns-else-settle-clause-promises : goal.returns-else-settle-clause-promises
returns-else-settle-clause-promises c =
    c.settle.ensures.settled ∙ ap (λ (z : ℤ). map (settled_entry z (plain_outcome c.outcome_of.result)) c.args.promises.now) (to_z-of_z w32 c.args.seq c.ranges.seq)
    ∙ ap (λ (o : Outcome). map (settled_entry c.args.seq o) c.args.promises.now) (ap plain_outcome c.outcome_of.ensures ∙ plain-outcome c.args.given.answer)
