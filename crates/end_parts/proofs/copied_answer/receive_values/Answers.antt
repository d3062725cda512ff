use Rattle.std.proofs.Common.{◌≡◌, true, false, Some, is_some, refl, ap, sym, ◌∙◌}
use Rattle.ipdl_base.specs.Plain.{plain_values}
use Rattle.channel_model.specs.ValueActors.{missing, nulled}
use Rattle.end_parts.proofs.ReceiveLemmas.{received_missing, received_nulled, same_nulled}
use Rattle.end_parts.proofs.copied_answer.receive_values.Goals as goal

pub returns-then-is_some-clause-answer : goal.returns-then-is_some-clause-answer
returns-then-is_some-clause-answer c =
    let types = c.returns_of_row-types.result.now in
    let gone : is_some (missing c.args.schema.now c.args.tree.now types c.args.values) ≡ true = ap is_some (sym c.first_actor-missing.ensures) ∙ sym c.is_some.ensures ∙ c.if-is_some.true in
    sym (received_missing c.args.schema.now c.args.tree.now c.args.row.now types c.args.values c.returns_of_row-types.ensures gone)

pub returns-else-is_some-clause-answer : goal.returns-else-is_some-clause-answer
returns-else-is_some-clause-answer c =
    let types = c.returns_of_row-types.result.now in
    let there : is_some (missing c.args.schema.now c.args.tree.now types c.args.values) ≡ false = ap is_some (sym c.first_actor-missing.ensures) ∙ sym c.is_some.ensures ∙ c.if-is_some.false in
    sym (received_nulled c.args.schema.now c.args.tree.now c.args.row.now types c.args.values c.null_dead.new.values c.returns_of_row-types.ensures there c.null_dead.ensures)

pub returns-else-is_some-clause-copied : goal.returns-else-is_some-clause-copied
returns-else-is_some-clause-copied c =
    let types = c.returns_of_row-types.result.now in
    let copied : plain_values c.null_dead-else-is_some.new.values ≡ nulled c.args.schema.now c.args.tree.now types (plain_values c.args.values) = same_nulled c.args.schema.now c.args.tree.now types c.args.values c.args.copy c.null_dead-else-is_some.new.values c.requires c.null_dead-else-is_some.ensures in
    let given : plain_values c.null_dead.new.values ≡ nulled c.args.schema.now c.args.tree.now types (plain_values c.args.values) = same_nulled c.args.schema.now c.args.tree.now types c.args.values c.args.values c.null_dead.new.values refl c.null_dead.ensures in
    ap Some (copied ∙ sym given)
