use Rattle.std.proofs.Common.{◌≡◌, true, false, is_some, refl, ap, sym, ◌∙◌}
use Rattle.channel_model.specs.ValueActors.{has_dead, actors_in_parts}
use Rattle.end_parts.specs.declared.value_actors.ActorTest.TheVariants.{Dead}
use Rattle.end_parts.specs.SoughtActors.{is_sought}
use Rattle.end_parts.proofs.SeekLemmas.{some_first_id}
use Rattle.end_steps.proofs.refusals.value_refusal.Goals as goal

pub returns-then-is_some : goal.returns-then-is_some
returns-then-is_some c =
    let dead : has_dead c.args.schema.now c.args.tree.now c.args.types.now c.args.values.now ≡ true =
    sym (some_first_id (is_sought Dead c.args.tree.now) (actors_in_parts c.args.schema.now c.args.types.now c.args.values.now)) ∙ ap is_some (sym c.first_actor.ensures) ∙ sym c.is_some.ensures ∙ c.if-is_some.true in
    rw (c.if-is_too_large.false, dead) refl

pub returns-else-is_some : goal.returns-else-is_some
returns-else-is_some c =
    let dead : has_dead c.args.schema.now c.args.tree.now c.args.types.now c.args.values.now ≡ false =
    sym (some_first_id (is_sought Dead c.args.tree.now) (actors_in_parts c.args.schema.now c.args.types.now c.args.values.now)) ∙ ap is_some (sym c.first_actor.ensures) ∙ sym c.is_some.ensures ∙ c.if-is_some.false in
    rw (c.if-is_too_large.false, dead) refl
