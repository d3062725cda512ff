use Rattle.std.proofs.Common.{ℤ, ap, ◌∙◌}
use Rattle.std.proofs.lemmas.Int.{to_z-of_z}
use mir.Syntax.{w32}
use Rattle.actor_tree.specs.Tree.{without}
use Rattle.channel_model.specs.ValueActors.{nulled}
use Rattle.end_parts.proofs.value_actors.null_dead_beside.Goals as goal

pub returns : goal.returns
returns c = c.null_in_fields.ensures ∙ ap (λ (z : ℤ). nulled c.args.schema.now (without z c.args.tree.now) c.args.types.now c.args.values.now) (to_z-of_z w32 c.args.left_out c.ranges.left_out)
