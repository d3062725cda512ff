use Rattle.std.proofs.Common.{◌≡◌, ℤ, sym, ap, ◌∙◌}
use Rattle.std.proofs.lemmas.Int.{to_z-of_z}
use mir.Syntax.{w32}
use Rattle.actor_tree.specs.Tree.{without}
use Rattle.ipdl_base.specs.declared.message.Body.TheVariants.{Request}
use Rattle.ipdl_base.specs.declared.value.Values.{Values}
use Rattle.ipdl_base.specs.Plain.{plain_body, plain_values}
use Rattle.channel_model.specs.ValueActors.{nulled}
use Rattle.channel_model.proofs.PlainValues.{plain_forms_commute}
use Rattle.channel_core.proofs.end.taking.handled_values.Goals as goal

same_values : (vs given : Values) → Request vs ≡ Request given → vs ≡ given
same_values vs given e = cc

pub returns : goal.returns
returns c = λ (given : Values) e.
    let schema = c.args.schema.now in
    let tree = c.args.tree.now in
    let vs : Values = c.in-Request.values in
    let same : plain_values vs ≡ given = same_values (plain_values vs) given (sym (ap plain_body c.in-Request.is) ∙ e) in
    let nulls = c.null_dead_beside.ensures ∙ ap (λ (z : ℤ). nulled schema (without z tree) c.as_slice.result.now vs) (to_z-of_z w32 c.args.made c.ranges.made) ∙ ap (λ types. nulled schema (without c.args.made tree) types vs) c.as_slice.ensures in
    ap plain_values nulls ∙ sym (plain_forms_commute.nulled schema (without c.args.made tree) c.args.row.now.params vs) ∙ ap (nulled schema (without c.args.made tree) c.args.row.now.params) same
