use Rattle.std.proofs.Common.{List, ap, ◌∙◌}
use Rattle.ipdl_base.specs.declared.schema.ParamRow.{ParamRow}
use Rattle.ipdl_base.specs.Plain.{plain_values}
use Rattle.channel_model.specs.ValueActors.{nulled}
use Rattle.end_parts.proofs.ReceiveLemmas.{same_nulled}
use Rattle.end_steps.proofs.request_plan.nulled_copy.Goals as goal

pub returns : goal.returns
returns c =
    let vs = c.args.values.now in
    same_nulled c.args.schema.now c.args.tree.now c.as_slice.result.now vs c.in_ok-copy.copy c.null_dead.new.values c.in_ok-copy.ensures c.null_dead.ensures
    ∙ ap (λ (types : List ParamRow). nulled c.args.schema.now c.args.tree.now types (plain_values vs)) c.as_slice.ensures
