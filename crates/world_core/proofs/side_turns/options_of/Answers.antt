use Rattle.std.proofs.Common.{ap, ◌∙◌}
use Rattle.ipdl_base.specs.declared.kinds.Side.{Side}
use Rattle.script_steps.specs.Progress.{progress_of}
use Rattle.world_core.proofs.Optioning.{options-at}
use Rattle.world_core.proofs.side_turns.options_of.Goals as goal
use Rattle.world_core.specs.Halves.{is_waited_for}

pub returns : goal.returns
returns g c =
    options-at g.at.0 g.at.1 c.args.half.now c.args.link.now c.next_step-step.result (record { acts = c.is_some.result; receives = c.may_deliver.result; spent = c.is_spent.result }) c.requires.0
    (c.next_step-step.ensures (progress_of g.at.1 g.at.0.state.lines) c.requires.0.half_is.counted) c.is_some.ensures (c.may_deliver.ensures ∙ ap (λ (s : Side). is_waited_for s c.args.half.now c.args.link.now) c.requires.1) c.is_spent.ensures
