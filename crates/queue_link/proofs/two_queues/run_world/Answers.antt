use Rattle.std.proofs.Common.{[], rules, sym, subst}
use Rattle.ipdl_base.specs.declared.kinds.Side.TheVariants as sides
use Rattle.relay_runs.specs.HalfRuns.{opening_half}
use Rattle.script_steps.specs.Choices.{Setting}
use Rattle.world_core.specs.HalfView.{setting_of}
use Rattle.world_core.specs.Relaying.{GoesApart}
use Rattle.queue_link.proofs.two_queues.run_world.Goals as goal

pub run_apart-answer-requires : goal.run_apart-answer-requires
run_apart-answer-requires g c κs within =
    let begun = c.into_halves-parent in
    let same = sym begun.ensures.parent.about in
    let at = setting_of begun.result.0 in
    let parent : GoesApart at sides.Parent (opening_half at sides.Parent) [] begun.result.0 = subst (λ (s : Setting). GoesApart s sides.Parent (opening_half s sides.Parent) [] begun.result.0) same begun.ensures.parent in
    let child : GoesApart at sides.Child (opening_half at sides.Child) [] begun.result.1 = subst (λ (s : Setting). GoesApart s sides.Child (opening_half s sides.Child) [] begun.result.1) same begun.ensures.child in
    search rules
