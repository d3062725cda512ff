use Rattle.std.proofs.Common.{List, map, sym, ap, subst, ◌∙◌}
use Rattle.channel_core.specs.EndView.{EndView}
use Rattle.script_runs.specs.Dispatches.{dispatches}
use Rattle.script_steps.specs.Progress.{no_progress}
use Rattle.world_core.specs.Counted.{AreCountsOf}
use Rattle.world_core.specs.CountsView.{RunningView}
use Rattle.world_core.specs.Resolvers.{resolver_of}
use Rattle.world_core.proofs.half.Half.open.Goals as goal

pub returns-clause-counted : goal.returns-clause-counted
returns-clause-counted c =
    let begun = sym c.in_ok-open.ensures in
    record {
      counts = subst (λ (v : EndView). AreCountsOf c.args.script.now v.end.side no_progress c.in_ok-counts.counts) begun c.in_ok-counts.ensures.counts;
      held = ap (λ (rs : List RunningView). map (λ (r : RunningView). r.resolver) rs) c.in_ok-counts.ensures.none ∙ ap (λ (v : EndView). map resolver_of (dispatches v.end.stack)) begun;
    }
