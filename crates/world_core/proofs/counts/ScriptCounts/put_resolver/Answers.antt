use Rattle.std.proofs.Common.{List, ◌∙◌, ap, sym, arith}
use Rattle.world_core.proofs.CountsLemmas.{top-changes}
use Rattle.world_core.specs.CountsSteps.{holding_on_top, with_resolver}
use Rattle.world_core.specs.CountsView.{CountsView, RunningView}
use Rattle.world_core.specs.contracts.counts.ScriptCounts as counts
use Rattle.world_core.specs.declared.counts.RunningRequest.{RunningRequest}
use Rattle.world_core.proofs.counts.ScriptCounts.put_resolver.Goals as goal

pub returns : goal.returns
returns c =
    let below = c.in-Some.ensures.variant in
    let running = c.self.inside.running in
    let before : CountsView = counts.the_view c.self.inside in
    let top : RunningRequest = c.in-Some.top.now in
    let t = top-changes running.items top (record top { resolver = c.args.resolver }) running.len running.ok.0 (grind (arith, below)) c.in-Some.ensures.value in
    ap (λ (rs : List RunningView). record before { running = rs }) t.after_is
    ∙ sym (ap (λ (rs : List RunningView). record before { running = holding_on_top c.args.resolver rs }) t.before_is)
    ∙ ap (with_resolver c.args.resolver) c.self.view_is
