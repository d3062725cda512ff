use Rattle.std.proofs.Common.{List, ◌∷◌, Option, None, ◌∙◌, ap, sym, arith}
use Rattle.channel_model.specs.Ends.{Resolver}
use Rattle.world_core.proofs.CountsLemmas.{top-changes}
use Rattle.world_core.specs.CountsSteps.{holding_on_top, with_resolver}
use Rattle.world_core.specs.CountsView.{CountsView, RunningView, view_of}
use Rattle.world_core.specs.contracts.counts.ScriptCounts as counts
use Rattle.world_core.specs.declared.counts.RunningRequest.{RunningRequest}
use Rattle.world_core.proofs.counts.ScriptCounts.take_resolver.Goals as goal

pub returns-clause-rest : goal.returns-clause-rest
returns-clause-rest c =
    let below = c.in-Some.ensures.variant in
    let running = c.self.inside.running in
    let before : CountsView = counts.the_view c.self.inside in
    let top : RunningRequest = c.in-Some.top.now in
    let t = top-changes running.items top (record top { resolver = c.take.new.self }) running.len running.ok.0 (grind (arith, below)) c.in-Some.ensures.value in
    ap (λ (rs : List RunningView). record before { running = rs }) t.after_is
    ∙ ap (λ (o : Option Resolver). record before { running = record (view_of top) { resolver = o } ∷ t.below }) c.take.ensures.after
    ∙ sym (ap (λ (rs : List RunningView). record before { running = holding_on_top None rs }) t.before_is)
    ∙ ap (with_resolver None) c.self.view_is
