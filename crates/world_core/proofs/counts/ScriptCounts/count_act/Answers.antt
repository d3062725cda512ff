use Rattle.std.proofs.Common.{List, ◌∙◌, ◌+◌, ap, sym, arith}
use Rattle.world_core.proofs.CountsLemmas.{top-changes}
use Rattle.world_core.specs.CountsSteps.{with_act, with_act_of, with_event}
use Rattle.world_core.specs.CountsView.{RunningView}
use Rattle.world_core.specs.contracts.counts.ScriptCounts as counts
use Rattle.world_core.specs.declared.counts.RunningRequest.{RunningRequest}
use Rattle.world_core.proofs.counts.ScriptCounts.count_act.Goals as goal

pub returns-in-Some : goal.returns-in-Some
returns-in-Some c =
    let below = c.in-Some.ensures.variant in
    let running = c.self.inside.running in
    let before = with_event (counts.the_view c.self.inside) in
    let top : RunningRequest = c.in-Some.top.now in
    let t = top-changes running.items top (record top { acts = top.acts + 1 }) running.len running.ok.0 (grind (arith, below)) c.in-Some.ensures.value in
    ap (λ (rs : List RunningView). record before { running = rs }) t.after_is ∙ sym (ap (λ (rs : List RunningView). with_act_of rs before) t.before_is) ∙ ap with_act c.self.view_is
