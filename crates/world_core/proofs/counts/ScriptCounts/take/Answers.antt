use Rattle.std.proofs.Common.{List, [], ◌∷◌, ◌++◌, map, reverse, refl, ap, subst, ◌∙◌}
use Rattle.channel_core.specs.Taken.{kind_of}
use Rattle.world_core.proofs.Taking.{handle-counts, something}
use Rattle.world_core.specs.contracts.counts.ScriptCounts as counts
use Rattle.world_core.specs.CountsSteps.{with_event}
use Rattle.world_core.specs.CountsView.{CountsView, view_of}
use Rattle.world_core.specs.declared.counts.RunningRequest.{RunningRequest}
use Rattle.world_core.specs.TakeSteps.{IsCountedTake}
use Rattle.world_core.proofs.counts.ScriptCounts.take.Goals as goal

pub unreachable-requires : goal.unreachable-requires
unreachable-requires c = c.requires.some (something c.args.end.now c.in-Nothing.ensures.0)

pub returns-in-Handle : goal.returns-in-Handle
returns-in-Handle c =
    let inside = c.self.inside in
    let seen : CountsView = counts.the_view inside in
    let last = c.push_spare.ensures ∙ ap (λ (xs : List RunningRequest). xs ++ c.begin.result ∷ []) c.reserve.ensures.items in (
      c.in-Handle.ensures.1,
      subst (λ (before : CountsView). IsCountedTake (kind_of c.args.end.now) before c.count_event.new.self) c.self.view_is
          (handle-counts seen c.count_event.new.self (kind_of c.args.end.now) c.in-Handle.handling c.take-block.result c.take-block.new.self inside.running.items c.begin.result c.in-Handle.ensures.0 refl c.begin.ensures c.take-block.ensures
          (c.count_event.ensures ∙ ap (λ (xs : List RunningRequest). with_event (record seen { table = c.take-block.new.self; running = map view_of (reverse xs) })) last)),
    )
