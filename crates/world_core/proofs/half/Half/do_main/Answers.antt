use Rattle.std.proofs.Common.{sym, ap, ◌∙◌, option_map}
use Rattle.world_core.specs.HalfView.{HalfView}
use Rattle.world_core.specs.NextSteps.{acting_seq, context_in}
use Rattle.world_core.proofs.OnTop.{main-on_top, main-own, none-runs}
use Rattle.world_core.proofs.OwnSteps.{action-owns, main-event}
use Rattle.world_core.proofs.half.Half.do_main.Goals as goal

pub act-requires : goal.act-requires
act-requires g c =
    let h : HalfView = c.args.self.now in
    let p = g.progress in
    let on_top = c.requires.1.is_next.on_top in
    let found = sym (c.main_action.ensures p c.requires.0.counted) ∙ ap (option_map (λ a. a.now)) c.in-Some.is in
    let is = main-event h p c.requires.0.counted c.in-Some.action.now c.requires.1.is_next (none-runs h p c.requires.0.counted on_top) found in
    let allowed = c.requires.0.allowed _ is in
    (main-own h p c.requires.0.counted on_top (context_in h) (acting_seq p.handled) c.in-Some.action.now allowed, (main-on_top h p c.requires.0.counted on_top, (allowed, (c.requires.0.few, c.requires.1.room))))

pub returns : goal.returns
returns g c =
    let h : HalfView = c.args.self.now in
    let p = g.progress in
    let on_top = c.requires.1.is_next.on_top in
    let found = sym (c.main_action.ensures p c.requires.0.counted) ∙ ap (option_map (λ a. a.now)) c.in-Some.is in
    let is = main-event h p c.requires.0.counted c.in-Some.action.now c.requires.1.is_next (none-runs h p c.requires.0.counted on_top) found in
    let allowed = c.requires.0.allowed _ is in
    action-owns h c.act.new.self p c.requires.0 c.in-Some.action.now (main-own h p c.requires.0.counted on_top (context_in h) (acting_seq p.handled) c.in-Some.action.now allowed) c.act.result is c.requires.1.within c.act.ensures
