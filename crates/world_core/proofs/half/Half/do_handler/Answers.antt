use Rattle.std.proofs.Common.{sym, ap, ◌∙◌, option_map}
use Rattle.handler_script.specs.ValueOf.{values_of}
use Rattle.world_core.specs.HalfView.{HalfView}
use Rattle.world_core.specs.NextSteps.{context_in, reply_by, return_in}
use Rattle.world_core.proofs.OnTop.{handed-back, handler-on_top, handler-own}
use Rattle.world_core.proofs.OwnSteps.{action-owns, handler-event, owns, return-event, return-gives}
use Rattle.world_core.proofs.half.Half.do_handler.Goals as goal

pub act-requires : goal.act-requires
act-requires g c =
    let h : HalfView = c.args.self.now in
    let p = g.progress in
    let next = c.requires.1.is_next in
    let act = c.in-Some.action.now in
    let found = sym (c.handler_action.ensures p c.requires.0.counted) ∙ ap (option_map (λ a. a.now)) c.in-Some.is in
    let is = handler-event h p c.requires.0.counted act next found in
    (handler-own h p c.requires.0 next.head next.on_top act found, (handler-on_top h p c.requires.0 next.head next.on_top, (c.requires.0.allowed _ is, (c.requires.0.few, c.requires.1.room))))

pub returns-in-Some : goal.returns-in-Some
returns-in-Some g c =
    let h : HalfView = c.args.self.now in
    let p = g.progress in
    let next = c.requires.1.is_next in
    let act = c.in-Some.action.now in
    let found = sym (c.handler_action.ensures p c.requires.0.counted) ∙ ap (option_map (λ a. a.now)) c.in-Some.is in
    let is = handler-event h p c.requires.0.counted act next found in
    action-owns h c.act.new.self p c.requires.0 act (handler-own h p c.requires.0 next.head next.on_top act found) c.act.result is c.requires.1.within c.act.ensures

pub finish-requires : goal.finish-requires
finish-requires g c =
    let h : HalfView = c.args.self.now in
    let p = g.progress in
    let next = c.requires.1.is_next in
    let none = sym (c.handler_action.ensures p c.requires.0.counted) ∙ ap (option_map (λ a. a.now)) c.in-None.is in
    let is = return-event h p c.requires.0.counted next none in
    record { on_top = handler-on_top h p c.requires.0 next.head next.on_top; back = handed-back h p c.requires.0 next.head next.on_top; allowed = c.requires.0.allowed (return_in h) is; room = c.requires.1.room }

pub returns-in-None : goal.returns-in-None
returns-in-None g c =
    let h : HalfView = c.args.self.now in
    let p = g.progress in
    let next = c.requires.1.is_next in
    let none = sym (c.handler_action.ensures p c.requires.0.counted) ∙ ap (option_map (λ a. a.now)) c.in-None.is in
    let is = return-event h p c.requires.0.counted next none in
    owns h c.finish.new.self p c.requires.0.counted (return_in h) is c.requires.1.within c.finish.result
    (return-gives h c.finish.new.self p c.requires.0.counted (option_map (values_of (context_in h)) (reply_by h.script h.counts.running)) c.finish.result c.finish.ensures)
