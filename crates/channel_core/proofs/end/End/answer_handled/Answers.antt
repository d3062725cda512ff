use Rattle.std.proofs.Common.{◌≡◌, ℤ, Some, refl, sym, ap, subst, ◌∙◌, rules, to_z, of_z}
use mir.Syntax.{w32}
use Rattle.std.specs.Option.{option_map}
use Rattle.std.proofs.lemmas.Int.{to_z-of_z}
use Rattle.ipdl_base.specs.Plain.{plain_values}
use Rattle.channel_model.specs.Answers.{handled_resolver}
use Rattle.channel_model.specs.Events.{handled}
use Rattle.channel_model.specs.Outputs.{AnsweredRequest}
use Rattle.end_parts.specs.Replies.{answered_of}
use Rattle.end_steps.proofs.RenamingLemmas.{request-small}
use Rattle.channel_core.specs.Answers.{AnswerGives}
use Rattle.channel_core.specs.ResolverReplies.{IsReplyCheck, stack_answered}
use Rattle.channel_core.specs.EndView.{EndView}
use Rattle.channel_core.specs.Steps.{MayAnswer}
use Rattle.channel_core.proofs.ActLemmas.{acted_end}
use Rattle.channel_core.proofs.AnsweringLemmas.{found-fits, found-handled, handled-answers, IsFound, message-handled}
use Rattle.channel_core.proofs.EndViews.{seen_in}
use Rattle.channel_core.proofs.MadeLemmas.{seen_as}
use Rattle.channel_core.proofs.TrackLemmas.{tracks_begin}
use Rattle.channel_core.proofs.end.End.answer_handled.Goals as goal

pub check_reply-requires-clause-small : goal.check_reply-requires-clause-small
check_reply-requires-clause-small c =
    let v = seen_in c.self.inside in
    let r = c.args.resolver.now in
    let q = answered_of c.answered-request.result in
    let vs = option_map (λ vs. plain_values vs.now) c.args.values in
    let own : handled_resolver v.end r.seq ≡ Some r = subst (λ (s : EndView). handled_resolver s.end r.seq ≡ Some r) (sym c.self.view_is) c.requires.own in
    let may : MayAnswer v (handled r.seq) vs = subst (λ (s : EndView). MayAnswer s (handled r.seq) vs) (sym c.self.view_is) c.requires.may in
    request-small v.schema q.number may.row c.self.invariant.sound (message-handled v r q vs may own c.answered-request.ensures)

pub push_answer-answer-requires-clause-fits : goal.push_answer-answer-requires-clause-fits
push_answer-answer-requires-clause-fits c =
    let v = seen_in c.self.inside in
    let r = c.args.resolver.now in
    let q = answered_of c.answered-request.result in
    let vs = option_map (λ vs. plain_values vs.now) c.args.values in
    let own : handled_resolver v.end r.seq ≡ Some r = subst (λ (s : EndView). handled_resolver s.end r.seq ≡ Some r) (sym c.self.view_is) c.requires.own in
    let may : MayAnswer v (handled r.seq) vs = subst (λ (s : EndView). MayAnswer s (handled r.seq) vs) (sym c.self.view_is) c.requires.may in
    let is : IsReplyCheck v q.number (Some q) vs c.in-Ok.check = subst (λ (s : EndView). IsReplyCheck s q.number (Some q) vs c.in-Ok.check) (sym c.self.view_is) c.in-Ok.ensures in
    let found : IsFound v (handled r.seq) vs c.in-Ok.check = found-handled v r q vs c.in-Ok.check c.self.inside.out may own c.answered-request.ensures c.self.invariant is in
    found-fits v (handled r.seq) vs c.in-Ok.check found

pub invariant_of-self : goal.invariant_of-self
invariant_of-self c =
    let v = seen_in c.self.inside in
    let r = c.args.resolver.now in
    let q = answered_of c.answered-request.result in
    let vs = option_map (λ vs. plain_values vs.now) c.args.values in
    let own : handled_resolver v.end r.seq ≡ Some r = subst (λ (s : EndView). handled_resolver s.end r.seq ≡ Some r) (sym c.self.view_is) c.requires.own in
    let may : MayAnswer v (handled r.seq) vs = subst (λ (s : EndView). MayAnswer s (handled r.seq) vs) (sym c.self.view_is) c.requires.may in
    let is : IsReplyCheck v q.number (Some q) vs c.in-Ok.check = subst (λ (s : EndView). IsReplyCheck s q.number (Some q) vs c.in-Ok.check) (sym c.self.view_is) c.in-Ok.ensures in
    let found : IsFound v (handled r.seq) vs c.in-Ok.check = found-handled v r q vs c.in-Ok.check c.self.inside.out may own c.answered-request.ensures c.self.invariant is in
    let out = c.self.inside.out in
    let out' = c.push_answer-answer.new.out in
    let given = c.push_answer-answer.result in
    let seq : to_z w32 (of_z w32 c.answered-request.result.seq) ≡ r.seq = to_z-of_z w32 c.answered-request.result.seq (search rules) ∙ ap (λ (x : AnsweredRequest). x.seq) c.answered-request.ensures in
    let stack = c.use_handled.ensures ∙ ap (λ (z : ℤ). stack_answered given z v.end.stack) seq in
    let answers = handled-answers v r.seq vs c.in-Ok.check given c.use_handled.new.stack out out' refl refl found (tracks_begin v out refl refl refl c.self.invariant) c.self.invariant c.push_answer-answer.ensures stack in
    answers.inside

pub returns : goal.returns
returns c =
    let v = seen_in c.self.inside in
    let r = c.args.resolver.now in
    let q = answered_of c.answered-request.result in
    let vs = option_map (λ vs. plain_values vs.now) c.args.values in
    let own : handled_resolver v.end r.seq ≡ Some r = subst (λ (s : EndView). handled_resolver s.end r.seq ≡ Some r) (sym c.self.view_is) c.requires.own in
    let may : MayAnswer v (handled r.seq) vs = subst (λ (s : EndView). MayAnswer s (handled r.seq) vs) (sym c.self.view_is) c.requires.may in
    let is : IsReplyCheck v q.number (Some q) vs c.in-Ok.check = subst (λ (s : EndView). IsReplyCheck s q.number (Some q) vs c.in-Ok.check) (sym c.self.view_is) c.in-Ok.ensures in
    let found : IsFound v (handled r.seq) vs c.in-Ok.check = found-handled v r q vs c.in-Ok.check c.self.inside.out may own c.answered-request.ensures c.self.invariant is in
    let out = c.self.inside.out in
    let out' = c.push_answer-answer.new.out in
    let given = c.push_answer-answer.result in
    let seq : to_z w32 (of_z w32 c.answered-request.result.seq) ≡ r.seq = to_z-of_z w32 c.answered-request.result.seq (search rules) ∙ ap (λ (x : AnsweredRequest). x.seq) c.answered-request.ensures in
    let stack = c.use_handled.ensures ∙ ap (λ (z : ℤ). stack_answered given z v.end.stack) seq in
    let answers = handled-answers v r.seq vs c.in-Ok.check given c.use_handled.new.stack out out' refl refl found (tracks_begin v out refl refl refl c.self.invariant) c.self.invariant c.push_answer-answer.ensures stack in
    subst (λ (s : EndView). AnswerGives s (handled r.seq) vs given (seen_as v (acted_end v c.use_handled.new.stack v.end.names out') out')) c.self.view_is answers.gives
