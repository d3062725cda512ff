use Rattle.std.proofs.Common.{◌≡◌, refl, sym, subst, ◌∙◌}
use Rattle.std.specs.Option.{option_map}
use Rattle.ipdl_base.specs.Plain.{plain_values}
use Rattle.channel_model.specs.Answers.{resolver_used}
use Rattle.channel_model.specs.Events.{kept}
use Rattle.channel_model.specs.Outputs.{resolver_answered}
use Rattle.end_parts.specs.Replies.{answered_of}
use Rattle.channel_core.specs.Answers.{AnswerGives}
use Rattle.channel_core.specs.ResolverReplies.{IsReplyCheck}
use Rattle.channel_core.specs.EndView.{EndView}
use Rattle.channel_core.specs.Steps.{MayAnswer}
use Rattle.channel_core.proofs.ActLemmas.{acted_end}
use Rattle.channel_core.proofs.AnsweringLemmas.{answered-following, found-fits, found-kept, IsFound, kept-answers, kept-small-following}
use Rattle.channel_core.proofs.EndViews.{seen_in}
use Rattle.channel_core.proofs.MadeLemmas.{seen_as}
use Rattle.channel_core.proofs.TrackLemmas.{tracks_begin}
use Rattle.channel_core.proofs.end.End.answer_named.Goals as goal

pub check_reply-requires-clause-small : goal.check_reply-requires-clause-small
check_reply-requires-clause-small c =
    let v = seen_in c.self.inside in
    let name = c.args.name.now in
    let number = c.args.number in
    let vs = option_map (λ vs. plain_values vs.now) c.args.values in
    let q = option_map (λ q. answered_of q.now) c.as_ref.result in
    let may : MayAnswer v (kept name number) vs = subst (λ (s : EndView). MayAnswer s (kept name number) vs) (sym c.self.view_is) c.requires in
    let used : q ≡ option_map resolver_answered (resolver_used v.end (kept name number)) = answered-following c.as_ref.result c.named_request-request.result c.as_ref.ensures.value ∙ c.named_request-request.ensures in
    kept-small-following v name number c.as_ref.result vs c.self.inside.out may used c.self.invariant

pub push_answer-answer-requires-clause-fits : goal.push_answer-answer-requires-clause-fits
push_answer-answer-requires-clause-fits c =
    let v = seen_in c.self.inside in
    let name = c.args.name.now in
    let number = c.args.number in
    let vs = option_map (λ vs. plain_values vs.now) c.args.values in
    let q = option_map (λ q. answered_of q.now) c.as_ref.result in
    let may : MayAnswer v (kept name number) vs = subst (λ (s : EndView). MayAnswer s (kept name number) vs) (sym c.self.view_is) c.requires in
    let used : q ≡ option_map resolver_answered (resolver_used v.end (kept name number)) = answered-following c.as_ref.result c.named_request-request.result c.as_ref.ensures.value ∙ c.named_request-request.ensures in
    let is : IsReplyCheck v number q vs c.in-Ok.check = subst (λ (s : EndView). IsReplyCheck s number q vs c.in-Ok.check) (sym c.self.view_is) c.in-Ok.ensures in
    let found : IsFound v (kept name number) vs c.in-Ok.check = found-kept v name number q vs c.in-Ok.check c.self.inside.out may used c.self.invariant is in
    found-fits v (kept name number) vs c.in-Ok.check found

pub invariant_of-self : goal.invariant_of-self
invariant_of-self c =
    let v = seen_in c.self.inside in
    let name = c.args.name.now in
    let number = c.args.number in
    let vs = option_map (λ vs. plain_values vs.now) c.args.values in
    let q = option_map (λ q. answered_of q.now) c.as_ref.result in
    let may : MayAnswer v (kept name number) vs = subst (λ (s : EndView). MayAnswer s (kept name number) vs) (sym c.self.view_is) c.requires in
    let used : q ≡ option_map resolver_answered (resolver_used v.end (kept name number)) = answered-following c.as_ref.result c.named_request-request.result c.as_ref.ensures.value ∙ c.named_request-request.ensures in
    let is : IsReplyCheck v number q vs c.in-Ok.check = subst (λ (s : EndView). IsReplyCheck s number q vs c.in-Ok.check) (sym c.self.view_is) c.in-Ok.ensures in
    let found : IsFound v (kept name number) vs c.in-Ok.check = found-kept v name number q vs c.in-Ok.check c.self.inside.out may used c.self.invariant is in
    let out = c.self.inside.out in
    let out' = c.push_answer-answer.new.out in
    let given = c.push_answer-answer.result in
    let answers = kept-answers v name number vs c.in-Ok.check given c.use_kept.new.names.names out out' refl refl found (tracks_begin v out refl refl refl c.self.invariant) c.self.invariant c.push_answer-answer.ensures c.use_kept.ensures in
    answers.inside

pub returns : goal.returns
returns c =
    let v = seen_in c.self.inside in
    let name = c.args.name.now in
    let number = c.args.number in
    let vs = option_map (λ vs. plain_values vs.now) c.args.values in
    let q = option_map (λ q. answered_of q.now) c.as_ref.result in
    let may : MayAnswer v (kept name number) vs = subst (λ (s : EndView). MayAnswer s (kept name number) vs) (sym c.self.view_is) c.requires in
    let used : q ≡ option_map resolver_answered (resolver_used v.end (kept name number)) = answered-following c.as_ref.result c.named_request-request.result c.as_ref.ensures.value ∙ c.named_request-request.ensures in
    let is : IsReplyCheck v number q vs c.in-Ok.check = subst (λ (s : EndView). IsReplyCheck s number q vs c.in-Ok.check) (sym c.self.view_is) c.in-Ok.ensures in
    let found : IsFound v (kept name number) vs c.in-Ok.check = found-kept v name number q vs c.in-Ok.check c.self.inside.out may used c.self.invariant is in
    let out = c.self.inside.out in
    let out' = c.push_answer-answer.new.out in
    let given = c.push_answer-answer.result in
    let answers = kept-answers v name number vs c.in-Ok.check given c.use_kept.new.names.names out out' refl refl found (tracks_begin v out refl refl refl c.self.invariant) c.self.invariant c.push_answer-answer.ensures c.use_kept.ensures in
    subst (λ (s : EndView). AnswerGives s (kept name number) vs given (seen_as v (acted_end v v.end.stack c.use_kept.new.names.names out') out')) c.self.view_is answers.gives
