use Rattle.std.proofs.Common.{◌≡◌, ℤ, [], Some, refl, sym, ap, subst, ◌∙◌, rules, option_map}
use Rattle.std.proofs.lemmas.Int.{to_z-of_z}
use mir.Val.{SFits}
use mir.Syntax.{w32}
use Rattle.ipdl_base.specs.declared.schema.MessageRow.{MessageRow}
use Rattle.ipdl_base.specs.Sound.{message_of}
use Rattle.nesting_core.specs.Plain.{plain_answer}
use Rattle.channel_model.specs.Events as event
use Rattle.channel_model.specs.Returns.{resume_line}
use Rattle.end_parts.specs.PlainLines.{plain_what}
use Rattle.end_parts.specs.Resumed.{wait_of}
use Rattle.channel_core.specs.Answers.{ResumeGives}
use Rattle.channel_core.specs.EndView.{EndView}
use Rattle.channel_core.proofs.EndViews.{seen_in}
use Rattle.channel_core.proofs.MadeLemmas.{seen_as, made_step, made_inside}
use Rattle.channel_core.proofs.ResumeLemmas.{CodeResumes, resumes, resumes_with, has_line, resume_room}
use Rattle.channel_core.proofs.TrackLemmas.{tracks_begin}
use Rattle.channel_core.proofs.end.End.resume.Goals as goal

pub push_line-requires : goal.push_line-requires
push_line-requires c = has_line (seen_in c.self.inside) c.self.inside.out c.in_ok-call.call c.take_answered.new.self c.self.invariant c.in_ok-call.ensures

pub invariant_of-self-2 : goal.invariant_of-self-2
invariant_of-self-2 c =
    let v = seen_in c.self.inside in
    let out = c.self.inside.out in
    let call = c.in_ok-call.call in
    let row : MessageRow = c.in-Some.row.now in
    let answer = c.receive_answer-received.result.answer in
    let what = c.resume_line-what.result in
    let stack = c.take_answered.new.self in
    let fits : SFits w32 call.seq = search rules in
    let found : message_of v.schema call.number ≡ Some row = sym c.message.ensures ∙ ap (λ r. option_map (λ x. x.now) r) c.in-Some.is in
    let line : plain_what what ≡ resume_line call.seq (plain_answer answer) = c.resume_line-what.ensures ∙ ap (λ (z : ℤ). resume_line z (plain_answer answer)) (to_z-of_z w32 call.seq fits) in
    let h : CodeResumes v out call row answer what stack c.push_line.new.self c.pay.new.self = record { off = c.in_ok-call.ensures; found = found; gives = c.receive_answer-received.ensures.answer; line = line; says = c.push_line.ensures; pays = c.pay.ensures } in
    let made = resumes v out call row answer what stack c.push_line.new.self c.pay.new.self (tracks_begin v out refl refl refl c.self.invariant) c.self.invariant h in
    let e = record v.end { stack = stack; outbox = c.pay.new.self.outbox } in
    made_inside v [] event.resume e out c.pay.new.self made c.self.invariant c.self.invariant.kept.few tt (resume_room v out call row answer what stack c.push_line.new.self c.pay.new.self refl c.self.invariant h)

pub returns : goal.returns
returns c =
    let v = seen_in c.self.inside in
    let out = c.self.inside.out in
    let call = c.in_ok-call.call in
    let row : MessageRow = c.in-Some.row.now in
    let answer = c.receive_answer-received.result.answer in
    let what = c.resume_line-what.result in
    let stack = c.take_answered.new.self in
    let fits : SFits w32 call.seq = search rules in
    let found : message_of v.schema call.number ≡ Some row = sym c.message.ensures ∙ ap (λ r. option_map (λ x. x.now) r) c.in-Some.is in
    let line : plain_what what ≡ resume_line call.seq (plain_answer answer) = c.resume_line-what.ensures ∙ ap (λ (z : ℤ). resume_line z (plain_answer answer)) (to_z-of_z w32 call.seq fits) in
    let h : CodeResumes v out call row answer what stack c.push_line.new.self c.pay.new.self = record { off = c.in_ok-call.ensures; found = found; gives = c.receive_answer-received.ensures.answer; line = line; says = c.push_line.ensures; pays = c.pay.ensures } in
    let made = resumes v out call row answer what stack c.push_line.new.self c.pay.new.self (tracks_begin v out refl refl refl c.self.invariant) c.self.invariant h in
    let e = record v.end { stack = stack; outbox = c.pay.new.self.outbox } in
    subst (λ (s : EndView). ResumeGives s (Some answer) (seen_as v e c.pay.new.self)) c.self.view_is
    (wait_of call, c.in_ok-call.ensures.0, resumes_with v out call row answer what stack c.push_line.new.self c.pay.new.self c.self.invariant h, made_step v [] event.resume e c.pay.new.self made)
