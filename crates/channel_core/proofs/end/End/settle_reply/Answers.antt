use Rattle.std.proofs.Common.{◌≡◌, ◌+◌, ◌≤◌, ℤ, [], map, Some, None, option_map, false, refl, sym, ap, subst, ◌∙◌, rules}
use Rattle.std.specs.Prelude.{is_err}
use Rattle.std.proofs.lemmas.Int.{to_z-of_z}
use mir.Val.{SFits}
use mir.Syntax.{w32}
use Rattle.ipdl_base.specs.declared.line.What.TheVariants as what
use Rattle.ipdl_base.specs.declared.message.Message.{Message}
use Rattle.ipdl_base.specs.declared.schema.MessageRow.{MessageRow}
use Rattle.ipdl_base.specs.Plain.{plain_message}
use Rattle.ipdl_base.specs.Sound.{message_of}
use Rattle.nesting_core.specs.declared.frame.Answer.{Answer}
use Rattle.nesting_core.specs.Plain.{plain_answer}
use Rattle.channel_model.specs.Events as event
use Rattle.channel_model.specs.Outputs.{line_at}
use Rattle.channel_model.specs.Takes.{deferral_context_of, is_awaited, outcome_of, settle_line, settled_entry}
use Rattle.channel_model.specs.ValueActors.{received}
use Rattle.channel_model.proofs.FittingEnds.{taken-fits}
use Rattle.end_steps.specs.AnswerPackets.{answer_in, IsAnswering}
use Rattle.end_parts.specs.CopiedAnswers.{values_of}
use Rattle.end_parts.specs.OutputView.{with_line}
use Rattle.end_steps.specs.TakenItems.{with_settling}
use Rattle.channel_core.specs.declared.answers.TakeAnswer.TheVariants as answer
use Rattle.channel_core.specs.NextItems.{values_in, IsNextReply}
use Rattle.channel_core.specs.EndView.{EndView}
use Rattle.channel_core.specs.Taken.{IsKindOf, TakeGives, TakeKind, kind_of}
use Rattle.channel_core.proofs.EndViews.{seen_in}
use Rattle.channel_core.proofs.MadeLemmas.{seen_as, made_step, made_inside}
use Rattle.channel_core.proofs.SettleLemmas.{CodeSettles, answer_plain, answering_plain, reply_row, settle_kind, settle_room, settled_with, settles_reply, values_plain}
use Rattle.channel_core.proofs.TakeLemmas.{left_items, taken_message, when_ok}
use Rattle.channel_core.proofs.TrackLemmas.{tracks_begin}
use Rattle.channel_core.proofs.end.End.settle_reply.Goals as goal

pub take_message-message-requires : goal.take_message-message-requires
take_message-message-requires c =
    let v = seen_in c.self.inside in
    let n : IsNextReply v c.args.copy = subst (λ (s : EndView). IsNextReply s c.args.copy) (sym c.self.view_is) c.requires.next in
    let hold : c.args.holding.now ≡ deferral_context_of v.end = c.requires.holding ∙ ap (λ (s : EndView). deferral_context_of s.end) (sym c.self.view_is) in
    (taken_message v c.args.holding.now c.self.inside.pending.items n.m n.m refl hold n.is_next).0

pub unreachable-requires : goal.unreachable-requires
unreachable-requires c =
    let v = seen_in c.self.inside in
    let n : IsNextReply v c.args.copy = subst (λ (s : EndView). IsNextReply s c.args.copy) (sym c.self.view_is) c.requires.next in
    let hold : c.args.holding.now ≡ deferral_context_of v.end = c.requires.holding ∙ ap (λ (s : EndView). deferral_context_of s.end) (sym c.self.view_is) in
    let taken : Message = c.take_message-message.result in
    let plain : plain_message taken ≡ n.m = (taken_message v c.args.holding.now c.self.inside.pending.items n.m taken refl hold n.is_next).1 c.take_message-message.ensures.taken in
    let none : None ≡ message_of v.schema taken.number = ap (λ r. option_map (λ x. x.now) r) (sym c.in_default.is) ∙ c.message.ensures in
    let r = reply_row v.schema n.m (taken-fits v.schema v.end _ c.self.invariant.kept.fitting n.is_next.next).0 n.answers in
    let bad : None ≡ Some r.0 = none ∙ ap (λ (m : Message). message_of v.schema m.number) plain ∙ r.1 in
    cc

pub answer_of-requires : goal.answer_of-requires
answer_of-requires c =
    let v = seen_in c.self.inside in
    let n : IsNextReply v c.args.copy = subst (λ (s : EndView). IsNextReply s c.args.copy) (sym c.self.view_is) c.requires.next in
    let hold : c.args.holding.now ≡ deferral_context_of v.end = c.requires.holding ∙ ap (λ (s : EndView). deferral_context_of s.end) (sym c.self.view_is) in
    let taken : Message = c.take_message-message.result in
    let plain : plain_message taken ≡ n.m = (taken_message v c.args.holding.now c.self.inside.pending.items n.m taken refl hold n.is_next).1 c.take_message-message.ensures.taken in
    answering_plain taken.body (subst IsAnswering (sym (ap (λ (m : Message). m.body) plain)) n.answers)

pub receive_answer-received-requires : goal.receive_answer-received-requires
receive_answer-received-requires c =
    let v = seen_in c.self.inside in
    let n : IsNextReply v c.args.copy = subst (λ (s : EndView). IsNextReply s c.args.copy) (sym c.self.view_is) c.requires.next in
    let hold : c.args.holding.now ≡ deferral_context_of v.end = c.requires.holding ∙ ap (λ (s : EndView). deferral_context_of s.end) (sym c.self.view_is) in
    let taken : Message = c.take_message-message.result in
    let plain : plain_message taken ≡ n.m = (taken_message v c.args.holding.now c.self.inside.pending.items n.m taken refl hold n.is_next).1 c.take_message-message.ensures.taken in
    let answers : IsAnswering taken.body = answering_plain taken.body (subst IsAnswering (sym (ap (λ (m : Message). m.body) plain)) n.answers) in
    n.copied ∙ ap values_in (sym (ap (λ (m : Message). m.body) plain)) ∙ values_plain taken.body answers ∙ ap values_of (sym c.answer_of.ensures)

pub invariant_of-self-2 : goal.invariant_of-self-2
invariant_of-self-2 c =
    let v = seen_in c.self.inside in
    let n : IsNextReply v c.args.copy = subst (λ (s : EndView). IsNextReply s c.args.copy) (sym c.self.view_is) c.requires.next in
    let out = c.self.inside.out in
    let mid = c.reserve.new.self in
    let hold : c.args.holding.now ≡ deferral_context_of v.end = c.requires.holding ∙ ap (λ (s : EndView). deferral_context_of s.end) (sym c.self.view_is) in
    let items = c.take_message-message.new.pending.items in
    let taken : Message = c.take_message-message.result in
    let plain : plain_message taken ≡ n.m = (taken_message v c.args.holding.now c.self.inside.pending.items n.m taken refl hold n.is_next).1 c.take_message-message.ensures.taken in
    let answers : IsAnswering taken.body = answering_plain taken.body (subst IsAnswering (sym (ap (λ (m : Message). m.body) plain)) n.answers) in
    let row : MessageRow = c.in-Some.row.now in
    let row_found : message_of v.schema taken.number ≡ Some row = sym c.message.ensures ∙ ap (λ r. option_map (λ x. x.now) r) c.in-Some.is in
    let found : message_of v.schema n.m.number ≡ Some row = ap (λ (m : Message). message_of v.schema m.number) (sym plain) ∙ row_found in
    let ok : is_err c.reserve.result ≡ false = sym c.if-is_err.ensures.value in
    let seq_fits : SFits w32 taken.seq = search rules in
    let plainly : c.push_line.new.self ≡ with_line mid (line_at v.end.side (what.TakeReply taken.seq)) = simp (to_z-of_z, seq_fits) at c.push_line.ensures in
    let same_seq : taken.seq ≡ n.m.seq = ap (λ (m : Message). m.seq) plain in
    let given : Answer = plain_answer c.receive_answer-received.result.answer in
    let gives : given ≡ received v.schema v.end.actors row (answer_in n.m.body) =
    c.receive_answer-received.ensures.answer ∙ ap (received v.schema v.end.actors row) (ap plain_answer c.answer_of.ensures ∙ answer_plain taken.body answers ∙ ap answer_in (ap (λ (m : Message). m.body) plain)) in
    let promises = c.settle_promise.new.promises in
    let out' = c.settle_promise.new.out in
    let settled0 : promises ≡ map (settled_entry taken.seq (outcome_of given)) v.end.promises = simp (to_z-of_z, seq_fits) at c.settle_promise.ensures.promises in
    let told0 : out' ≡ with_settling (is_awaited taken.seq v.end.promises) v.end.side (settle_line taken.seq (outcome_of given)) c.push_line.new.self = simp (to_z-of_z, seq_fits) at c.settle_promise.ensures.out in
    let h : CodeSettles v out mid c.push_line.new.self out' n.m row promises items = record {
      same = c.reserve.ensures.same;
      lines = when_ok c.reserve.result (out.lines_owed + 2 ≤ mid.line_spare) ok c.reserve.ensures.lines;
      packets = c.reserve.ensures.more_packets;
      leaves = left_items v c.args.holding.now c.self.inside.pending.items items refl hold c.take_message-message.ensures.rest;
      says = plainly ∙ ap (λ (z : ℤ). with_line mid (line_at v.end.side (what.TakeReply z))) same_seq;
      settled = settled0 ∙ ap (λ (z : ℤ). map (settled_entry z (outcome_of given)) v.end.promises) same_seq ∙ ap (λ (a : Answer). map (settled_entry n.m.seq (outcome_of a)) v.end.promises) gives;
      told = told0 ∙ ap (λ (z : ℤ). with_settling (is_awaited z v.end.promises) v.end.side (settle_line z (outcome_of given)) c.push_line.new.self) same_seq ∙ ap (λ (a : Answer). with_settling (is_awaited n.m.seq v.end.promises) v.end.side (settle_line n.m.seq (outcome_of a)) c.push_line.new.self) gives;
    } in
    let e = settled_with v.end promises items out' in
    let made = settles_reply v n.m row n.is_next n.answers found out mid c.push_line.new.self out' promises items c.self.invariant.kept.numbered.distinct (tracks_begin v out refl refl refl c.self.invariant) h in
    made_inside v [] event.take e out out' made c.self.invariant c.self.invariant.kept.few tt (settle_room v n.m row n.is_next n.answers found out mid c.push_line.new.self out' promises items refl c.self.invariant h)

pub returns : goal.returns
returns c =
    let v = seen_in c.self.inside in
    let n : IsNextReply v c.args.copy = subst (λ (s : EndView). IsNextReply s c.args.copy) (sym c.self.view_is) c.requires.next in
    let out = c.self.inside.out in
    let mid = c.reserve.new.self in
    let hold : c.args.holding.now ≡ deferral_context_of v.end = c.requires.holding ∙ ap (λ (s : EndView). deferral_context_of s.end) (sym c.self.view_is) in
    let items = c.take_message-message.new.pending.items in
    let taken : Message = c.take_message-message.result in
    let plain : plain_message taken ≡ n.m = (taken_message v c.args.holding.now c.self.inside.pending.items n.m taken refl hold n.is_next).1 c.take_message-message.ensures.taken in
    let answers : IsAnswering taken.body = answering_plain taken.body (subst IsAnswering (sym (ap (λ (m : Message). m.body) plain)) n.answers) in
    let row : MessageRow = c.in-Some.row.now in
    let row_found : message_of v.schema taken.number ≡ Some row = sym c.message.ensures ∙ ap (λ r. option_map (λ x. x.now) r) c.in-Some.is in
    let found : message_of v.schema n.m.number ≡ Some row = ap (λ (m : Message). message_of v.schema m.number) (sym plain) ∙ row_found in
    let ok : is_err c.reserve.result ≡ false = sym c.if-is_err.ensures.value in
    let seq_fits : SFits w32 taken.seq = search rules in
    let plainly : c.push_line.new.self ≡ with_line mid (line_at v.end.side (what.TakeReply taken.seq)) = simp (to_z-of_z, seq_fits) at c.push_line.ensures in
    let same_seq : taken.seq ≡ n.m.seq = ap (λ (m : Message). m.seq) plain in
    let given : Answer = plain_answer c.receive_answer-received.result.answer in
    let gives : given ≡ received v.schema v.end.actors row (answer_in n.m.body) =
    c.receive_answer-received.ensures.answer ∙ ap (received v.schema v.end.actors row) (ap plain_answer c.answer_of.ensures ∙ answer_plain taken.body answers ∙ ap answer_in (ap (λ (m : Message). m.body) plain)) in
    let promises = c.settle_promise.new.promises in
    let out' = c.settle_promise.new.out in
    let settled0 : promises ≡ map (settled_entry taken.seq (outcome_of given)) v.end.promises = simp (to_z-of_z, seq_fits) at c.settle_promise.ensures.promises in
    let told0 : out' ≡ with_settling (is_awaited taken.seq v.end.promises) v.end.side (settle_line taken.seq (outcome_of given)) c.push_line.new.self = simp (to_z-of_z, seq_fits) at c.settle_promise.ensures.out in
    let h : CodeSettles v out mid c.push_line.new.self out' n.m row promises items = record {
      same = c.reserve.ensures.same;
      lines = when_ok c.reserve.result (out.lines_owed + 2 ≤ mid.line_spare) ok c.reserve.ensures.lines;
      packets = c.reserve.ensures.more_packets;
      leaves = left_items v c.args.holding.now c.self.inside.pending.items items refl hold c.take_message-message.ensures.rest;
      says = plainly ∙ ap (λ (z : ℤ). with_line mid (line_at v.end.side (what.TakeReply z))) same_seq;
      settled = settled0 ∙ ap (λ (z : ℤ). map (settled_entry z (outcome_of given)) v.end.promises) same_seq ∙ ap (λ (a : Answer). map (settled_entry n.m.seq (outcome_of a)) v.end.promises) gives;
      told = told0 ∙ ap (λ (z : ℤ). with_settling (is_awaited z v.end.promises) v.end.side (settle_line z (outcome_of given)) c.push_line.new.self) same_seq ∙ ap (λ (a : Answer). with_settling (is_awaited n.m.seq v.end.promises) v.end.side (settle_line n.m.seq (outcome_of a)) c.push_line.new.self) gives;
    } in
    let e = settled_with v.end promises items out' in
    let made = settles_reply v n.m row n.is_next n.answers found out mid c.push_line.new.self out' promises items c.self.invariant.kept.numbered.distinct (tracks_begin v out refl refl refl c.self.invariant) h in
    let kind : IsKindOf (kind_of v) answer.Settled = subst (λ (k : TakeKind). IsKindOf k answer.Settled) (sym (settle_kind v n.m row n.is_next n.answers found)) tt in
    subst (λ (s : EndView). TakeGives s answer.Settled (seen_as v e out')) c.self.view_is (kind, made_step v [] event.take e out' made)
