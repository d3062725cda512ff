use Rattle.std.proofs.Common.{ℤ, [], None, refl, sym, ap, subst, ◌∙◌, rules, arith}
use Rattle.std.proofs.lemmas.Int.{to_z-of_z}
use mir.Val.{SFits, to_z, of_z}
use mir.Syntax.{w32}
use Rattle.ipdl_base.specs.declared.line.What.{What}
use Rattle.ipdl_base.specs.Plain.{plain_message}
use Rattle.value_types.proofs.Boxes.{fits}
use Rattle.channel_model.specs.Events as event
use Rattle.channel_model.specs.Outputs.{line_at}
use Rattle.end_parts.specs.declared.packet.Packet.{Packet}
use Rattle.end_parts.specs.OutputView.{with_line, with_packet}
use Rattle.end_steps.specs.SentRequests.{values_carried}
use Rattle.channel_core.specs.Answers.{SendGives}
use Rattle.channel_core.specs.declared.answers.SendAnswer.TheVariants.{Sent}
use Rattle.channel_core.specs.EndView.{EndView}
use Rattle.channel_core.specs.Sending.{IsAccepted}
use Rattle.channel_core.proofs.AcceptLemmas.{wait_room, number_free, request_fits, sent_gives}
use Rattle.channel_core.proofs.EndViews.{seen_in}
use Rattle.channel_core.proofs.MadeLemmas.{seen_as, made_inside}
use Rattle.channel_core.proofs.SendLemmas.{CodePosts, CodeSends, posted_view, sends, send_room, sent_with}
use Rattle.channel_core.proofs.TrackLemmas.{tracks_begin}
use Rattle.channel_core.proofs.end.End.send_eager.Goals as goal

pub make_frame-frame-requires-clause-fits : goal.make_frame-frame-requires-clause-fits
make_frame-frame-requires-clause-fits c =
    let v = seen_in c.self.inside in
    let m = plain_message c.args.message in
    let vs = values_carried m.body in
    let a : IsAccepted v c.args.row.now m vs None = subst (λ (s : EndView). IsAccepted s c.args.row.now m vs None) (sym c.self.view_is) c.requires.accepted in
    (fits v.schema c.args.message).0 (request_fits v c.args.row.now m vs None a c.self.invariant.kept)

pub await_reply-awaited-requires-clause-room : goal.await_reply-awaited-requires-clause-room
await_reply-awaited-requires-clause-room c = λ sync.
    let v = seen_in c.self.inside in
    let m = plain_message c.args.message in
    let vs = values_carried m.body in
    let a : IsAccepted v c.args.row.now m vs None = subst (λ (s : EndView). IsAccepted s c.args.row.now m vs None) (sym c.self.view_is) c.requires.accepted in
    wait_room v c.args.row.now m vs None a sync

pub await_reply-awaited-requires-clause-free : goal.await_reply-awaited-requires-clause-free
await_reply-awaited-requires-clause-free c =
    let v = seen_in c.self.inside in
    let m = plain_message c.args.message in
    let vs = values_carried m.body in
    let a : IsAccepted v c.args.row.now m vs None = subst (λ (s : EndView). IsAccepted s c.args.row.now m vs None) (sym c.self.view_is) c.requires.accepted in
    number_free v c.args.row.now m vs None a c.self.invariant.kept

pub invariant_of-self-2 : goal.invariant_of-self-2
invariant_of-self-2 c =
    let v = seen_in c.self.inside in
    let out = c.self.inside.out in
    let row = c.args.row.now in
    let m = plain_message c.args.message in
    let vs = values_carried m.body in
    let mid = c.make_frame-frame.new.out in
    let stack = c.await_reply-awaited.new.stack in
    let promises = c.await_reply-awaited.new.promises in
    let a : IsAccepted v row m vs None = subst (λ (s : EndView). IsAccepted s row m vs None) (sym c.self.view_is) c.requires.accepted in
    let p : CodePosts v row m vs out mid c.push_line.new.self c.put.new.self = record {
      same = c.in-Ok.ensures.same ∙ rw c.in-Ok.ensures.same refl;
      says = c.push_line.ensures ∙ ap (λ (w : What). with_line mid (line_at v.end.side w)) c.send_line-what.ensures;
      posts = c.put.ensures ∙ ap (λ (q : Packet). with_packet c.push_line.new.self q) c.in-Ok.ensures.ready.frame ∙ ap (λ b. posted_view b v.schema m c.push_line.new.self) (sym c.requires.eager);
    } in
    let s : CodeSends v row m vs out mid c.push_line.new.self c.put.new.self c.owe.new.self stack promises = record {
      posts = p;
      owes = c.owe.ensures;
      waits = c.in-Ok-awaited.ensures.stack;
      promised = c.in-Ok-awaited.ensures.promises;
      lines = c.in-Ok.ensures.lines;
      packets = omega (arith, c.in-Ok.ensures.packets);
    } in
    let made = sends v row m vs out mid c.push_line.new.self c.put.new.self c.owe.new.self stack promises c.requires.normal a c.in-Ok.ensures.ready.framed (tracks_begin v out refl refl refl c.self.invariant) s in
    let e = sent_with v.end stack promises c.owe.new.self in
    made_inside v [] (event.send m.route row.number vs None) e out c.owe.new.self made c.self.invariant (omega (arith, a.few)) tt (send_room v row m vs out mid c.push_line.new.self c.put.new.self c.owe.new.self stack promises a refl c.self.invariant s)

pub returns : goal.returns
returns c =
    let v = seen_in c.self.inside in
    let out = c.self.inside.out in
    let row = c.args.row.now in
    let m = plain_message c.args.message in
    let vs = values_carried m.body in
    let mid = c.make_frame-frame.new.out in
    let stack = c.await_reply-awaited.new.stack in
    let promises = c.await_reply-awaited.new.promises in
    let a : IsAccepted v row m vs None = subst (λ (s : EndView). IsAccepted s row m vs None) (sym c.self.view_is) c.requires.accepted in
    let p : CodePosts v row m vs out mid c.push_line.new.self c.put.new.self = record {
      same = c.in-Ok.ensures.same ∙ rw c.in-Ok.ensures.same refl;
      says = c.push_line.ensures ∙ ap (λ (w : What). with_line mid (line_at v.end.side w)) c.send_line-what.ensures;
      posts = c.put.ensures ∙ ap (λ (q : Packet). with_packet c.push_line.new.self q) c.in-Ok.ensures.ready.frame ∙ ap (λ b. posted_view b v.schema m c.push_line.new.self) (sym c.requires.eager);
    } in
    let s : CodeSends v row m vs out mid c.push_line.new.self c.put.new.self c.owe.new.self stack promises = record {
      posts = p;
      owes = c.owe.ensures;
      waits = c.in-Ok-awaited.ensures.stack;
      promised = c.in-Ok-awaited.ensures.promises;
      lines = c.in-Ok.ensures.lines;
      packets = omega (arith, c.in-Ok.ensures.packets);
    } in
    let made = sends v row m vs out mid c.push_line.new.self c.put.new.self c.owe.new.self stack promises c.requires.normal a c.in-Ok.ensures.ready.framed (tracks_begin v out refl refl refl c.self.invariant) s in
    let e = sent_with v.end stack promises c.owe.new.self in
    let seq_fits : SFits w32 m.seq = search rules in
    let made_fits : SFits w32 m.made = search rules in
    let seq : ℤ = to_z w32 (of_z w32 m.seq) in
    let new_id : ℤ = to_z w32 (of_z w32 m.made) in
    subst (λ (s : EndView). SendGives s m.route row.number vs None (Sent seq new_id) (seen_as v e c.owe.new.self)) c.self.view_is
    (sent_gives v row m vs None a e c.owe.new.self seq new_id (to_z-of_z w32 m.seq seq_fits) (to_z-of_z w32 m.made made_fits) made)
