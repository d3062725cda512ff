use Rattle.std.proofs.Common.{ℤ, [], None, refl, sym, ap, subst, ◌∙◌, rules, arith}
use Rattle.std.proofs.lemmas.Int.{to_z-of_z}
use mir.Val.{SFits, to_z, of_z}
use mir.Syntax.{w32}
use Rattle.ipdl_base.specs.declared.line.What.{What}
use Rattle.ipdl_base.specs.Plain.{plain_message}
use Rattle.value_types.proofs.Boxes.{fits}
use Rattle.channel_model.specs.Events as event
use Rattle.channel_model.specs.Outputs.{line_at}
use Rattle.end_parts.specs.declared.packet.Packet.{Packet}
use Rattle.end_steps.specs.Deletions.{HasDeleted}
use Rattle.end_parts.specs.OutputView.{with_line, with_packet}
use Rattle.end_steps.specs.SentRequests.{values_carried}
use Rattle.channel_core.specs.Answers.{SendGives}
use Rattle.channel_core.specs.declared.answers.SendAnswer.TheVariants.{Sent}
use Rattle.channel_core.specs.EndView.{EndView}
use Rattle.channel_core.specs.Sending.{IsAccepted}
use Rattle.channel_core.proofs.AcceptLemmas.{request_fits, sent_gives}
use Rattle.channel_core.proofs.DestructorLemmas.{CodeDeletes, bare, deleted_with, sends_destructor, fall_room, destructor_room}
use Rattle.channel_core.proofs.EndViews.{seen_in}
use Rattle.channel_core.proofs.MadeLemmas.{seen_as, made_inside}
use Rattle.channel_core.proofs.SendLemmas.{CodePosts, posted_view}
use Rattle.channel_core.proofs.TrackLemmas.{tracks_begin}
use Rattle.channel_core.proofs.end.End.send_destructor.Goals as goal

pub make_frame-frame-requires-clause-fits : goal.make_frame-frame-requires-clause-fits
make_frame-frame-requires-clause-fits c =
    let v = seen_in c.self.inside in
    let m = plain_message c.args.message in
    let vs = values_carried m.body in
    let a : IsAccepted v c.args.row.now m vs None = subst (λ (s : EndView). IsAccepted s c.args.row.now m vs None) (sym c.self.view_is) c.requires.accepted in
    (fits v.schema c.args.message).0 (request_fits v c.args.row.now m vs None a c.self.invariant.kept)

pub delete_by-requires : goal.delete_by-requires
delete_by-requires c =
    let v = seen_in c.self.inside in
    let out = c.self.inside.out in
    let row = c.args.row.now in
    let m = plain_message c.args.message in
    let vs = values_carried m.body in
    let mid = c.make_frame-frame.new.out in
    let a : IsAccepted v row m vs None = subst (λ (s : EndView). IsAccepted s row m vs None) (sym c.self.view_is) c.requires.accepted in
    let p : CodePosts v row m vs out mid c.push_line.new.self c.put.new.self = record {
      same = c.in-Ok.ensures.same ∙ rw c.in-Ok.ensures.same refl;
      says = c.push_line.ensures ∙ ap (λ (w : What). with_line mid (line_at v.end.side w)) c.send_line-what.ensures;
      posts = c.put.ensures ∙ ap (λ (q : Packet). with_packet c.push_line.new.self q) c.in-Ok.ensures.ready.frame ∙ ap (λ b. posted_view b v.schema m c.push_line.new.self) (sym (bare v row m vs None a c.self.invariant.sound c.requires.delete).lazy);
    } in
    fall_room v row m vs out mid c.push_line.new.self c.put.new.self p c.in-Ok.ensures.lines c.self.invariant

pub invariant_of-self-2 : goal.invariant_of-self-2
invariant_of-self-2 c =
    let v = seen_in c.self.inside in
    let out = c.self.inside.out in
    let row = c.args.row.now in
    let m = plain_message c.args.message in
    let vs = values_carried m.body in
    let mid = c.make_frame-frame.new.out in
    let posted = c.put.new.self in
    let paid = c.delete_by.new.out in
    let actors = c.delete_by.new.tree in
    let promises = c.delete_by.new.promises in
    let route_fits : SFits w32 m.route = search rules in
    let a : IsAccepted v row m vs None = subst (λ (s : EndView). IsAccepted s row m vs None) (sym c.self.view_is) c.requires.accepted in
    let p : CodePosts v row m vs out mid c.push_line.new.self posted = record {
      same = c.in-Ok.ensures.same ∙ rw c.in-Ok.ensures.same refl;
      says = c.push_line.ensures ∙ ap (λ (w : What). with_line mid (line_at v.end.side w)) c.send_line-what.ensures;
      posts = c.put.ensures ∙ ap (λ (q : Packet). with_packet c.push_line.new.self q) c.in-Ok.ensures.ready.frame ∙ ap (λ b. posted_view b v.schema m c.push_line.new.self) (sym (bare v row m vs None a c.self.invariant.sound c.requires.delete).lazy);
    } in
    let d : CodeDeletes v row m vs out mid c.push_line.new.self posted paid actors promises = record {
      posts = p;
      deletes = subst (λ (z : ℤ). HasDeleted row.kind v.end.side z v.end.actors v.end.promises posted actors promises paid) (to_z-of_z w32 m.route route_fits) c.delete_by.ensures;
      lines = c.in-Ok.ensures.lines;
      packets = omega (arith, c.in-Ok.ensures.packets);
    } in
    let made = sends_destructor v row m vs out mid c.push_line.new.self posted paid actors promises c.requires.delete c.self.invariant.sound a c.in-Ok.ensures.ready.framed (tracks_begin v out refl refl refl c.self.invariant) d in
    let e = deleted_with v.end actors promises paid in
    made_inside v [] (event.send m.route row.number vs None) e out paid made c.self.invariant (omega (arith, a.few)) tt
    (destructor_room v row m vs out mid c.push_line.new.self posted paid actors promises c.requires.delete a refl c.self.invariant d)

pub returns : goal.returns
returns c =
    let v = seen_in c.self.inside in
    let out = c.self.inside.out in
    let row = c.args.row.now in
    let m = plain_message c.args.message in
    let vs = values_carried m.body in
    let mid = c.make_frame-frame.new.out in
    let posted = c.put.new.self in
    let paid = c.delete_by.new.out in
    let actors = c.delete_by.new.tree in
    let promises = c.delete_by.new.promises in
    let route_fits : SFits w32 m.route = search rules in
    let a : IsAccepted v row m vs None = subst (λ (s : EndView). IsAccepted s row m vs None) (sym c.self.view_is) c.requires.accepted in
    let p : CodePosts v row m vs out mid c.push_line.new.self posted = record {
      same = c.in-Ok.ensures.same ∙ rw c.in-Ok.ensures.same refl;
      says = c.push_line.ensures ∙ ap (λ (w : What). with_line mid (line_at v.end.side w)) c.send_line-what.ensures;
      posts = c.put.ensures ∙ ap (λ (q : Packet). with_packet c.push_line.new.self q) c.in-Ok.ensures.ready.frame ∙ ap (λ b. posted_view b v.schema m c.push_line.new.self) (sym (bare v row m vs None a c.self.invariant.sound c.requires.delete).lazy);
    } in
    let d : CodeDeletes v row m vs out mid c.push_line.new.self posted paid actors promises = record {
      posts = p;
      deletes = subst (λ (z : ℤ). HasDeleted row.kind v.end.side z v.end.actors v.end.promises posted actors promises paid) (to_z-of_z w32 m.route route_fits) c.delete_by.ensures;
      lines = c.in-Ok.ensures.lines;
      packets = omega (arith, c.in-Ok.ensures.packets);
    } in
    let made = sends_destructor v row m vs out mid c.push_line.new.self posted paid actors promises c.requires.delete c.self.invariant.sound a c.in-Ok.ensures.ready.framed (tracks_begin v out refl refl refl c.self.invariant) d in
    let e = deleted_with v.end actors promises paid in
    let seq_fits : SFits w32 m.seq = search rules in
    let made_fits : SFits w32 m.made = search rules in
    let seq : ℤ = to_z w32 (of_z w32 m.seq) in
    let new_id : ℤ = to_z w32 (of_z w32 m.made) in
    subst (λ (s : EndView). SendGives s m.route row.number vs None (Sent seq new_id) (seen_as v e paid)) c.self.view_is
    (sent_gives v row m vs None a e paid seq new_id (to_z-of_z w32 m.seq seq_fits) (to_z-of_z w32 m.made made_fits) made)
