use Rattle.std.proofs.Common.{ℤ, List, [], refl, sym, ap, subst, ◌∙◌, rules, arith, option_map}
use Rattle.std.proofs.lemmas.Int.{to_z-of_z}
use mir.Val.{SFits, to_z, of_z}
use mir.Syntax.{w32}
use Rattle.ipdl_base.specs.declared.line.What.{What}
use Rattle.ipdl_base.specs.Plain.{plain_message}
use Rattle.value_types.proofs.Boxes.{fits}
use Rattle.actor_tree.specs.declared.actor.Actor.{Actor}
use Rattle.channel_model.specs.Ends.{Naming}
use Rattle.channel_model.specs.Events as event
use Rattle.channel_model.specs.Outputs.{line_at}
use Rattle.end_steps.specs.BuiltActors.{with_built, with_built_line, IsFree}
use Rattle.end_parts.specs.declared.packet.Packet.{Packet}
use Rattle.end_parts.specs.OutputView.{with_line, with_packet}
use Rattle.end_steps.specs.SentRequests.{values_carried}
use Rattle.channel_core.specs.Answers.{SendGives}
use Rattle.channel_core.specs.declared.answers.SendAnswer.TheVariants.{Sent}
use Rattle.channel_core.specs.NewNames.{names_after}
use Rattle.channel_core.specs.EndView.{EndView}
use Rattle.channel_core.specs.Inside.{IsInside}
use Rattle.channel_core.specs.ResolverReplies.{HasReserved}
use Rattle.channel_core.specs.Sending.{IsAccepted}
use Rattle.channel_core.proofs.ActLemmas.{acted_end, reserved-inside}
use Rattle.channel_core.proofs.AcceptLemmas.{request_fits, wait_room, sent_gives}
use Rattle.channel_core.proofs.ConstructorLemmas.{CodeConstructs, IsMaking, constructed_with, constructor_room, making, may_build, sends_constructor}
use Rattle.channel_core.proofs.EndViews.{seen_in}
use Rattle.channel_core.proofs.MadeLemmas.{seen_as, made_inside}
use Rattle.channel_core.proofs.SendLemmas.{CodePosts, posted_view}
use Rattle.channel_core.proofs.TrackLemmas.{tracks_begin}
use Rattle.channel_core.proofs.end.End.send_constructor.Goals as goal

pub make_frame-frame-requires-clause-fits : goal.make_frame-frame-requires-clause-fits
make_frame-frame-requires-clause-fits c =
    let v = seen_in c.self.inside in
    let m = plain_message c.args.message in
    let vs = values_carried m.body in
    let name = option_map (λ n. n.now) c.args.name in
    let a : IsAccepted v c.args.row.now m vs name = subst (λ (s : EndView). IsAccepted s c.args.row.now m vs name) (sym c.self.view_is) c.requires.accepted in
    (fits v.schema c.args.message).0 (request_fits v c.args.row.now m vs name a c.self.invariant.kept)

pub build_actor-built-requires : goal.build_actor-built-requires
build_actor-built-requires c =
    let v = seen_in c.self.inside in
    let row = c.args.row.now in
    let m = plain_message c.args.message in
    let vs = values_carried m.body in
    let name = option_map (λ n. n.now) c.args.name in
    let a : IsAccepted v row m vs name = subst (λ (s : EndView). IsAccepted s row m vs name) (sym c.self.view_is) c.requires.accepted in
    subst (IsFree v.end.actors) (sym c.built_by-actor.ensures) (may_build v row m vs name a c.self.invariant.kept (making v row m vs name a c.self.invariant.sound c.requires.constructor))

pub push_wait-requires : goal.push_wait-requires
push_wait-requires c = λ sync.
    let v = seen_in c.self.inside in
    let m = plain_message c.args.message in
    let vs = values_carried m.body in
    let name = option_map (λ n. n.now) c.args.name in
    let a : IsAccepted v c.args.row.now m vs name = subst (λ (s : EndView). IsAccepted s c.args.row.now m vs name) (sym c.self.view_is) c.requires.accepted in
    wait_room v c.args.row.now m vs name a sync

pub invariant_of-self-in_default-built : goal.invariant_of-self-in_default-built
invariant_of-self-in_default-built c =
    let v = seen_in c.self.inside in
    let out = c.self.inside.out in
    let mid = c.make_frame-frame.new.out in
    let reserved : HasReserved out mid = record {
      same = c.in-Ok.ensures.same ∙ rw c.in-Ok.ensures.same refl;
      lines = c.in-Ok.ensures.more_lines;
      packets = c.in-Ok.ensures.more_packets;
    } in
    let inside : IsInside v.schema (acted_end v v.end.stack v.end.names mid) mid = reserved-inside v out mid (tracks_begin v out refl refl refl c.self.invariant) c.self.invariant reserved in
    let built : IsInside v.schema (record (acted_end v v.end.stack v.end.names mid) { actors = c.build_actor-built.new.tree }) mid =
    subst (λ (living : List Actor). IsInside v.schema (record (acted_end v v.end.stack v.end.names mid) { actors = living }) mid) (sym c.in_default-built.ensures.err) inside in
    subst (λ (ns : List Naming). IsInside v.schema (record (acted_end v v.end.stack ns mid) { actors = c.build_actor-built.new.tree }) mid) (sym c.in-Ok-named.ensures.names) built

pub invariant_of-self-2 : goal.invariant_of-self-2
invariant_of-self-2 c =
    let v = seen_in c.self.inside in
    let out = c.self.inside.out in
    let row = c.args.row.now in
    let m = plain_message c.args.message in
    let vs = values_carried m.body in
    let name = option_map (λ n. n.now) c.args.name in
    let mid = c.make_frame-frame.new.out in
    let said = c.push_line.new.self in
    let posted = c.put.new.self in
    let named = c.give_name.new.out in
    let told = c.push_built.new.out in
    let owed = c.owe.new.self in
    let actors = c.build_actor-built.new.tree in
    let stack = c.push_wait.new.stack in
    let view = c.make_name-named.new.names in
    let ready = c.in-Ok-named.named in
    let names = c.give_name.new.names.names in
    let a : IsAccepted v row m vs name = subst (λ (s : EndView). IsAccepted s row m vs name) (sym c.self.view_is) c.requires.accepted in
    let k : IsMaking row = making v row m vs name a c.self.invariant.sound c.requires.constructor in
    let made_fits : SFits w32 m.made = search rules in
    let p : CodePosts v row m vs out mid said posted = record {
      same = c.in-Ok.ensures.same ∙ rw c.in-Ok.ensures.same refl;
      says = c.push_line.ensures ∙ ap (λ (w : What). with_line mid (line_at v.end.side w)) c.send_line-what.ensures;
      posts = c.put.ensures ∙ ap (λ (q : Packet). with_packet said q) c.in-Ok.ensures.ready.frame ∙ ap (λ b. posted_view b v.schema m said) (sym k.lazy);
    } in
    let h : CodeConstructs v row m vs name out mid said posted named told owed actors stack view ready names = record {
      posts = p;
      waits = c.push_wait.ensures;
      reserves = c.make_name-named.ensures.names;
      ready_is = c.in-Ok-named.ensures.ready;
      holds = c.give_name.ensures.names ∙ ap (λ (z : ℤ). names_after ready z view.names) (to_z-of_z w32 m.made made_fits);
      tells = c.give_name.ensures.out;
      builds = c.in-Ok-built.ensures.ok ∙ ap (λ b. with_built b v.end.actors) c.built_by-actor.ensures;
      says = c.push_built.ensures ∙ ap (λ b. with_built_line v.end.side b named) c.built_by-actor.ensures;
      owes = c.owe.ensures;
      lines = c.in-Ok.ensures.lines;
      packets = omega (arith, c.in-Ok.ensures.packets);
    } in
    let made = sends_constructor v row m vs name out mid said posted named told owed actors stack view ready names k a c.in-Ok.ensures.ready.framed (tracks_begin v out refl refl refl c.self.invariant) c.self.invariant h in
    let e = constructed_with v.end actors stack names owed in
    made_inside v [] (event.send m.route row.number vs name) e out owed made c.self.invariant (omega (arith, a.few)) tt (constructor_room v row m vs name out mid said posted named told owed actors stack view ready names k refl c.self.invariant h)

pub returns : goal.returns
returns c =
    let v = seen_in c.self.inside in
    let out = c.self.inside.out in
    let row = c.args.row.now in
    let m = plain_message c.args.message in
    let vs = values_carried m.body in
    let name = option_map (λ n. n.now) c.args.name in
    let mid = c.make_frame-frame.new.out in
    let said = c.push_line.new.self in
    let posted = c.put.new.self in
    let named = c.give_name.new.out in
    let told = c.push_built.new.out in
    let owed = c.owe.new.self in
    let actors = c.build_actor-built.new.tree in
    let stack = c.push_wait.new.stack in
    let view = c.make_name-named.new.names in
    let ready = c.in-Ok-named.named in
    let names = c.give_name.new.names.names in
    let a : IsAccepted v row m vs name = subst (λ (s : EndView). IsAccepted s row m vs name) (sym c.self.view_is) c.requires.accepted in
    let k : IsMaking row = making v row m vs name a c.self.invariant.sound c.requires.constructor in
    let made_fits : SFits w32 m.made = search rules in
    let p : CodePosts v row m vs out mid said posted = record {
      same = c.in-Ok.ensures.same ∙ rw c.in-Ok.ensures.same refl;
      says = c.push_line.ensures ∙ ap (λ (w : What). with_line mid (line_at v.end.side w)) c.send_line-what.ensures;
      posts = c.put.ensures ∙ ap (λ (q : Packet). with_packet said q) c.in-Ok.ensures.ready.frame ∙ ap (λ b. posted_view b v.schema m said) (sym k.lazy);
    } in
    let h : CodeConstructs v row m vs name out mid said posted named told owed actors stack view ready names = record {
      posts = p;
      waits = c.push_wait.ensures;
      reserves = c.make_name-named.ensures.names;
      ready_is = c.in-Ok-named.ensures.ready;
      holds = c.give_name.ensures.names ∙ ap (λ (z : ℤ). names_after ready z view.names) (to_z-of_z w32 m.made made_fits);
      tells = c.give_name.ensures.out;
      builds = c.in-Ok-built.ensures.ok ∙ ap (λ b. with_built b v.end.actors) c.built_by-actor.ensures;
      says = c.push_built.ensures ∙ ap (λ b. with_built_line v.end.side b named) c.built_by-actor.ensures;
      owes = c.owe.ensures;
      lines = c.in-Ok.ensures.lines;
      packets = omega (arith, c.in-Ok.ensures.packets);
    } in
    let made = sends_constructor v row m vs name out mid said posted named told owed actors stack view ready names k a c.in-Ok.ensures.ready.framed (tracks_begin v out refl refl refl c.self.invariant) c.self.invariant h in
    let e = constructed_with v.end actors stack names owed in
    let seq_fits : SFits w32 m.seq = search rules in
    let seq : ℤ = to_z w32 (of_z w32 m.seq) in
    let new_id : ℤ = to_z w32 (of_z w32 m.made) in
    subst (λ (s : EndView). SendGives s m.route row.number vs name (Sent seq new_id) (seen_as v e owed)) c.self.view_is
    (sent_gives v row m vs name a e owed seq new_id (to_z-of_z w32 m.seq seq_fits) (to_z-of_z w32 m.made made_fits) made)
