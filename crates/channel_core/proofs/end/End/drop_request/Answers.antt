use Rattle.std.proofs.Common.{◌≡◌, ◌+◌, ◌≤◌, [], length, false, refl, sym, ap, subst, ◌∙◌, rules}
use Rattle.std.specs.Prelude.{is_err}
use Rattle.std.proofs.lemmas.Int.{to_z-of_z}
use mir.Val.{SFits}
use mir.Syntax.{w32}
use Rattle.ipdl_base.specs.declared.line.What.TheVariants as what
use Rattle.ipdl_base.specs.declared.message.Message.{Message}
use Rattle.ipdl_base.specs.Plain.{plain_message}
use Rattle.channel_model.specs.Events as event
use Rattle.channel_model.specs.Outputs.{line_at}
use Rattle.channel_model.specs.Takes.{deferral_context_of}
use Rattle.end_parts.specs.OutputView.{with_line}
use Rattle.channel_core.specs.declared.answers.TakeAnswer.TheVariants as answer
use Rattle.channel_core.specs.NextItems.{IsNextDrop}
use Rattle.channel_core.specs.EndView.{EndView}
use Rattle.channel_core.specs.Taken.{IsKindOf, TakeGives, TakeKind, kind_of}
use Rattle.channel_core.proofs.DropLemmas.{CodeDrops, drop_kind, drop_room, dropped_with, drops}
use Rattle.channel_core.proofs.EndViews.{seen_in}
use Rattle.channel_core.proofs.MadeLemmas.{seen_as, made_step, made_inside}
use Rattle.channel_core.proofs.TakeLemmas.{left_items, taken_message, when_ok}
use Rattle.channel_core.proofs.TrackLemmas.{tracks_begin}
use Rattle.channel_core.proofs.end.End.drop_request.Goals as goal

pub take_message-message-requires : goal.take_message-message-requires
take_message-message-requires c =
    let v = seen_in c.self.inside in
    let n : IsNextDrop v c.args.id c.args.packet = subst (λ (s : EndView). IsNextDrop s c.args.id c.args.packet) (sym c.self.view_is) c.requires.next in
    let h : c.args.holding.now ≡ deferral_context_of v.end = c.requires.holding ∙ ap (λ (s : EndView). deferral_context_of s.end) (sym c.self.view_is) in
    (taken_message v c.args.holding.now c.self.inside.pending.items n.m n.m refl h n.is_next).0

pub invariant_of-self-2 : goal.invariant_of-self-2
invariant_of-self-2 c =
    let v = seen_in c.self.inside in
    let out = c.self.inside.out in
    let mid = c.reserve.new.self in
    let id = c.args.id in
    let n : IsNextDrop v id c.args.packet = subst (λ (s : EndView). IsNextDrop s id c.args.packet) (sym c.self.view_is) c.requires.next in
    let hold : c.args.holding.now ≡ deferral_context_of v.end = c.requires.holding ∙ ap (λ (s : EndView). deferral_context_of s.end) (sym c.self.view_is) in
    let items = c.take_message-message.new.pending.items in
    let taken : Message = c.take_message-message.result in
    let plain : plain_message taken ≡ n.m = (taken_message v c.args.holding.now c.self.inside.pending.items n.m taken refl hold n.is_next).1 c.take_message-message.ensures.taken in
    let ok : is_err c.reserve.result ≡ false = sym c.is_err.ensures.value ∙ c.if-is_err.false in
    let seq_fits : SFits w32 taken.seq = search rules in
    let route_fits : SFits w32 taken.route = search rules in
    let plainly : c.push_line.new.self ≡ with_line mid (line_at v.end.side (what.Drop taken.seq taken.route taken.number id)) = simp (to_z-of_z, seq_fits, route_fits, c.ranges.id) at c.push_line.ensures in
    let h : CodeDrops v out mid c.push_line.new.self c.put_answer.new.out n.m id c.args.packet items = record {
      same = c.reserve.ensures.same;
      lines = when_ok c.reserve.result (out.lines_owed + 2 ≤ mid.line_spare) ok c.reserve.ensures.lines;
      packets = when_ok c.reserve.result (length out.frames + 1 + 1 ≤ mid.packet_spare) ok c.reserve.ensures.packets;
      leaves = left_items v c.args.holding.now c.self.inside.pending.items items refl hold c.take_message-message.ensures.rest;
      says = plainly ∙ ap (λ (m : Message). with_line mid (line_at v.end.side (what.Drop m.seq m.route m.number id))) plain;
      puts = c.put_answer.ensures;
    } in
    let made = drops v id c.args.packet n out mid c.push_line.new.self c.put_answer.new.out items (tracks_begin v out refl refl refl c.self.invariant) h in
    made_inside v [] event.take (dropped_with v.end items c.put_answer.new.out) out c.put_answer.new.out made c.self.invariant c.self.invariant.kept.few tt (drop_room v id c.args.packet n out mid c.push_line.new.self c.put_answer.new.out items refl c.self.invariant h)

pub returns : goal.returns
returns c =
    let v = seen_in c.self.inside in
    let out = c.self.inside.out in
    let mid = c.reserve.new.self in
    let id = c.args.id in
    let n : IsNextDrop v id c.args.packet = subst (λ (s : EndView). IsNextDrop s id c.args.packet) (sym c.self.view_is) c.requires.next in
    let hold : c.args.holding.now ≡ deferral_context_of v.end = c.requires.holding ∙ ap (λ (s : EndView). deferral_context_of s.end) (sym c.self.view_is) in
    let items = c.take_message-message.new.pending.items in
    let taken : Message = c.take_message-message.result in
    let plain : plain_message taken ≡ n.m = (taken_message v c.args.holding.now c.self.inside.pending.items n.m taken refl hold n.is_next).1 c.take_message-message.ensures.taken in
    let ok : is_err c.reserve.result ≡ false = sym c.is_err.ensures.value ∙ c.if-is_err.false in
    let seq_fits : SFits w32 taken.seq = search rules in
    let route_fits : SFits w32 taken.route = search rules in
    let plainly : c.push_line.new.self ≡ with_line mid (line_at v.end.side (what.Drop taken.seq taken.route taken.number id)) = simp (to_z-of_z, seq_fits, route_fits, c.ranges.id) at c.push_line.ensures in
    let h : CodeDrops v out mid c.push_line.new.self c.put_answer.new.out n.m id c.args.packet items = record {
      same = c.reserve.ensures.same;
      lines = when_ok c.reserve.result (out.lines_owed + 2 ≤ mid.line_spare) ok c.reserve.ensures.lines;
      packets = when_ok c.reserve.result (length out.frames + 1 + 1 ≤ mid.packet_spare) ok c.reserve.ensures.packets;
      leaves = left_items v c.args.holding.now c.self.inside.pending.items items refl hold c.take_message-message.ensures.rest;
      says = plainly ∙ ap (λ (m : Message). with_line mid (line_at v.end.side (what.Drop m.seq m.route m.number id))) plain;
      puts = c.put_answer.ensures;
    } in
    let e = dropped_with v.end items c.put_answer.new.out in
    let made = drops v id c.args.packet n out mid c.push_line.new.self c.put_answer.new.out items (tracks_begin v out refl refl refl c.self.invariant) h in
    let kind : IsKindOf (kind_of v) answer.Dropped = subst (λ (k : TakeKind). IsKindOf k answer.Dropped) (sym (drop_kind v id c.args.packet n)) tt in
    subst (λ (s : EndView). TakeGives s answer.Dropped (seen_as v e c.put_answer.new.out)) c.self.view_is (kind, made_step v [] event.take e c.put_answer.new.out made)
