use Rattle.std.proofs.Common.{◌≡◌, ◌+◌, ◌≤◌, ℤ, Bool, [], Option, Some, option_map, refl, sym, ap, subst, ◌∙◌, rules}
use Rattle.std.proofs.lemmas.Int.{to_z-of_z}
use mir.Val.{SFits}
use mir.Syntax.{w32}
use Rattle.ipdl_base.specs.declared.line.What.TheVariants as what
use Rattle.ipdl_base.specs.declared.schema.MessageRow.{MessageRow}
use Rattle.ipdl_base.specs.declared.value.Values.{Values}
use Rattle.ipdl_base.specs.Plain.{plain_values}
use Rattle.ipdl_base.specs.Sound.{message_of}
use Rattle.channel_model.specs.Ends.{StackEntry}
use Rattle.channel_model.specs.Events as event
use Rattle.channel_model.specs.Outputs.{is_open, line_at}
use Rattle.channel_model.specs.Parts.{IsReturn}
use Rattle.channel_model.specs.Returns.{dispatch_on_top}
use Rattle.end_steps.specs.AnswerPackets.{owed_by_return, owed_if, IsPacketFor}
use Rattle.end_steps.specs.Deletions.{HasDeleted}
use Rattle.end_parts.specs.OutputView.{with_line}
use Rattle.end_parts.specs.StackDetails.{dispatch_entry}
use Rattle.channel_core.specs.EndView.{EndView}
use Rattle.channel_core.specs.Steps.{IsStep, MayReturn}
use Rattle.channel_core.proofs.EndViews.{seen_in}
use Rattle.channel_core.proofs.FinishLemmas.{CodeReturns, fall_lines_fit, is_return, owed_fits, return_number, return_room, returned_with, returns_handler}
use Rattle.channel_core.proofs.MadeLemmas.{seen_as, made_step, made_inside}
use Rattle.channel_core.proofs.TrackLemmas.{tracks_begin}
use Rattle.channel_core.proofs.end.End.return_handler.Goals as goal

pub return_packet-requires-clause-number : goal.return_packet-requires-clause-number
return_packet-requires-clause-number c =
    let v = seen_in c.self.inside in
    let vs : Option Values = option_map (λ vs. plain_values vs.now) c.args.values in
    let entry : StackEntry = dispatch_entry c.in-Some.entry in
    let row : MessageRow = c.in-Some-message.row.now in
    let may : MayReturn v vs = subst (λ (s : EndView). MayReturn s vs) (sym c.self.view_is) c.requires in
    let top : dispatch_on_top v.end.stack ≡ Some entry = sym c.dispatch_on_top.ensures ∙ ap (option_map dispatch_entry) c.in-Some.is in
    let found : message_of v.schema entry.number ≡ Some row = sym c.message.ensures ∙ ap (λ r. option_map (λ x. x.now) r) c.in-Some-message.is in
    let r : IsReturn v.schema v.end entry row vs = is_return v vs entry row may top found in
    return_number v vs entry row r c.self.invariant.sound c.self.invariant.kept

pub return_packet-requires-clause-fits : goal.return_packet-requires-clause-fits
return_packet-requires-clause-fits c =
    let v = seen_in c.self.inside in
    let vs : Option Values = option_map (λ vs. plain_values vs.now) c.args.values in
    let entry : StackEntry = dispatch_entry c.in-Some.entry in
    let row : MessageRow = c.in-Some-message.row.now in
    let may : MayReturn v vs = subst (λ (s : EndView). MayReturn s vs) (sym c.self.view_is) c.requires in
    let top : dispatch_on_top v.end.stack ≡ Some entry = sym c.dispatch_on_top.ensures ∙ ap (option_map dispatch_entry) c.in-Some.is in
    let found : message_of v.schema entry.number ≡ Some row = sym c.message.ensures ∙ ap (λ r. option_map (λ x. x.now) r) c.in-Some-message.is in
    let r : IsReturn v.schema v.end entry row vs = is_return v vs entry row may top found in
    owed_fits v vs entry row r c.self.invariant.sound c.self.invariant.kept

pub delete_by-requires : goal.delete_by-requires
delete_by-requires c =
    let v = seen_in c.self.inside in
    let vs : Option Values = option_map (λ vs. plain_values vs.now) c.args.values in
    let entry : StackEntry = dispatch_entry c.in-Some.entry in
    let row : MessageRow = c.in-Some-message.row.now in
    let may : MayReturn v vs = subst (λ (s : EndView). MayReturn s vs) (sym c.self.view_is) c.requires in
    let top : dispatch_on_top v.end.stack ≡ Some entry = sym c.dispatch_on_top.ensures ∙ ap (option_map dispatch_entry) c.in-Some.is in
    let found : message_of v.schema entry.number ≡ Some row = sym c.message.ensures ∙ ap (λ r. option_map (λ x. x.now) r) c.in-Some-message.is in
    let r : IsReturn v.schema v.end entry row vs = is_return v vs entry row may top found in
    let out = c.self.inside.out in
    let mid = c.reserve.new.self in
    let seq_fits : SFits w32 c.in-Some.entry.head.seq = search rules in
    let says : c.push_line.new.self ≡ with_line mid (line_at v.end.side (what.Return c.in-Some.entry.head.seq)) = simp (to_z-of_z, seq_fits) at c.push_line.ensures in
    let lines : out.lines_owed + 2 ≤ mid.line_spare = c.in_ok-reserve.ensures.lines in
    fall_lines_fit v vs entry row r c.self.invariant.sound c.self.invariant.kept out mid c.push_line.new.self c.put_answer.new.out c.in_ok-packet.packet c.self.invariant lines says c.put_answer.ensures

pub invariant_of-self-2 : goal.invariant_of-self-2
invariant_of-self-2 c =
    let v = seen_in c.self.inside in
    let vs : Option Values = option_map (λ vs. plain_values vs.now) c.args.values in
    let entry : StackEntry = dispatch_entry c.in-Some.entry in
    let row : MessageRow = c.in-Some-message.row.now in
    let may : MayReturn v vs = subst (λ (s : EndView). MayReturn s vs) (sym c.self.view_is) c.requires in
    let top : dispatch_on_top v.end.stack ≡ Some entry = sym c.dispatch_on_top.ensures ∙ ap (option_map dispatch_entry) c.in-Some.is in
    let found : message_of v.schema entry.number ≡ Some row = sym c.message.ensures ∙ ap (λ r. option_map (λ x. x.now) r) c.in-Some-message.is in
    let r : IsReturn v.schema v.end entry row vs = is_return v vs entry row may top found in
    let out = c.self.inside.out in
    let mid = c.reserve.new.self in
    let seq_fits : SFits w32 c.in-Some.entry.head.seq = search rules in
    let says : c.push_line.new.self ≡ with_line mid (line_at v.end.side (what.Return c.in-Some.entry.head.seq)) = simp (to_z-of_z, seq_fits) at c.push_line.ensures in
    let lines : out.lines_owed + 2 ≤ mid.line_spare = c.in_ok-reserve.ensures.lines in
    let route_fits : SFits w32 c.in-Some.entry.route = search rules in
    let packet = c.in_ok-packet.packet in
    let told : IsPacketFor v.schema (owed_if (is_open v.end.state) (owed_by_return v.schema v.end.actors row entry vs)) packet =
    subst (λ (b : Bool). IsPacketFor v.schema (owed_if b (owed_by_return v.schema v.end.actors row entry vs)) packet) c.is_open.ensures c.in_ok-packet.ensures in
    let actors = c.delete_by.new.tree in
    let promises = c.delete_by.new.promises in
    let stack = c.pop_dispatch.new.self in
    let out' = c.delete_by.new.out in
    let h : CodeReturns v out mid c.push_line.new.self c.put_answer.new.out out' entry row packet stack actors promises = record {
      same = c.reserve.ensures.same;
      lines = lines;
      packets = c.in_ok-reserve.ensures.packets;
      pops = c.pop_dispatch.ensures;
      says = says;
      puts = c.put_answer.ensures;
      deletes = subst (λ (z : ℤ). HasDeleted row.kind v.end.side z v.end.actors v.end.promises c.put_answer.new.out actors promises out') (to_z-of_z w32 entry.route route_fits) c.delete_by.ensures;
    } in
    let e = returned_with v.end stack actors promises out' in
    let made = returns_handler v vs entry row r c.self.invariant.sound c.self.invariant.kept out mid c.push_line.new.self c.put_answer.new.out out' packet stack actors promises told (tracks_begin v out refl refl refl c.self.invariant) h in
    made_inside v [] (event.return vs) e out out' made c.self.invariant c.self.invariant.kept.few tt
    (return_room v vs entry row r c.self.invariant.sound c.self.invariant.kept out mid c.push_line.new.self c.put_answer.new.out out' packet stack actors promises refl c.self.invariant h)

pub returns-clause-ok : goal.returns-clause-ok
returns-clause-ok c =
    let v = seen_in c.self.inside in
    let vs : Option Values = option_map (λ vs. plain_values vs.now) c.args.values in
    let entry : StackEntry = dispatch_entry c.in-Some.entry in
    let row : MessageRow = c.in-Some-message.row.now in
    let may : MayReturn v vs = subst (λ (s : EndView). MayReturn s vs) (sym c.self.view_is) c.requires in
    let top : dispatch_on_top v.end.stack ≡ Some entry = sym c.dispatch_on_top.ensures ∙ ap (option_map dispatch_entry) c.in-Some.is in
    let found : message_of v.schema entry.number ≡ Some row = sym c.message.ensures ∙ ap (λ r. option_map (λ x. x.now) r) c.in-Some-message.is in
    let r : IsReturn v.schema v.end entry row vs = is_return v vs entry row may top found in
    let out = c.self.inside.out in
    let mid = c.reserve.new.self in
    let seq_fits : SFits w32 c.in-Some.entry.head.seq = search rules in
    let says : c.push_line.new.self ≡ with_line mid (line_at v.end.side (what.Return c.in-Some.entry.head.seq)) = simp (to_z-of_z, seq_fits) at c.push_line.ensures in
    let lines : out.lines_owed + 2 ≤ mid.line_spare = c.in_ok-reserve.ensures.lines in
    let route_fits : SFits w32 c.in-Some.entry.route = search rules in
    let packet = c.in_ok-packet.packet in
    let told : IsPacketFor v.schema (owed_if (is_open v.end.state) (owed_by_return v.schema v.end.actors row entry vs)) packet =
    subst (λ (b : Bool). IsPacketFor v.schema (owed_if b (owed_by_return v.schema v.end.actors row entry vs)) packet) c.is_open.ensures c.in_ok-packet.ensures in
    let actors = c.delete_by.new.tree in
    let promises = c.delete_by.new.promises in
    let stack = c.pop_dispatch.new.self in
    let out' = c.delete_by.new.out in
    let h : CodeReturns v out mid c.push_line.new.self c.put_answer.new.out out' entry row packet stack actors promises = record {
      same = c.reserve.ensures.same;
      lines = lines;
      packets = c.in_ok-reserve.ensures.packets;
      pops = c.pop_dispatch.ensures;
      says = says;
      puts = c.put_answer.ensures;
      deletes = subst (λ (z : ℤ). HasDeleted row.kind v.end.side z v.end.actors v.end.promises c.put_answer.new.out actors promises out') (to_z-of_z w32 entry.route route_fits) c.delete_by.ensures;
    } in
    let e = returned_with v.end stack actors promises out' in
    let made = returns_handler v vs entry row r c.self.invariant.sound c.self.invariant.kept out mid c.push_line.new.self c.put_answer.new.out out' packet stack actors promises told (tracks_begin v out refl refl refl c.self.invariant) h in
    subst (λ (s : EndView). IsStep s (event.return vs) (seen_as v e out')) c.self.view_is (made_step v [] (event.return vs) e out' made)
