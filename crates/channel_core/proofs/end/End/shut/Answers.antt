use Rattle.std.proofs.Common.{◌≡◌, ℕ, ◌+◌, ◌-◌, ◌≤◌, [], Some, false, refl, sym, ap, subst, ◌∙◌}
use Rattle.std.specs.Prelude.{is_err}
use Rattle.ipdl_base.specs.declared.kinds.Destroy.{Destroy}
use Rattle.ipdl_base.specs.declared.line.What.{What}
use Rattle.channel_model.specs.Events as event
use Rattle.channel_model.specs.Outputs.{line_at}
use Rattle.end_steps.specs.Falls.{HasClosed}
use Rattle.end_parts.specs.OutputView.{OutputView, with_line}
use Rattle.channel_core.specs.declared.answers.TakeAnswer.TheVariants as answer
use Rattle.channel_core.specs.declared.end.taking.ItemKind.TheVariants as kind
use Rattle.channel_core.specs.NextItems.{farewell_line, next_kind}
use Rattle.channel_core.specs.EndView.{EndView}
use Rattle.channel_core.specs.Taken.{IsKindOf, TakeGives, TakeKind, kind_of}
use Rattle.channel_core.proofs.CloseLemmas.{shut_with}
use Rattle.channel_core.proofs.EndViews.{seen_in}
use Rattle.channel_core.proofs.MadeLemmas.{seen_as, made_step, made_inside}
use Rattle.channel_core.proofs.ShutLemmas.{CodeShuts, shut_kind, shut_lines, shut_room, shuts}
use Rattle.channel_core.proofs.TakeLemmas.{when_ok}
use Rattle.channel_core.proofs.TrackLemmas.{tracks_begin}
use Rattle.channel_core.proofs.end.End.shut.Goals as goal

pub close_parts-requires : goal.close_parts-requires
close_parts-requires c =
    let v = seen_in c.self.inside in
    let f = c.args.farewell in
    let out = c.self.inside.out in
    let mid = c.reserve.new.self in
    let next : next_kind v ≡ Some (kind.Farewell f) = ap next_kind c.self.view_is ∙ c.requires in
    let ok : is_err c.reserve.result ≡ false = sym c.if-is_err.ensures.value in
    let says : c.push_line.new.self ≡ with_line mid (line_at v.end.side (farewell_line f)) = c.push_line.ensures ∙ ap (λ (w : What). with_line mid (line_at v.end.side w)) c.line_of.ensures in
    let lines : out.lines_owed + 1 ≤ mid.line_spare = when_ok c.reserve.result (out.lines_owed + 1 ≤ mid.line_spare) ok c.reserve.ensures.lines in
    shut_lines v f next out mid c.push_line.new.self c.self.invariant lines (ap (λ (g : OutputView). g.line_spare) says)

pub invariant_of-self-2 : goal.invariant_of-self-2
invariant_of-self-2 c =
    let v = seen_in c.self.inside in
    let f = c.args.farewell in
    let out = c.self.inside.out in
    let mid = c.reserve.new.self in
    let next : next_kind v ≡ Some (kind.Farewell f) = ap next_kind c.self.view_is ∙ c.requires in
    let ok : is_err c.reserve.result ≡ false = sym c.if-is_err.ensures.value in
    let says : c.push_line.new.self ≡ with_line mid (line_at v.end.side (farewell_line f)) = c.push_line.ensures ∙ ap (λ (w : What). with_line mid (line_at v.end.side w)) c.line_of.ensures in
    let lines : out.lines_owed + 1 ≤ mid.line_spare = when_ok c.reserve.result (out.lines_owed + 1 ≤ mid.line_spare) ok c.reserve.ensures.lines in
    let done = c.close_parts.new.out in
    let actors = c.close_parts.new.tree in
    let promises = c.close_parts.new.promises in
    let names = c.close_parts.new.names.names in
    let items = c.clear.new.self.items in
    let paid = c.pay.new.self in
    let counted : c.saturating_sub.result ≡ c.push_line.new.self.line_spare - done.line_spare = c.saturating_sub.ensures ∙ rw (c.line_spare-before.ensures, c.line_spare.ensures) refl in
    let h : CodeShuts v f out mid c.push_line.new.self actors promises names items done paid = record {
      same = c.reserve.ensures.same;
      lines = lines;
      says = says;
      shuts = subst (λ (d : Destroy). HasClosed v.end.side d v.end.actors v.end.promises c.push_line.new.self actors promises done) c.reason_of.ensures c.close_parts.ensures.parts;
      releases = c.close_parts.ensures.names;
      pays = c.pay.ensures ∙ ap (λ (n : ℕ). record done { lines_owed = done.lines_owed - n }) counted;
      nothing_arrived = c.clear.ensures.items;
    } in
    let e = shut_with v.end actors promises names items paid in
    let made = shuts v f next out mid c.push_line.new.self actors promises names items done paid (tracks_begin v out refl refl refl c.self.invariant) h in
    made_inside v [] event.take e out paid made c.self.invariant c.self.invariant.kept.few tt (shut_room v f next out mid c.push_line.new.self actors promises names items done paid refl c.self.invariant h)

pub returns : goal.returns
returns c =
    let v = seen_in c.self.inside in
    let f = c.args.farewell in
    let out = c.self.inside.out in
    let mid = c.reserve.new.self in
    let next : next_kind v ≡ Some (kind.Farewell f) = ap next_kind c.self.view_is ∙ c.requires in
    let ok : is_err c.reserve.result ≡ false = sym c.if-is_err.ensures.value in
    let says : c.push_line.new.self ≡ with_line mid (line_at v.end.side (farewell_line f)) = c.push_line.ensures ∙ ap (λ (w : What). with_line mid (line_at v.end.side w)) c.line_of.ensures in
    let lines : out.lines_owed + 1 ≤ mid.line_spare = when_ok c.reserve.result (out.lines_owed + 1 ≤ mid.line_spare) ok c.reserve.ensures.lines in
    let done = c.close_parts.new.out in
    let actors = c.close_parts.new.tree in
    let promises = c.close_parts.new.promises in
    let names = c.close_parts.new.names.names in
    let items = c.clear.new.self.items in
    let paid = c.pay.new.self in
    let counted : c.saturating_sub.result ≡ c.push_line.new.self.line_spare - done.line_spare = c.saturating_sub.ensures ∙ rw (c.line_spare-before.ensures, c.line_spare.ensures) refl in
    let h : CodeShuts v f out mid c.push_line.new.self actors promises names items done paid = record {
      same = c.reserve.ensures.same;
      lines = lines;
      says = says;
      shuts = subst (λ (d : Destroy). HasClosed v.end.side d v.end.actors v.end.promises c.push_line.new.self actors promises done) c.reason_of.ensures c.close_parts.ensures.parts;
      releases = c.close_parts.ensures.names;
      pays = c.pay.ensures ∙ ap (λ (n : ℕ). record done { lines_owed = done.lines_owed - n }) counted;
      nothing_arrived = c.clear.ensures.items;
    } in
    let e = shut_with v.end actors promises names items paid in
    let made = shuts v f next out mid c.push_line.new.self actors promises names items done paid (tracks_begin v out refl refl refl c.self.invariant) h in
    let told : IsKindOf (kind_of v) answer.Shut = subst (λ (k : TakeKind). IsKindOf k answer.Shut) (sym (shut_kind v f next)) tt in
    subst (λ (s : EndView). TakeGives s answer.Shut (seen_as v e paid)) c.self.view_is (told, made_step v [] event.take e paid made)
