use Rattle.std.proofs.Common.{◌≡◌, ℕ, ◌-◌, true, [], None, refl, sym, ap, subst, ◌∙◌, arith}
use Rattle.channel_model.specs.Acts.{close_refusal}
use Rattle.channel_model.specs.Events as event
use Rattle.channel_model.specs.Sends.{may_act}
use Rattle.end_parts.specs.OutputView.{OutputView}
use Rattle.channel_core.specs.EndView.{EndView}
use Rattle.channel_core.specs.Steps.{IsStep}
use Rattle.channel_core.proofs.CloseLemmas.{CodeCloses, shut_with, closes_now, close_room, closing_room, goodbye_goes, goodbye_framed}
use Rattle.channel_core.proofs.EndViews.{seen_in}
use Rattle.channel_core.proofs.MadeLemmas.{seen_as, made_step, made_inside}
use Rattle.channel_core.proofs.TrackLemmas.{tracks_begin}
use Rattle.channel_core.proofs.end.End.close_now.Goals as goal

pub push_line-requires : goal.push_line-requires
push_line-requires c =
    let v = seen_in c.self.inside in
    let none : close_refusal v.end ≡ None = subst (λ (s : EndView). close_refusal s.end ≡ None) (sym c.self.view_is) c.requires.free in
    omega (arith, closing_room v.schema v.end c.self.inside.out none c.self.invariant)

pub close_parts-requires : goal.close_parts-requires
close_parts-requires c =
    let v = seen_in c.self.inside in
    let none : close_refusal v.end ≡ None = subst (λ (s : EndView). close_refusal s.end ≡ None) (sym c.self.view_is) c.requires.free in
    let gone = goodbye_goes v.schema v.end c.self.inside.out c.push_line.new.self c.put_goodbye.new.self none c.self.invariant c.push_line.ensures c.put_goodbye.ensures in
    let room : c.put_goodbye.new.self.line_spare ≡ c.self.inside.out.line_spare - 1 = ap (λ (g : OutputView). g.line_spare) gone ∙ ap (λ (g : OutputView). g.line_spare) c.push_line.ensures in
    omega (arith, room, closing_room v.schema v.end c.self.inside.out none c.self.invariant)

pub invariant_of-self : goal.invariant_of-self
invariant_of-self c =
    let v = seen_in c.self.inside in
    let out = c.self.inside.out in
    let shut = c.close_parts.new.out in
    let may : may_act v.end ≡ true = subst (λ (s : EndView). may_act s.end ≡ true) (sym c.self.view_is) c.requires.may in
    let none : close_refusal v.end ≡ None = subst (λ (s : EndView). close_refusal s.end ≡ None) (sym c.self.view_is) c.requires.free in
    let counted : c.saturating_sub.result ≡ out.line_spare - shut.line_spare = c.saturating_sub.ensures ∙ rw (c.line_spare-before.ensures, c.line_spare.ensures) refl in
    let h : CodeCloses v.schema v.end out c.push_line.new.self c.put_goodbye.new.self c.close_parts.new.tree c.close_parts.new.promises c.close_parts.new.names.names c.clear.new.self.items shut c.pay.new.self =
    record {
      says = c.push_line.ensures;
      puts = goodbye_goes v.schema v.end out c.push_line.new.self c.put_goodbye.new.self none c.self.invariant c.push_line.ensures c.put_goodbye.ensures;
      shuts = c.close_parts.ensures.parts;
      releases = c.close_parts.ensures.names;
      pays = c.pay.ensures ∙ ap (λ (n : ℕ). record shut { lines_owed = shut.lines_owed - n }) counted;
      nothing_arrived = c.clear.ensures.items;
    } in
    let made = closes_now v out c.push_line.new.self c.put_goodbye.new.self c.close_parts.new.tree c.close_parts.new.promises c.close_parts.new.names.names c.clear.new.self.items shut c.pay.new.self may none (tracks_begin v out refl refl refl c.self.invariant) (goodbye_framed v.schema) h in
    let e = shut_with v.end c.close_parts.new.tree c.close_parts.new.promises c.close_parts.new.names.names c.clear.new.self.items c.pay.new.self in
    let room = close_room v out c.push_line.new.self c.put_goodbye.new.self c.close_parts.new.tree c.close_parts.new.promises c.close_parts.new.names.names c.clear.new.self.items shut c.pay.new.self none h c.self.invariant in
    made_inside v [] event.close e out c.pay.new.self made c.self.invariant c.self.invariant.kept.few tt room

pub returns : goal.returns
returns c =
    let v = seen_in c.self.inside in
    let out = c.self.inside.out in
    let shut = c.close_parts.new.out in
    let may : may_act v.end ≡ true = subst (λ (s : EndView). may_act s.end ≡ true) (sym c.self.view_is) c.requires.may in
    let none : close_refusal v.end ≡ None = subst (λ (s : EndView). close_refusal s.end ≡ None) (sym c.self.view_is) c.requires.free in
    let counted : c.saturating_sub.result ≡ out.line_spare - shut.line_spare = c.saturating_sub.ensures ∙ rw (c.line_spare-before.ensures, c.line_spare.ensures) refl in
    let h : CodeCloses v.schema v.end out c.push_line.new.self c.put_goodbye.new.self c.close_parts.new.tree c.close_parts.new.promises c.close_parts.new.names.names c.clear.new.self.items shut c.pay.new.self =
    record {
      says = c.push_line.ensures;
      puts = goodbye_goes v.schema v.end out c.push_line.new.self c.put_goodbye.new.self none c.self.invariant c.push_line.ensures c.put_goodbye.ensures;
      shuts = c.close_parts.ensures.parts;
      releases = c.close_parts.ensures.names;
      pays = c.pay.ensures ∙ ap (λ (n : ℕ). record shut { lines_owed = shut.lines_owed - n }) counted;
      nothing_arrived = c.clear.ensures.items;
    } in
    let made = closes_now v out c.push_line.new.self c.put_goodbye.new.self c.close_parts.new.tree c.close_parts.new.promises c.close_parts.new.names.names c.clear.new.self.items shut c.pay.new.self may none (tracks_begin v out refl refl refl c.self.invariant) (goodbye_framed v.schema) h in
    let e = shut_with v.end c.close_parts.new.tree c.close_parts.new.promises c.close_parts.new.names.names c.clear.new.self.items c.pay.new.self in
    subst (λ (s : EndView). IsStep s event.close (seen_as v e c.pay.new.self)) c.self.view_is (made_step v [] event.close e c.pay.new.self made)
