use Rattle.std.proofs.Common.{◌≡◌, true, Bool, cond, [], refl, sym, ap, subst, ◌∙◌, arith}
use Rattle.channel_model.specs.Acts.{may_die}
use Rattle.channel_model.specs.Events as event
use Rattle.end_parts.specs.declared.packet.Packet.TheVariants.{Broken}
use Rattle.end_parts.specs.OutputView.{with_packet}
use Rattle.channel_core.specs.EndView.{EndView}
use Rattle.channel_core.specs.Steps.{IsStep}
use Rattle.channel_core.proofs.DieLemmas.{CodeDies, dead, dies, die_room, has_line}
use Rattle.channel_core.proofs.EndViews.{seen_in}
use Rattle.channel_core.proofs.MadeLemmas.{seen_as, made_step, made_inside}
use Rattle.channel_core.proofs.TrackLemmas.{tracks_begin}
use Rattle.channel_core.proofs.end.End.die.Goals as goal

pub push_line-requires : goal.push_line-requires
push_line-requires c =
    let v = seen_in c.self.inside in
    let may : may_die v.end ≡ true = subst (λ (s : EndView). may_die s.end ≡ true) (sym c.self.view_is) c.requires in
    omega (arith, has_line v c.self.inside.out may c.self.invariant)

pub invariant_of-self : goal.invariant_of-self
invariant_of-self c =
    let v = seen_in c.self.inside in
    let out = c.self.inside.out in
    let items = c.clear-2.new.self.items in
    let stack = c.clear.new.self in
    let out' = c.put_mark.new.self in
    let may : may_die v.end ≡ true = subst (λ (s : EndView). may_die s.end ≡ true) (sym c.self.view_is) c.requires in
    let d : CodeDies v.end out c.push_line.new.self c.pay.new.self out' items stack = record { says = c.push_line.ensures; pays = c.pay.ensures; marks = c.put_mark.ensures ∙ ap (λ (b : Bool). cond b (with_packet c.pay.new.self Broken) c.pay.new.self) c.is_open.ensures; nothing_arrived = c.clear-2.ensures.items; no_frame = c.clear.ensures } in
    let made = dies v out c.push_line.new.self c.pay.new.self out' items stack may (tracks_begin v out refl refl refl c.self.invariant) d in
    made_inside v [] event.die (dead v.end out' items stack) out out' made c.self.invariant c.self.invariant.kept.few tt (die_room v out c.push_line.new.self c.pay.new.self out' items stack may refl d c.self.invariant)

pub returns : goal.returns
returns c =
    let v = seen_in c.self.inside in
    let out = c.self.inside.out in
    let items = c.clear-2.new.self.items in
    let stack = c.clear.new.self in
    let out' = c.put_mark.new.self in
    let may : may_die v.end ≡ true = subst (λ (s : EndView). may_die s.end ≡ true) (sym c.self.view_is) c.requires in
    let d : CodeDies v.end out c.push_line.new.self c.pay.new.self out' items stack = record { says = c.push_line.ensures; pays = c.pay.ensures; marks = c.put_mark.ensures ∙ ap (λ (b : Bool). cond b (with_packet c.pay.new.self Broken) c.pay.new.self) c.is_open.ensures; nothing_arrived = c.clear-2.ensures.items; no_frame = c.clear.ensures } in
    let made = dies v out c.push_line.new.self c.pay.new.self out' items stack may (tracks_begin v out refl refl refl c.self.invariant) d in
    let w : EndView = seen_as v (dead v.end out' items stack) out' in
    subst (λ (s : EndView). IsStep s event.die w) c.self.view_is (made_step v [] event.die (dead v.end out' items stack) out' made)
