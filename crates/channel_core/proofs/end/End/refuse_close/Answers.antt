use Rattle.std.proofs.Common.{◌≡◌, true, Bool, [], Option, Some, refl, sym, ap, subst, ◌∙◌}
use Rattle.ipdl_base.specs.declared.kinds.SendRefusal.{SendRefusal}
use Rattle.ipdl_base.specs.declared.line.What.TheVariants as what
use Rattle.channel_model.specs.Acts.{close, close_unless, close_refusal}
use Rattle.channel_model.specs.Events as event
use Rattle.channel_model.specs.Outputs.{beginning, line, line_at}
use Rattle.channel_model.specs.Sends.{may_act}
use Rattle.channel_model.specs.Steps.{step, provided}
use Rattle.channel_core.specs.EndView.{EndView}
use Rattle.channel_core.specs.Steps.{IsStep}
use Rattle.channel_core.proofs.ActLemmas.{acted_end, said-acts, said-pushed}
use Rattle.channel_core.proofs.EndViews.{seen_in}
use Rattle.channel_core.proofs.MadeLemmas.{seen_as}
use Rattle.channel_core.proofs.TrackLemmas.{tracks_begin}
use Rattle.channel_core.proofs.end.End.refuse_close.Goals as goal

pub returns-in-Ok : goal.returns-in-Ok
returns-in-Ok c =
    let v = seen_in c.self.inside in
    let out = c.self.inside.out in
    let out' = c.push_line.new.self in
    let may : may_act v.end ≡ true = subst (λ (s : EndView). may_act s.end ≡ true) (sym c.self.view_is) c.requires.may in
    let refused : close_refusal v.end ≡ Some c.args.cause = subst (λ (s : EndView). close_refusal s.end ≡ Some c.args.cause) (sym c.self.view_is) c.requires.refused in
    let steps : step v.schema v.end [] event.close ≡ Some (line (what.RefusedClose c.args.cause) (beginning v.end)) =
    ap (λ (p : Bool). provided p (close v.end) v.end) may ∙ ap (λ (r : Option SendRefusal). Some (close_unless r (beginning v.end))) refused in
    let h = said-pushed (line_at v.end.side (what.RefusedClose c.args.cause)) out c.reserve.new.self out' c.reserve.ensures.same c.in-Ok.ensures.lines c.reserve.ensures.more_packets c.push_line.ensures in
    let acts = said-acts v event.close (what.RefusedClose c.args.cause) out out' steps (tracks_begin v out refl refl refl c.self.invariant) c.self.invariant h in
    (c.requires.refused, subst (λ (s : EndView). IsStep s event.close (seen_as v (acted_end v v.end.stack v.end.names out') out')) c.self.view_is acts.steps)
