use Rattle.std.proofs.Common.{◌≡◌, ℕ, Some, refl, sym, ap, subst, ◌∙◌, option_map}
use Rattle.ipdl_base.specs.declared.line.What.TheVariants as what
use Rattle.ipdl_base.specs.Plain.{plain_values}
use Rattle.channel_model.specs.Events as event
use Rattle.channel_model.specs.Outputs.{line_at}
use Rattle.channel_model.proofs.SendParts.{request-number}
use Rattle.end_parts.specs.OutputView.{with_line}
use Rattle.channel_core.specs.Answers.{refusal_of_send}
use Rattle.channel_core.specs.EndView.{EndView}
use Rattle.channel_core.specs.Steps.{IsStep, MaySend}
use Rattle.channel_core.proofs.AcceptLemmas.{refuse_steps}
use Rattle.channel_core.proofs.ActLemmas.{acted_end, said-acts, said-pushed}
use Rattle.channel_core.proofs.EndViews.{seen_in}
use Rattle.channel_core.proofs.MadeLemmas.{seen_as}
use Rattle.channel_core.proofs.TrackLemmas.{tracks_begin}
use Rattle.channel_core.proofs.end.End.refuse_send.Goals as goal

pub returns-in-Ok : goal.returns-in-Ok
returns-in-Ok c =
    let v = seen_in c.self.inside in
    let out = c.self.inside.out in
    let out' = c.push_line.new.self in
    let vs = plain_values c.args.values.now in
    let name = option_map (λ n. n.now) c.args.name in
    let may : MaySend v c.args.number vs name = subst (λ (s : EndView). MaySend s c.args.number vs name) (sym c.self.view_is) c.requires.may in
    let refused : refusal_of_send v c.args.route c.args.number vs ≡ Some c.args.cause = subst (λ (s : EndView). refusal_of_send s c.args.route c.args.number vs ≡ Some c.args.cause) (sym c.self.view_is) c.requires.refused in
    let number : c.args.number ≡ may.row.number = sym (request-number v.schema c.args.number may.row may.found).0 in
    let says : out' ≡ with_line c.reserve.new.self (line_at v.end.side (what.RefusedSend c.args.cause may.row.number)) = c.push_line.ensures ∙ ap (λ (n : ℕ). with_line c.reserve.new.self (line_at v.end.side (what.RefusedSend c.args.cause n))) number in
    let happened = event.send c.args.route c.args.number vs name in
    let h = said-pushed (line_at v.end.side (what.RefusedSend c.args.cause may.row.number)) out c.reserve.new.self out' c.reserve.ensures.same c.in-Ok.ensures.lines c.reserve.ensures.more_packets says in
    let acts = said-acts v happened (what.RefusedSend c.args.cause may.row.number) out out' (refuse_steps v c.args.route c.args.number vs name c.args.cause may refused) (tracks_begin v out refl refl refl c.self.invariant) c.self.invariant h in
    (c.requires.refused, subst (λ (s : EndView). IsStep s happened (seen_as v (acted_end v v.end.stack v.end.names out') out')) c.self.view_is acts.steps)
