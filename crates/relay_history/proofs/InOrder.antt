-- In each relay what came to a side is a prefix of what the other has sent.
use Rattle.std.proofs.Common.{◌≡◌, List, [], ◌∷◌, ◌++◌, drop, length, Some, refl, sym, ap, subst, ◌∙◌, append_assoc}
use Rattle.handler_script.specs.ScriptOf.{first_of}
use Rattle.ipdl_base.specs.declared.kinds.Side.{Side}
use Rattle.ipdl_base.specs.declared.kinds.Side.TheVariants as sides
use Rattle.channel_model.specs.Ends.{Packet}
use Rattle.ipdl_base.specs.Sides.{other}
use Rattle.script_steps.specs.Choices.{Setting}
use Rattle.relay_runs.specs.HalfRuns.{HalfState, after, after_packet, delivered_for}
use Rattle.relay_runs.specs.RelaySteps.{IsRelay, RelayState, RelayStep, acts, gets, half_of, opening_relay, stays, steps}
use Rattle.law_statements.specs.Prefix.{IsPrefix}
use Rattle.relay_history.proofs.OneHistory.{drop-prefix}
use Rattle.relay_history.proofs.SameSteps.{Goes, prefix-trans, step-goes}
use Rattle.relay_runs.proofs.Sides.{by-sides, half-here, twice}

prefix-more : (came waiting : List Packet) (packet : Packet) → first_of waiting ≡ Some packet → (rest : List Packet) × (came ++ waiting ≡ (came ++ packet ∷ []) ++ rest)
prefix-more came [] packet h = cc
prefix-more came (x ∷ rest) packet h = (rest, ap (λ (p : Packet). came ++ p ∷ rest) (same h) ∙ sym (append_assoc came (packet ∷ []) rest))
  where
    same : Some x ≡ Some packet → x ≡ packet
    same h = cc

abbrev pub InOrder : RelayState → Type 0
InOrder state = (side : Side) → IsPrefix (half_of side state).came (half_of (other side) state).sent

pub came-there : (setting : Setting) (side : Side) (state next : RelayState) → RelayStep setting side state next → IsPrefix (half_of side state).came (half_of (other side) state).sent → IsPrefix (half_of side next).came (half_of (other side) state).sent
came-there setting side state _ (acts own output within is_own is) h = subst (λ (half : HalfState). IsPrefix half.came (half_of (other side) state).sent) (sym (half-here side (after (half_of side state) output) state)) h
came-there setting side state _ (gets packet output within none opened next is) h =
    let half : HalfState = half_of side state in
    let f = prefix-more half.came h.0 packet (sym (ap (λ (ps : List Packet). first_of (drop (length half.came) ps)) h.1 ∙ ap first_of (drop-prefix half.came h.0)) ∙ next) in
    subst (λ (half : HalfState). IsPrefix half.came (half_of (other side) state).sent) (sym (half-here side (after_packet half packet (delivered_for setting.schema half.end packet) output) state)) (f.0, h.1 ∙ f.1)

step-order : (setting : Setting) (side : Side) (state next : RelayState) → RelayStep setting side state next → InOrder state → InOrder next
step-order setting side state next step h =
    let g : Goes side state next = step-goes setting side state next step in
    let here : IsPrefix (half_of side next).came (half_of (other side) next).sent = subst (λ (half : HalfState). IsPrefix (half_of side next).came half.sent) (sym g.there) (came-there setting side state next step (h side)) in
    let before : IsPrefix (half_of (other side) state).came (half_of side state).sent = subst (λ (s : Side). IsPrefix (half_of (other side) state).came (half_of s state).sent) (twice side) (h (other side)) in
    let there : IsPrefix (half_of (other side) next).came (half_of side next).sent =
    subst (λ (half : HalfState). IsPrefix half.came (half_of side next).sent) (sym g.there) (prefix-trans (half_of (other side) state).came (half_of side state).sent (half_of side next).sent before g.prefix.sent)
    in
    by-sides (λ s. IsPrefix (half_of s next).came (half_of (other s) next).sent) side here (subst (λ (s : Side). IsPrefix (half_of (other side) next).came (half_of s next).sent) (sym (twice side)) there)

pub run-order : (setting : Setting) (state : RelayState) → IsRelay setting state → InOrder state
run-order setting _ stays = by
  where
    by : InOrder (opening_relay setting)
    by sides.Parent = ([], refl)
    by sides.Child = ([], refl)
run-order setting _ (steps side state next run step) = step-order setting side state next step (run-order setting state run)
