-- The halves of a relay have not started each other: no step leads out of where both would have waited.
use Rattle.std.proofs.Common.{◌≡◌, ◌⊎◌, inl, inr, ◌≤◌, ◌+◌, List, [], ◌∷◌, ◌++◌, length, refl, sym, ap, subst, ◌∙◌, arith}
use Rattle.std.proofs.lemmas.List.{length-append}
use Rattle.ipdl_base.specs.declared.kinds.Side.{Side}
use Rattle.ipdl_base.specs.declared.kinds.Side.TheVariants as sides
use Rattle.channel_model.specs.Ends.{Packet}
use Rattle.ipdl_base.specs.Sides.{other}
use Rattle.script_steps.specs.Choices.{Setting}
use Rattle.relay_runs.specs.HalfRuns.{HalfState}
use Rattle.relay_runs.specs.RelaySteps.{IsRelay, LeadsOn, RelayState, RelayStep, half_of, opening_relay, stays, steps}
use Rattle.relay_history.specs.HalfSteps.{HalfLeads, HalfStep, acts, gets, goes, rests}
use Rattle.law_statements.specs.Prefix.{IsPrefix}
use Rattle.relay_history.specs.Starts.{HasWaitedAt, HaveStartedEachOther}
use Rattle.relay_history.proofs.HalfSteps.{FirstStep, first-step, half-once, half-steps, half-trans, leads-came, never-back}
use Rattle.relay_history.proofs.InOrder.{came-there, run-order}
use Rattle.relay_runs.proofs.TurnSteps.{after-steps}
use Rattle.relay_history.proofs.SameSteps.{Goes, prefix-same, prefix-trans, leads-earlier, step-goes}
use Rattle.relay_runs.proofs.Sides.{by-sides}

step-sent : (setting : Setting) (side : Side) (half next : HalfState) → HalfStep setting side half next → IsPrefix half.sent next.sent
step-sent setting side half _ (acts own output within is_own is) = (output.packets, refl)
step-sent setting side half _ (gets packet output within none opened is) = (output.packets, refl)

pub leads-sent : (setting : Setting) (side : Side) (from last : HalfState) → HalfLeads setting side from last → IsPrefix from.sent last.sent
leads-sent setting side from _ rests = prefix-same from.sent
leads-sent setting side from _ (goes half next h step) = prefix-trans from.sent half.sent next.sent (leads-sent setting side from half h) (step-sent setting side half next step)

-- a prefix is at most as long as the whole
pub prefix-length : (xs ys : List Packet) → IsPrefix xs ys → length xs ≤ length ys
prefix-length xs ys h =
    let e : length ys ≡ length xs + length h.0 = ap length h.1 ∙ length-append xs h.0 in
    omega (arith, e)

pub one-longer : (xs : List Packet) (x : Packet) → length (xs ++ x ∷ []) ≡ length xs + 1
one-longer xs x = length-append xs (x ∷ [])

module _ (setting : Setting) (last : RelayState) (started : HaveStartedEachOther setting last) where
  before : RelayState
  before = started.before

  abbrev NotBeyond : RelayState → Type 0
  NotBeyond state = (side : Side) → HalfLeads setting side (half_of side state) (half_of side started.before)

  module _ (side : Side) (state next : RelayState) (run : IsRelay setting state) (step : RelayStep setting side state next) (leads : LeadsOn setting next last) (h : NotBeyond state) where
    w : HasWaitedAt setting side (half_of side last) (half_of side started.before)
    w = started.waited side

    came-last : IsPrefix (half_of side next).came (half_of side last).came
    came-last = (leads-earlier setting next last leads side).came

    own : HalfStep setting side (half_of side state) (half_of side next)
    own = half-steps setting side state next step

    -- a half cannot leave the state in which it waits
    waits-there : half_of side state ≡ half_of side started.before → ⊥
    waits-there same =
        let here : HalfStep setting side (half_of side state) w.next = subst (λ (half : HalfState). HalfStep setting side half w.next) (sym same) w.step in
        let next_is : half_of side next ≡ w.next = half-once setting side (half_of side state) (half_of side next) w.next (half_of side last).came own here came-last (leads-came setting side w.next (half_of side last) w.leads) in
        let came_is : (half_of side next).came ≡ (half_of side started.before).came ++ w.packet ∷ [] = ap (λ (half : HalfState). half.came) next_is ∙ w.comes in
        let prefix : IsPrefix (half_of side next).came (half_of (other side) started.before).sent =
        prefix-trans (half_of side next).came (half_of (other side) state).sent (half_of (other side) started.before).sent (came-there setting side state next step (run-order setting state run side))
        (leads-sent setting (other side) (half_of (other side) state) (half_of (other side) started.before) (h (other side)))
        in
        let few : length (half_of side next).came ≤ length (half_of (other side) started.before).sent = prefix-length (half_of side next).came (half_of (other side) started.before).sent prefix in
        let many : length (half_of side next).came ≡ length (half_of side started.before).came + 1 = ap length came_is ∙ one-longer (half_of side started.before).came w.packet in
        let unsent : length (half_of (other side) started.before).sent ≤ length (half_of side started.before).came = started.unsent side in
        omega (arith, few, many, unsent)

    toward : (half_of side state ≡ half_of side started.before) ⊎ FirstStep setting side (half_of side state) (half_of side started.before) → HalfLeads setting side (half_of side next) (half_of side started.before)
    toward (inl same) = absurd (waits-there same)
    toward (inr f) =
        let reached : HalfLeads setting side f.next (half_of side last) = half-trans setting side f.next (half_of side started.before) (half_of side last) f.leads (half-trans setting side (half_of side started.before) w.next (half_of side last) (goes (half_of side started.before) w.next rests w.step) w.leads) in
        let same : f.next ≡ half_of side next = half-once setting side (half_of side state) f.next (half_of side next) (half_of side last).came f.step own (leads-came setting side f.next (half_of side last) reached) came-last in
        subst (λ (half : HalfState). HalfLeads setting side half (half_of side started.before)) same f.leads

    not-beyond-after : NotBeyond next
    not-beyond-after =
        let g : Goes side state next = step-goes setting side state next step in
        by-sides (λ s. HalfLeads setting s (half_of s next) (half_of s started.before)) side (toward (first-step setting side (half_of side state) (half_of side started.before) (h side)))
        (subst (λ (half : HalfState). HalfLeads setting (other side) half (half_of (other side) started.before)) (sym g.there) (h (other side)))

  all-not-beyond : (state : RelayState) → IsRelay setting state → LeadsOn setting state last → NotBeyond state
  all-not-beyond _ stays leads = by
    where
      by : NotBeyond (opening_relay setting)
      by sides.Parent = (started.waited sides.Parent).begins
      by sides.Child = (started.waited sides.Child).begins
  all-not-beyond _ (steps side state next run step) leads =
      not-beyond-after side state next run step leads (all-not-beyond state run (after-steps setting state next last (steps side state next stays step) leads))

  -- though the parent's half has left it
  beyond : HalfLeads setting sides.Parent last.parent started.before.parent → ⊥
  beyond h =
      let w : HasWaitedAt setting sides.Parent last.parent started.before.parent = started.waited sides.Parent in
      let on : HalfLeads setting sides.Parent started.before.parent w.next = goes started.before.parent w.next rests w.step in
      let same : started.before.parent ≡ w.next = never-back setting sides.Parent started.before.parent w.next on (half-trans setting sides.Parent w.next last.parent started.before.parent w.leads h) in
      let equal : length started.before.parent.came ≡ length started.before.parent.came + 1 = ap (λ (half : HalfState). length half.came) same ∙ ap length w.comes ∙ one-longer started.before.parent.came w.packet in
      omega (arith, equal)

  pub never-started : IsRelay setting last → ⊥
  never-started run = beyond (all-not-beyond last run stays sides.Parent)
