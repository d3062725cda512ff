-- Steps from the beginning toward two halves get there, or come to where each waits for what the other has not sent.
use Rattle.std.proofs.Common.{◌≡◌, ◌⊎◌, inl, inr, ℕ, zero, suc, ◌≤◌, ◌<◌, ◌+◌, List, [], ◌∷◌, ◌++◌, length, refl, sym, ap, subst, ◌∙◌, arith}
use Rattle.ipdl_base.specs.declared.kinds.Side.{Side}
use Rattle.ipdl_base.specs.declared.kinds.Side.TheVariants as sides
use Rattle.channel_model.specs.Ends.{Packet}
use Rattle.ipdl_base.specs.Sides.{other}
use Rattle.script_steps.specs.Choices.{Setting}
use Rattle.relay_runs.specs.HalfRuns.{HalfRun, HalfState, after_packet, delivered_for, opening_half}
use Rattle.relay_runs.specs.HalfRuns as half_run
use Rattle.relay_runs.specs.RelaySteps.{IsRelay, RelayState, RelayStep, half_of, opening_relay, stays, steps, with_half}
use Rattle.relay_runs.specs.Relays.{ComeInOrder, IsHalfRunPair}
use Rattle.relay_history.specs.HalfSteps.{HalfLeads, HalfStep, acts, gets, goes, rests}
use Rattle.relay_history.specs.Laws.{RelaysRunOrStart}
use Rattle.law_statements.specs.Prefix.{IsPrefix}
use Rattle.relay_history.specs.Starts.{HasWaitedAt, HaveStartedEachOther}
use Rattle.relay_history.proofs.HalfSteps.{half-leads, half-trans, leads-came, side-steps}
use Rattle.relay_history.proofs.InOrder.{run-order}
use Rattle.relay_history.proofs.NeverStarted.{prefix-length, leads-sent, never-started, one-longer}
use Rattle.relay_history.proofs.SameSteps.{prefix-trans}
use Rattle.relay_runs.proofs.Sides.{by-sides, half-here, half-there, same-relay}

-- What is left of the steps toward a half, as a list that begins with the next

data Toward (setting : Setting) (side : Side) (target : HalfState) : HalfState → Type 0 where
  there : Toward setting side target target
  first : (half next : HalfState) → HalfStep setting side half next → Toward setting side target next → Toward setting side target half

module _ (setting : Setting) (side : Side) where
  abbrev how-many : (target half : HalfState) → Toward setting side target half → ℕ
  how-many target _ there = 0
  how-many target _ (first half next step rest) = how-many target next rest + 1

  -- at the beginning all of them are left
  turned : (from half target : HalfState) → HalfLeads setting side from half → Toward setting side target half → Toward setting side target from
  turned from _ target rests rest = rest
  turned from _ target (goes half next h step) rest = turned from half target h (first half next step rest)

  led : (target half : HalfState) → Toward setting side target half → HalfLeads setting side half target
  led target _ there = rests
  led target _ (first half next step rest) = half-trans setting side half next target (goes half next rests step) (led target next rest)

half-run-leads : (setting : Setting) (side : Side) (half : HalfState) → HalfRun setting side half → HalfLeads setting side (opening_half setting side) half
half-run-leads setting side _ half_run.begins = rests
half-run-leads setting side _ (half_run.acts half own output run within is_own is) = goes half _ (half-run-leads setting side half run) (acts own output within is_own is)
half-run-leads setting side _ (half_run.gets half packet output run within none opened fits is) = goes half _ (half-run-leads setting side half run) (gets packet output within none opened is)

-- Of two prefixes of one list the first is one of the second, or is longer

tail-same : (x y : Packet) (xs ys : List Packet) → x ∷ xs ≡ y ∷ ys → xs ≡ ys
tail-same x y xs ys h = cc

head-same : (x y : Packet) (xs ys : List Packet) → x ∷ xs ≡ y ∷ ys → x ≡ y
head-same x y xs ys h = cc

prefixes-compare : (xs ys more rest : List Packet) → xs ++ more ≡ ys ++ rest → IsPrefix xs ys ⊎ (length ys < length xs)
prefixes-compare [] ys more rest h = inl (ys, refl)
prefixes-compare (x ∷ xs) [] more rest h = inr (omega arith)
prefixes-compare (x ∷ xs) (y ∷ ys) more rest h = by (prefixes-compare xs ys more rest (tail-same x y (xs ++ more) (ys ++ rest) h))
  where
    by : IsPrefix xs ys ⊎ (length ys < length xs) → IsPrefix (x ∷ xs) (y ∷ ys) ⊎ (length (y ∷ ys) < length (x ∷ xs))
    by (inl prefix) = inl (prefix.0, ap (λ (p : Packet). p ∷ ys) (sym (head-same x y (xs ++ more) (ys ++ rest) h)) ∙ ap (λ (ps : List Packet). x ∷ ps) prefix.1)
    by (inr few) = inr (omega (arith, few))

module _ (setting : Setting) (target : RelayState) (comes : (side : Side) → ComeInOrder side target) where
  -- A side has this number of steps left toward its target.
  record Still (side : Side) (state : RelayState) (many : ℕ) : Type 0 where
    half : HalfState
    same : half_of side state ≡ half
    toward : Toward setting side (half_of side target) half
    counted : how-many setting side (half_of side target) half toward ≡ many

  -- The next step of a side is to get a packet that the other has not sent yet.
  record Waits (side : Side) (state : RelayState) : Type 0 where
    next : HalfState
    packet : Packet
    step : HalfStep setting side (half_of side state) next
    is : next.came ≡ (half_of side state).came ++ packet ∷ []
    leads : HalfLeads setting side next (half_of side target)
    unsent : length (half_of (other side) state).sent ≤ length (half_of side state).came

  -- The next step of a side can be done, and then one less is left.
  record Further (side : Side) (state : RelayState) (many : ℕ) : Type 0 where
    next : HalfState
    step : RelayStep setting side state (with_half side next state)
    left : ℕ
    still : Still side (with_half side next state) left
    fewer : left + 1 ≡ many

  data Tried (side : Side) (state : RelayState) (many : ℕ) : Type 0 where
    whole : half_of side state ≡ half_of side target → Tried side state many
    further : Further side state many → Tried side state many
    waits : Waits side state → Tried side state many

  wait-so : (side : Side) (state : RelayState) (half next : HalfState) → half_of side state ≡ half → IsRelay setting state → HalfStep setting side half next → HalfLeads setting side next (half_of side target) → length (half_of (other side) state).sent < length next.came
      → Waits side state
  wait-so side state half _ same run (acts own output within is_own is) leads few =
      let order : length (half_of side state).came ≤ length (half_of (other side) state).sent = prefix-length (half_of side state).came (half_of (other side) state).sent (run-order setting state run side) in
      let equal : length (half_of side state).came ≡ length half.came = ap (λ (h : HalfState). length h.came) same in
      absurd (omega (arith, order, equal, few))
  wait-so side state half _ same run (gets packet output within none opened is) leads few =
      let next : HalfState = after_packet half packet (delivered_for setting.schema half.end packet) output in
      let longer : length (half.came ++ packet ∷ []) ≡ length half.came + 1 = one-longer half.came packet in
      let equal : length (half_of side state).came ≡ length half.came = ap (λ (h : HalfState). length h.came) same in
      record {
        next = next;
        packet = packet;
        step = subst (λ (h : HalfState). HalfStep setting side h next) (sym same) (gets packet output within none opened is);
        is = ap (λ (h : HalfState). h.came ++ packet ∷ []) (sym same);
        leads = leads;
        unsent = omega (arith, longer, equal, few);
      }

  -- a side is at its target, or its next step can be done, or it waits
  try-at : (side : Side) (state : RelayState) (half : HalfState) (many : ℕ) → half_of side state ≡ half → IsRelay setting state → (toward : Toward setting side (half_of side target) half) → how-many setting side (half_of side target) half toward ≡ many
      → IsPrefix (half_of (other side) state).sent (half_of (other side) target).sent → Tried side state many
  try-at side state _ many same run there counted sent = whole same
  try-at side state _ many same run (first half next step rest) counted sent = by (prefixes-compare next.came (half_of (other side) state).sent came.0 sent.0 (sym came.1 ∙ sent.1))
    where
      leads : HalfLeads setting side next (half_of side target)
      leads = led setting side (half_of side target) next rest

      came : IsPrefix next.came (half_of (other side) target).sent
      came = prefix-trans next.came (half_of side target).came (half_of (other side) target).sent (leads-came setting side next (half_of side target) leads) (comes side)

      by : IsPrefix next.came (half_of (other side) state).sent ⊎ (length (half_of (other side) state).sent < length next.came) → Tried side state many
      by (inr few) = waits (wait-so side state half next same run step leads few)
      by (inl prefix) = further (record {
        next = next;
        step = side-steps setting side state next (subst (λ (h : HalfState). HalfStep setting side h next) (sym same) step) prefix;
        left = how-many setting side (half_of side target) next rest;
        still = record { half = next; same = half-here side next state; toward = rest; counted = refl };
        fewer = counted;
      })

  sent-still : (side : Side) (state : RelayState) (many : ℕ) → Still side state many → IsPrefix (half_of side state).sent (half_of side target).sent
  sent-still side state many still =
      subst (λ (half : HalfState). IsPrefix half.sent (half_of side target).sent) (sym still.same)
      (leads-sent setting side still.half (half_of side target) (led setting side (half_of side target) still.half still.toward))

  try : (side : Side) (state : RelayState) (many others : ℕ) → IsRelay setting state → Still side state many → Still (other side) state others → Tried side state many
  try side state many others run still across = try-at side state still.half many still.same run still.toward still.counted (sent-still (other side) state others across)

  still-there : (side : Side) (state : RelayState) (next : HalfState) (many : ℕ) → Still (other side) state many → Still (other side) (with_half side next state) many
  still-there side state next many still = record { half = still.half; same = half-there side next state ∙ still.same; toward = still.toward; counted = still.counted }

  -- no side waits where the other is at its target
  none-waits : (side : Side) (state : RelayState) → half_of (other side) state ≡ half_of (other side) target → Waits side state → ⊥
  none-waits side state is w =
      let prefix : IsPrefix w.next.came (half_of (other side) state).sent =
      subst (λ (half : HalfState). IsPrefix w.next.came half.sent) (sym is)
      (prefix-trans w.next.came (half_of side target).came (half_of (other side) target).sent (leads-came setting side w.next (half_of side target) w.leads) (comes side))
      in
      let few : length w.next.came ≤ length (half_of (other side) state).sent = prefix-length w.next.came (half_of (other side) state).sent prefix in
      let many : length w.next.came ≡ length (half_of side state).came + 1 = ap length w.is ∙ one-longer (half_of side state).came w.packet in
      let unsent : length (half_of (other side) state).sent ≤ length (half_of side state).came = w.unsent in
      omega (arith, few, many, unsent)

  waited-so : (side : Side) (state : RelayState) → IsRelay setting state → Waits side state → HasWaitedAt setting side (half_of side target) (half_of side state)
  waited-so side state run w = record { begins = begins-so side; next = w.next; packet = w.packet; step = w.step; comes = w.is; leads = w.leads }
    where
      begins-so : (side : Side) → HalfLeads setting side (opening_half setting side) (half_of side state)
      begins-so sides.Parent = half-leads setting sides.Parent (opening_relay setting) state run
      begins-so sides.Child = half-leads setting sides.Child (opening_relay setting) state run

  both-wait : (state : RelayState) → IsRelay setting state → Waits sides.Parent state → Waits sides.Child state → HaveStartedEachOther setting target
  both-wait state run p c = record {
    before = state;
    waited = by-sides (λ s. HasWaitedAt setting s (half_of s target) (half_of s state)) sides.Parent (waited-so sides.Parent state run p) (waited-so sides.Child state run c);
    unsent = by-sides (λ s. length (half_of (other s) state).sent ≤ length (half_of s state).came) sides.Parent p.unsent c.unsent;
  }

  go : (fuel : ℕ) (state : RelayState) (p c : ℕ) → IsRelay setting state → Still sides.Parent state p → Still sides.Child state c → p + c < fuel → IsRelay setting target ⊎ HaveStartedEachOther setting target
  go zero state p c run parent child few = absurd (omega (arith, few))
  go (suc fuel) state p c run parent child few =
      by (try sides.Parent state p c run parent child) (try sides.Child state c p run child parent)
      (λ next left step still fewer. go fuel (with_half sides.Parent next state) left c (steps sides.Parent state (with_half sides.Parent next state) run step) still (still-there sides.Parent state next c child) (omega (arith, few, fewer)))
      (λ next left step still fewer. go fuel (with_half sides.Child next state) p left (steps sides.Child state (with_half sides.Child next state) run step) (still-there sides.Child state next p parent) still (omega (arith, few, fewer)))
    where
      by : Tried sides.Parent state p → Tried sides.Child state c
          → ((next : HalfState) (left : ℕ) → RelayStep setting sides.Parent state (with_half sides.Parent next state) → Still sides.Parent (with_half sides.Parent next state) left → left + 1 ≡ p → IsRelay setting target ⊎ HaveStartedEachOther setting target)
          → ((next : HalfState) (left : ℕ) → RelayStep setting sides.Child state (with_half sides.Child next state) → Still sides.Child (with_half sides.Child next state) left → left + 1 ≡ c → IsRelay setting target ⊎ HaveStartedEachOther setting target)
          → IsRelay setting target ⊎ HaveStartedEachOther setting target
      by (further f) second h k = h f.next f.left f.step f.still f.fewer
      by (whole is) (further f) h k = k f.next f.left f.step f.still f.fewer
      by (waits w) (further f) h k = k f.next f.left f.step f.still f.fewer
      by (whole is) (whole also) h k = inl (subst (IsRelay setting) (same-relay state target (by-sides (λ s. half_of s state ≡ half_of s target) sides.Parent is also)) run)
      by (whole is) (waits w) h k = absurd (none-waits sides.Child state is w)
      by (waits w) (whole also) h k = absurd (none-waits sides.Parent state also w)
      by (waits w) (waits v) h k = inr (both-wait state run w v)

  pub either-so : HalfLeads setting sides.Parent (opening_half setting sides.Parent) target.parent → HalfLeads setting sides.Child (opening_half setting sides.Child) target.child → IsRelay setting target ⊎ HaveStartedEachOther setting target
  either-so parent child =
      let p : Toward setting sides.Parent target.parent (opening_half setting sides.Parent) =
      turned setting sides.Parent (opening_half setting sides.Parent) target.parent target.parent parent there
      in
      let c : Toward setting sides.Child target.child (opening_half setting sides.Child) =
      turned setting sides.Child (opening_half setting sides.Child) target.child target.child child there
      in
      let m : ℕ = how-many setting sides.Parent target.parent (opening_half setting sides.Parent) p in
      let n : ℕ = how-many setting sides.Child target.child (opening_half setting sides.Child) c in
      go (m + n + 1) (opening_relay setting) m n stays (record { half = opening_half setting sides.Parent; same = refl; toward = p; counted = refl }) (record { half = opening_half setting sides.Child; same = refl; toward = c; counted = refl }) (omega arith)

relay-order : (setting : Setting) (state : RelayState) → IsHalfRunPair setting state → (side : Side) → ComeInOrder side state
relay-order setting state relay sides.Parent = relay.to_parent
relay-order setting state relay sides.Child = relay.to_child

pub relays_run_or_start : RelaysRunOrStart
relays_run_or_start setting state = record {
  either = λ relay. either-so setting state (relay-order setting state relay) (half-run-leads setting sides.Parent state.parent relay.parent_runs) (half-run-leads setting sides.Child state.child relay.child_runs);
  not_both = λ run started. never-started setting state started run;
}
