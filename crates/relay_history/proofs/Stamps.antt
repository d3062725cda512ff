-- Halves with stamps have not started each other: each would have a stamp below the other's.
use Rattle.std.proofs.Common.{◌≡◌, ◌⊎◌, inl, inr, ℕ, ◌≤◌, ◌<◌, ◌+◌, List, [], ◌∷◌, ◌++◌, length, refl, sym, ap, subst, ◌∙◌, append_assoc, arith}
use Rattle.std.specs.List.{AllByRecursion}
use Rattle.std.proofs.lemmas.List.{length-append}
use Rattle.ipdl_base.specs.declared.kinds.Side.{Side}
use Rattle.ipdl_base.specs.declared.kinds.Side.TheVariants as sides
use Rattle.channel_model.specs.Ends.{Packet}
use Rattle.ipdl_base.specs.Sides.{other}
use Rattle.channel_model.proofs.Known.{all-append}
use Rattle.script_steps.specs.Choices.{Setting}
use Rattle.relay_runs.specs.HalfRuns.{HalfState, after, after_packet, delivered_for, opening_half}
use Rattle.relay_runs.specs.RelaySteps.{IsRelay, RelayState, half_of}
use Rattle.relay_history.specs.HalfSteps.{HalfLeads, HalfStep, goes, rests}
use Rattle.relay_history.specs.HalfSteps as halves
use Rattle.relay_history.specs.Laws.{StampedRelaysRun}
use Rattle.law_statements.specs.Prefix.{IsPrefix}
use Rattle.relay_history.specs.Stamps.{IsAbove, IsStampedRelay, StampedHalf, acts, begins, gets}
use Rattle.relay_history.specs.Starts.{HasWaitedAt, HaveStartedEachOther}
use Rattle.relay_history.proofs.HalfSteps.{FirstStep, first-step, half-once, half-trans, leads-came, never-back, step-new}
use Rattle.relay_history.proofs.NeverStarted.{one-longer}
use Rattle.relay_history.proofs.SameSteps.{prefix-trans}
use Rattle.relay_runs.proofs.Sides.{twice}
use Rattle.relay_history.proofs.Starts.{either-so}

module _ (setting : Setting) (side : Side) where
  -- of two states on the way to one, steps lead from one to the other
  in-order : (from one two last : HalfState) → HalfLeads setting side from one → HalfLeads setting side from two → IsPrefix one.came last.came → IsPrefix two.came last.came → HalfLeads setting side one two ⊎ HalfLeads setting side two one
  in-order from _ two last rests k f g = inl k
  in-order from _ two last (goes half next h step) k f g = by (in-order from half two last h k before g)
    where
      one-step : HalfLeads setting side half next
      one-step = goes half next rests step

      before : IsPrefix half.came last.came
      before = prefix-trans half.came next.came last.came (leads-came setting side half next one-step) f

      on : (half ≡ two) ⊎ FirstStep setting side half two → HalfLeads setting side next two ⊎ HalfLeads setting side two next
      on (inl same) = inr (subst (λ (x : HalfState). HalfLeads setting side x next) same one-step)
      on (inr s) =
          let same : s.next ≡ next = half-once setting side half s.next next last.came s.step step (prefix-trans s.next.came two.came last.came (leads-came setting side s.next two s.leads) g) f in
          inl (subst (λ (x : HalfState). HalfLeads setting side x two) same s.leads)

      by : HalfLeads setting side half two ⊎ HalfLeads setting side two half → HalfLeads setting side next two ⊎ HalfLeads setting side two next
      by (inl leads) = on (first-step setting side half two leads)
      by (inr leads) = inr (goes half next leads step)

  stamped-leads : (half : HalfState) (sent came : List ℕ) → StampedHalf setting side half sent came → HalfLeads setting side (opening_half setting side) half
  stamped-leads _ _ _ begins = rests
  stamped-leads _ _ _ (acts half sent came new own output run within is_own is many above) = goes half (after half output) (stamped-leads half sent came run) (halves.acts own output within is_own is)
  stamped-leads _ _ _ (gets half sent came new packet stamp output run within none opened is many above) =
      goes half (after_packet half packet (delivered_for setting.schema half.end packet) output) (stamped-leads half sent came run) (halves.gets packet output within none opened is)

  -- as many stamps as packets
  both-lengths : (xs ys : List ℕ) (ps qs : List Packet) → length xs ≡ length ps → length ys ≡ length qs → length (xs ++ ys) ≡ length (ps ++ qs)
  both-lengths xs ys ps qs h k =
      let a = length-append xs ys in
      let b = length-append ps qs in
      omega (arith, a, b, h, k)

  sent-many : (half : HalfState) (sent came : List ℕ) → StampedHalf setting side half sent came → length sent ≡ length half.sent
  sent-many _ _ _ begins = refl
  sent-many _ _ _ (acts half sent came new own output run within is_own is many above) = both-lengths sent new half.sent output.packets (sent-many half sent came run) many
  sent-many _ _ _ (gets half sent came new packet stamp output run within none opened is many above) = both-lengths sent new half.sent output.packets (sent-many half sent came run) many

  came-many : (half : HalfState) (sent came : List ℕ) → StampedHalf setting side half sent came → length came ≡ length half.came
  came-many _ _ _ begins = refl
  came-many _ _ _ (acts half sent came new own output run within is_own is many above) = came-many half sent came run
  came-many _ _ _ (gets half sent came new packet stamp output run within none opened is many above) = both-lengths came (stamp ∷ []) half.came (packet ∷ []) (came-many half sent came run) refl

  -- A half waited in a state for a packet: what it has sent after that has stamps above the packet's.
  record IsSince (before : HalfState) (sent came : List ℕ) : Type 0 where
    early : List ℕ
    late : List ℕ
    first : List ℕ
    stamp : ℕ
    more : List ℕ
    sent_is : sent ≡ early ++ late
    came_is : came ≡ first ++ stamp ∷ more
    sent_then : length early ≡ length before.sent
    came_then : length first ≡ length before.came
    above : AllByRecursion (λ n. stamp < n) late

-- Lists of numbers that are above one

above-middle : (first more : List ℕ) (stamp n : ℕ) → IsAbove (first ++ stamp ∷ more) n → stamp < n
above-middle [] more stamp n h = h.0
above-middle (x ∷ first) more stamp n h = above-middle first more stamp n h.1

all-above : (came first more new : List ℕ) (stamp : ℕ) → came ≡ first ++ stamp ∷ more → AllByRecursion (IsAbove came) new → AllByRecursion (λ n. stamp < n) new
all-above came first more [] stamp is h = tt
all-above came first more (n ∷ new) stamp is h = (above-middle first more stamp n (subst (λ (ms : List ℕ). IsAbove ms n) is h.0), all-above came first more new stamp is h.1)

all-middle : (low x : ℕ) (first rest : List ℕ) → AllByRecursion (λ n. low < n) (first ++ x ∷ rest) → low < x
all-middle low x [] rest h = h.0
all-middle low x (y ∷ first) rest h = all-middle low x first rest h.1

tail-same : (x y : ℕ) (xs ys : List ℕ) → x ∷ xs ≡ y ∷ ys → xs ≡ ys
tail-same x y xs ys h = cc

late-above : (low x : ℕ) (early late first rest : List ℕ) → early ++ late ≡ first ++ x ∷ rest → length early ≤ length first → AllByRecursion (λ n. low < n) late → low < x
late-above low x [] late first rest is few h = all-middle low x first rest (subst (AllByRecursion (λ n. low < n)) is h)
late-above low x (e ∷ early) late [] rest is few h = absurd (omega (arith, few))
late-above low x (e ∷ early) late (f ∷ first) rest is few h = late-above low x early late first rest (tail-same e f (early ++ late) (first ++ x ∷ rest) is) (omega (arith, few)) h

-- After a half has waited

module _ (setting : Setting) (side : Side) (before next : HalfState) (packet : Packet) (begun : HalfLeads setting side (opening_half setting side) before) (step : HalfStep setting side before next) (comes : next.came ≡ before.came ++ packet ∷ []) where
  came-more : before ≡ next → ⊥
  came-more same =
      let equal : length before.came ≡ length before.came + 1 = ap (λ (half : HalfState). length half.came) same ∙ ap length comes ∙ one-longer before.came packet in
      omega (arith, equal)

  no-return : HalfLeads setting side next before → ⊥
  no-return back = came-more (never-back setting side before next (goes before next rests step) back)

  -- the last step of a half came after the wait, or ended it
  module _ (half last : HalfState) (to_half : HalfLeads setting side (opening_half setting side) half) (last_step : HalfStep setting side half last) (leads : HalfLeads setting side next last) where
    one-last : HalfLeads setting side half last
    one-last = goes half last rests last_step

    next-prefix : IsPrefix next.came last.came
    next-prefix = leads-came setting side next last leads

    half-prefix : IsPrefix half.came last.came
    half-prefix = leads-came setting side half last one-last

    before-prefix : IsPrefix before.came last.came
    before-prefix = leads-came setting side before last (half-trans setting side before next last (goes before next rests step) leads)

    -- no other step leads from there as far
    is-last : (z : HalfState) → HalfStep setting side half z → IsPrefix z.came last.came → z ≡ last
    is-last z s prefix = half-once setting side half z last last.came s last_step prefix (leads-came setting side last last rests)

    before-half : next ≡ last → HalfLeads setting side before half ⊎ HalfLeads setting side half before → before ≡ half
    before-half same (inl h) = by (first-step setting side before half h)
      where
        by : (before ≡ half) ⊎ FirstStep setting side before half → before ≡ half
        by (inl is) = is
        by (inr f) =
            let next_is : f.next ≡ next = half-once setting side before f.next next last.came f.step step (prefix-trans f.next.came half.came last.came (leads-came setting side f.next half f.leads) half-prefix) next-prefix in
            let back : HalfLeads setting side last half = subst (λ (x : HalfState). HalfLeads setting side x half) (next_is ∙ same) f.leads in
            absurd (step-new setting side half last last_step (never-back setting side half last one-last back))
    before-half same (inr h) = by (first-step setting side half before h)
      where
        by : (half ≡ before) ⊎ FirstStep setting side half before → before ≡ half
        by (inl is) = sym is
        by (inr f) =
            let last_is : f.next ≡ last = is-last f.next f.step (prefix-trans f.next.came before.came last.came (leads-came setting side f.next before f.leads) before-prefix) in
            absurd (no-return (subst (λ (x : HalfState). HalfLeads setting side x before) (last_is ∙ sym same) f.leads))

    at-last : HalfLeads setting side last next → (before ≡ half) × (next ≡ last)
    at-last back =
        let same : next ≡ last = never-back setting side next last leads back in
        (before-half same (in-order setting side (opening_half setting side) before half last begun to_half before-prefix half-prefix), same)

    beyond-half : HalfLeads setting side half next → HalfLeads setting side next half ⊎ ((before ≡ half) × (next ≡ last))
    beyond-half h = by (first-step setting side half next h)
      where
        by : (half ≡ next) ⊎ FirstStep setting side half next → HalfLeads setting side next half ⊎ ((before ≡ half) × (next ≡ last))
        by (inl same) = inl (subst (HalfLeads setting side next) (sym same) rests)
        by (inr f) = inr (at-last (subst (λ (x : HalfState). HalfLeads setting side x next) (is-last f.next f.step (prefix-trans f.next.came next.came last.came (leads-came setting side f.next next f.leads) next-prefix)) f.leads))

    after-or-last : HalfLeads setting side next half ⊎ ((before ≡ half) × (next ≡ last))
    after-or-last = by (in-order setting side (opening_half setting side) next half last (goes before next begun step) to_half next-prefix half-prefix)
      where
        by : HalfLeads setting side next half ⊎ HalfLeads setting side half next → HalfLeads setting side next half ⊎ ((before ≡ half) × (next ≡ last))
        by (inl h) = inl h
        by (inr h) = beyond-half h

  -- one step more
  since-more : (sent came new later more : List ℕ) (s : IsSince setting side before sent came) → later ≡ s.first ++ s.stamp ∷ more → AllByRecursion (IsAbove later) new → IsSince setting side before (sent ++ new) later
  since-more sent came new later more s is above = record {
    early = s.early;
    late = s.late ++ new;
    first = s.first;
    stamp = s.stamp;
    more = more;
    sent_is = ap (λ (ns : List ℕ). ns ++ new) s.sent_is ∙ append_assoc s.early s.late new;
    came_is = is;
    sent_then = s.sent_then;
    came_then = s.came_then;
    above = all-append (λ n. s.stamp < n) s.late new s.above (all-above later s.first more new s.stamp is above);
  }

  since : (half : HalfState) (sent came : List ℕ) → StampedHalf setting side half sent came → HalfLeads setting side next half → IsSince setting side before sent came
  since _ _ _ begins leads = absurd (no-return (half-trans setting side next (opening_half setting side) before leads begun))
  since _ _ _ (acts half sent came new own output run within is_own is many above) leads =
      by (since half sent came run) (after-or-last half (after half output) (stamped-leads setting side half sent came run) (halves.acts own output within is_own is) leads)
    where
      by : (HalfLeads setting side next half → IsSince setting side before sent came) → HalfLeads setting side next half ⊎ ((before ≡ half) × (next ≡ after half output)) → IsSince setting side before (sent ++ new) came
      by h (inl k) = let s : IsSince setting side before sent came = h k in since-more sent came new came s.more s s.came_is above
      by h (inr same) =
          let longer : length next.came ≡ length before.came + 1 = ap length comes ∙ one-longer before.came packet in
          let equal : length next.came ≡ length half.came = ap (λ (x : HalfState). length x.came) same.1 in
          let equal_too : length before.came ≡ length half.came = ap (λ (x : HalfState). length x.came) same.0 in
          absurd (omega (arith, longer, equal, equal_too))
  since _ _ _ (gets half sent came new p stamp output run within none opened is many above) leads =
      by (since half sent came run)
      (after-or-last half (after_packet half p (delivered_for setting.schema half.end p) output) (stamped-leads setting side half sent came run) (halves.gets p output within none opened is) leads)
    where
      by : (HalfLeads setting side next half → IsSince setting side before sent came) → HalfLeads setting side next half ⊎ ((before ≡ half) × (next ≡ after_packet half p (delivered_for setting.schema half.end p) output))
          → IsSince setting side before (sent ++ new) (came ++ stamp ∷ [])
      by h (inl k) =
          let s : IsSince setting side before sent came = h k in
          since-more sent came new (came ++ stamp ∷ []) (s.more ++ stamp ∷ []) s (ap (λ (ns : List ℕ). ns ++ stamp ∷ []) s.came_is ∙ append_assoc s.first (s.stamp ∷ s.more) (stamp ∷ [])) above
      by h (inr same) = record {
        early = sent;
        late = new;
        first = came;
        stamp = stamp;
        more = [];
        sent_is = refl;
        came_is = refl;
        sent_then = sent-many setting side half sent came run ∙ ap (λ (x : HalfState). length x.sent) (sym same.0);
        came_then = came-many setting side half sent came run ∙ ap (λ (x : HalfState). length x.came) (sym same.0);
        above = all-above (came ++ stamp ∷ []) came [] new stamp refl above;
      }

module _ (setting : Setting) (state : RelayState) (stamped : IsStampedRelay setting state) (started : HaveStartedEachOther setting state) where
  since-at : (side : Side) → IsSince setting side (half_of side started.before) (stamped.sent side) (stamped.came side)
  since-at side =
      let w : HasWaitedAt setting side (half_of side state) (half_of side started.before) = started.waited side in
      since setting side (half_of side started.before) w.next w.packet w.begins w.step w.comes (half_of side state) (stamped.sent side) (stamped.came side) (stamped.halves side) w.leads

  -- the packet that the other side waited for has a higher stamp than that of this side
  higher : (side : Side) → (since-at side).stamp < (since-at (other side)).stamp
  higher side =
      let s : IsSince setting side (half_of side started.before) (stamped.sent side) (stamped.came side) = since-at side in
      let t : IsSince setting (other side) (half_of (other side) started.before) (stamped.sent (other side)) (stamped.came (other side)) = since-at (other side) in
      let prefix : IsPrefix (stamped.came (other side)) (stamped.sent side) = subst (λ (x : Side). IsPrefix (stamped.came (other side)) (stamped.sent x)) (twice side) (stamped.stamps (other side)) in
      let unsent : length (half_of side started.before).sent ≤ length (half_of (other side) started.before).came =
      subst (λ (x : Side). length (half_of x started.before).sent ≤ length (half_of (other side) started.before).came) (twice side) (started.unsent (other side))
      in
      let few : length s.early ≤ length t.first = subst (λ (n : ℕ). n ≤ length t.first) (sym s.sent_then) (subst (λ (n : ℕ). length (half_of side started.before).sent ≤ n) (sym t.came_then) unsent) in
      late-above s.stamp t.stamp s.early s.late t.first (t.more ++ prefix.0)
      (sym s.sent_is ∙ prefix.1 ∙ ap (λ (ns : List ℕ). ns ++ prefix.0) t.came_is ∙ append_assoc t.first (t.stamp ∷ t.more) prefix.0) few s.above

  never : ⊥
  never =
      let up : (since-at sides.Parent).stamp < (since-at sides.Child).stamp = higher sides.Parent in
      let down : (since-at sides.Child).stamp < (since-at sides.Parent).stamp = higher sides.Child in
      omega (arith, up, down)

pub stamped_relays_run : StampedRelaysRun
stamped_relays_run setting state stamped =
    by
    (either-so setting state stamped.packets (stamped-leads setting sides.Parent state.parent (stamped.sent sides.Parent) (stamped.came sides.Parent) (stamped.halves sides.Parent))
    (stamped-leads setting sides.Child state.child (stamped.sent sides.Child) (stamped.came sides.Child) (stamped.halves sides.Child)))
  where
    by : IsRelay setting state ⊎ HaveStartedEachOther setting state → IsRelay setting state
    by (inl run) = run
    by (inr started) = absurd (never setting state stamped started)
