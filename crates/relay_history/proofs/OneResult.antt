-- Any two relays can be led on to a common one, in which each side has come no further than in one of the two.
use Rattle.std.proofs.Common.{◌≡◌, ◌⊎◌, inl, inr, Bool, true, false, ◌&&◌, ◌||◌, List, [], ◌∷◌, ◌++◌, Option, Some, None, is_some, refl, sym, ap, subst, ◌∙◌}
use Rattle.ipdl_base.specs.declared.kinds.Side.{Side}
use Rattle.ipdl_base.specs.declared.kinds.Side.TheVariants as sides
use Rattle.ipdl_base.specs.declared.line.Line.{Line}
use Rattle.channel_model.specs.Ends.{Packet}
use Rattle.channel_model.specs.Events.{Event}
use Rattle.ipdl_base.specs.Sides.{other}
use Rattle.channel_model.specs.Outputs.{is_open}
use Rattle.script_steps.specs.Choices.{Setting}
use Rattle.script_steps.specs.Turns.{at_limit, at_rest}
use Rattle.relay_runs.specs.HalfRuns.{HalfState, is_within, own_event}
use Rattle.relay_runs.specs.RelaySteps.{LeadsOn, RelayState, RelayStep, acts, gets, half_of, next_packet, opening_relay, stays, steps}
use Rattle.relay_runs.specs.Relays.{EndsAs, has_left}
use Rattle.relay_history.specs.Laws.{RelaysHaveOneResult}
use Rattle.relay_history.specs.OneResult.{IsEarlierHalf}
use Rattle.relay_runs.proofs.Sides.{by-sides, which-side}
use Rattle.relay_history.proofs.SameSteps.{Commutes, Goes, leads-earlier, next-stays, step-goes, steps-commute, steps-once}

-- One step and several steps from the same state

-- That side has not gone on by the several steps, and may still do the one.
record Apart (setting : Setting) (side : Side) (one two : RelayState) : Type 0 where
  last : RelayState
  step : RelayStep setting side two last
  leads : LeadsOn setting one last
  here : half_of side last ≡ half_of side one

-- or it is among them, and they may begin with it
step-beside : (setting : Setting) (side : Side) (from one two : RelayState) → RelayStep setting side from one → LeadsOn setting from two → LeadsOn setting one two ⊎ Apart setting side one two
step-beside setting side from one _ h stays = inr (record { last = one; step = h; leads = stays; here = refl })
step-beside setting side from one _ h (steps s state next run k) = by (step-beside setting side from one state h run) (which-side side s)
  where
    same-side : s ≡ side → Apart setting side one state → LeadsOn setting one next
    same-side is p = subst (LeadsOn setting one) (steps-once setting side state p.last next p.step (subst (λ (s : Side). RelayStep setting s state next) is k)) p.leads

    other-side : s ≡ other side → Apart setting side one state → Apart setting side one next
    other-side is p =
        let c : Commutes setting side p.last next = steps-commute setting side state p.last next p.step (subst (λ (s : Side). RelayStep setting s state next) is k) in
        record { last = c.last; step = c.second; leads = steps (other side) p.last c.last p.leads c.first; here = c.here ∙ p.here }

    by : LeadsOn setting one state ⊎ Apart setting side one state → (s ≡ side) ⊎ (s ≡ other side) → LeadsOn setting one next ⊎ Apart setting side one next
    by (inl leads) which = inl (steps s state next leads k)
    by (inr p) (inl is) = inl (same-side is p)
    by (inr p) (inr is) = inr (other-side is p)

-- Several steps and several others from the same state

-- From both states steps lead to a common one, with each half as it is in one of the two.
pub record Join (setting : Setting) (one two : RelayState) : Type 0 where
  pub last : RelayState
  pub first : LeadsOn setting one last
  pub second : LeadsOn setting two last
  pub which : (side : Side) → (half_of side last ≡ half_of side one) ⊎ (half_of side last ≡ half_of side two)

pub not-longer : (prefix more back : List Line) (line : Line) → prefix ≡ (prefix ++ line ∷ more) ++ back → ⊥
not-longer [] more back line h = cc
not-longer (x ∷ prefix) more back line h = not-longer prefix more back line (by h)
  where
    by : x ∷ prefix ≡ x ∷ ((prefix ++ line ∷ more) ++ back) → prefix ≡ (prefix ++ line ∷ more) ++ back
    by h = cc

module _ (setting : Setting) (side : Side) (state next two : RelayState) (h : RelayStep setting side state next) (j : Join setting state two) where
  there-is : half_of (other side) next ≡ half_of (other side) state
  there-is = (step-goes setting side state next h).there

  -- a side that makes a step is not where it was
  further : LeadsOn setting next j.last → half_of side j.last ≡ half_of side state → ⊥
  further leads same =
      let g : Goes side state next = step-goes setting side state next h in
      let f : IsEarlierHalf (half_of side next) (half_of side j.last) = leads-earlier setting next j.last leads side in
      not-longer (half_of side state).lines g.more f.lines.0 g.line (ap (λ (half : HalfState). half.lines) (sym same) ∙ f.lines.1 ∙ ap (λ (ls : List Line). ls ++ f.lines.0) g.said)

  join-first : LeadsOn setting next j.last → Join setting next two
  join-first leads = record {
    last = j.last;
    first = leads;
    second = j.second;
    which = by-sides (λ s. (half_of s j.last ≡ half_of s next) ⊎ (half_of s j.last ≡ half_of s two)) side (here (j.which side)) (there (j.which (other side)));
  }
    where
      here : (half_of side j.last ≡ half_of side state) ⊎ (half_of side j.last ≡ half_of side two) → (half_of side j.last ≡ half_of side next) ⊎ (half_of side j.last ≡ half_of side two)
      here (inl same) = absurd (further leads same)
      here (inr same) = inr same

      there : (half_of (other side) j.last ≡ half_of (other side) state) ⊎ (half_of (other side) j.last ≡ half_of (other side) two) → (half_of (other side) j.last ≡ half_of (other side) next) ⊎ (half_of (other side) j.last ≡ half_of (other side) two)
      there (inl same) = inl (same ∙ sym there-is)
      there (inr same) = inr same

  join-apart : Apart setting side next j.last → Join setting next two
  join-apart p = record {
    last = p.last;
    first = p.leads;
    second = steps side j.last p.last j.second p.step;
    which = by-sides (λ s. (half_of s p.last ≡ half_of s next) ⊎ (half_of s p.last ≡ half_of s two)) side (inl p.here) (there (j.which (other side)));
  }
    where
      still : half_of (other side) p.last ≡ half_of (other side) j.last
      still = (step-goes setting side j.last p.last p.step).there

      there : (half_of (other side) j.last ≡ half_of (other side) state) ⊎ (half_of (other side) j.last ≡ half_of (other side) two) → (half_of (other side) p.last ≡ half_of (other side) next) ⊎ (half_of (other side) p.last ≡ half_of (other side) two)
      there (inl same) = inl (still ∙ same ∙ sym there-is)
      there (inr same) = inr (still ∙ same)

  join-step : LeadsOn setting next j.last ⊎ Apart setting side next j.last → Join setting next two
  join-step (inl leads) = join-first leads
  join-step (inr p) = join-apart p

pub runs-join : (setting : Setting) (from one two : RelayState) → LeadsOn setting from one → LeadsOn setting from two → Join setting one two
runs-join setting from _ two stays k = record { last = two; first = k; second = stays; which = λ side. inr refl }
runs-join setting from _ two (steps side state next run h) k =
    let j : Join setting state two = runs-join setting from state two run k in
    join-step setting side state next two h j (step-beside setting side state next j.last h j.first)

-- A finished relay has no step

step-left : (setting : Setting) (side : Side) (state next : RelayState) → RelayStep setting side state next → has_left setting side state ≡ true
step-left setting side state _ (acts own output within is_own is) =
    ap (λ (found : Option Event). is_some found || is_open (half_of side state).end.state && is_some (next_packet side state)) is_own
step-left setting side state _ (gets packet output within rests opened next is) =
    ap (λ (found : Option Event). is_some found || is_open (half_of side state).end.state && is_some (next_packet side state)) rests
    ∙ ap (λ (b : Bool). b && is_some (next_packet side state)) opened ∙ ap (λ (found : Option Packet). is_some found) next

finished-at : (setting : Setting) (state : RelayState) → EndsAs setting state at_rest → (side : Side) → has_left setting side state ≡ false
finished-at setting state h sides.Parent = h.0
finished-at setting state h sides.Child = h.1

not-both : (b : Bool) → b ≡ true → b ≡ false → ⊥
not-both b h k = let e : true ≡ false = sym h ∙ k in cc

finished-stays : (setting : Setting) (from last : RelayState) → EndsAs setting from at_rest → LeadsOn setting from last → last ≡ from
finished-stays setting from _ ends stays = refl
finished-stays setting from _ ends (steps side state next run h) =
    let same : state ≡ from = finished-stays setting from state ends run in
    absurd (not-both (has_left setting side from) (step-left setting side from next (subst (λ (s : RelayState). RelayStep setting side s next) same h)) (finished-at setting from ends side))

-- A spent side stays as it is, and has something left still after steps of the other

step-within : (setting : Setting) (side : Side) (state next : RelayState) → RelayStep setting side state next → is_within setting side (half_of side state) ≡ true
step-within setting side state _ (acts own output within is_own is) = within
step-within setting side state _ (gets packet output within rests opened next is) = within

spent-stays : (setting : Setting) (side : Side) (from last : RelayState) → is_within setting side (half_of side from) ≡ false → LeadsOn setting from last → half_of side last ≡ half_of side from
spent-stays setting side from _ spent stays = refl
spent-stays setting side from _ spent (steps s state next run h) = by (spent-stays setting side from state spent run) (which-side s side)
  where
    at : s ≡ side → RelayStep setting side state next
    at is = subst (λ (s : Side). RelayStep setting s state next) is h

    by : half_of side state ≡ half_of side from → (side ≡ s) ⊎ (side ≡ other s) → half_of side next ≡ half_of side from
    by same (inl is) = absurd (not-both (is_within setting side (half_of side from)) (ap (is_within setting side) (sym same) ∙ step-within setting side state next (at (sym is))) spent)
    by same (inr is) = subst (λ (x : Side). half_of x next ≡ half_of x state) (sym is) (step-goes setting s state next h).there ∙ same

some-stays : (found later : Option Packet) → ((packet : Packet) → found ≡ Some packet → later ≡ Some packet) → is_some found ≡ true → is_some later ≡ true
some-stays None later h is = cc
some-stays (Some packet) later h is = ap (λ (o : Option Packet). is_some o) (h packet refl)

or-stays : (a b c d : Bool) → (c ≡ true → d ≡ true) → (a || b && c) ≡ true → (a || b && d) ≡ true
or-stays true b c d h is = refl
or-stays false true c d h is = h is
or-stays false false c d h is = is

left-stays : (setting : Setting) (side : Side) (from last : RelayState) → half_of side last ≡ half_of side from → LeadsOn setting from last → has_left setting side from ≡ true → has_left setting side last ≡ true
left-stays setting side from last same leads h =
    ap (λ (half : HalfState). is_some (own_event setting side half) || is_open half.end.state && is_some (next_packet side last)) same
    ∙ or-stays (is_some (own_event setting side (half_of side from))) (is_open (half_of side from).end.state) (is_some (next_packet side from)) (is_some (next_packet side last))
    (some-stays (next_packet side from) (next_packet side last) (next-stays side from last same (leads-earlier setting from last leads (other side)).sent)) h

module _ (setting : Setting) (one two : RelayState) (j : Join setting one two) where
  earlier-so : (side : Side) → (half_of side j.last ≡ half_of side one) ⊎ (half_of side j.last ≡ half_of side two) → IsEarlierHalf (half_of side one) (half_of side two) ⊎ IsEarlierHalf (half_of side two) (half_of side one)
  earlier-so side (inl same) = inr (subst (IsEarlierHalf (half_of side two)) same (leads-earlier setting two j.last j.second side))
  earlier-so side (inr same) = inl (subst (IsEarlierHalf (half_of side one)) same (leads-earlier setting one j.last j.first side))

  furthest-so : EndsAs setting one at_rest → LeadsOn setting two one
  furthest-so ends = subst (LeadsOn setting two) (finished-stays setting one j.last ends j.first) j.second

  unspent-so : EndsAs setting one at_rest → (side : Side) → EndsAs setting two (at_limit side) → ⊥
  unspent-so ends side spent =
      let leads : LeadsOn setting two one = furthest-so ends in
      not-both (has_left setting side one) (left-stays setting side two one (spent-stays setting side two one spent.1 leads) leads spent.0) (finished-at setting one ends side)

  same-so : EndsAs setting one at_rest → EndsAs setting two at_rest → one ≡ two
  same-so ends end = finished-stays setting two one end (furthest-so ends)

pub relays_have_one_result : RelaysHaveOneResult
relays_have_one_result setting one two first second =
    let j : Join setting one two = runs-join setting (opening_relay setting) one two first second in
    record {
      prefixes = λ side. earlier-so setting one two j side (j.which side);
      furthest = λ ends side. leads-earlier setting two one (furthest-so setting one two j ends) side;
      unspent = unspent-so setting one two j;
      same = same-so setting one two j;
    }
