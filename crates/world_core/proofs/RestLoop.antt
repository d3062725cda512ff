-- Both sides in turn, as a loop does it.
use Rattle.std.proofs.Common.{◌≡◌, ℕ, suc, ◌+◌, ◌-◌, ◌*◌, ◌<◌, ◌≤◌, Bool, true, false, not, ◌&&◌, if◌then◌else◌, List, [], ◌++◌, Option, Some, None, is_some, refl, sym, ap, subst, ◌∙◌, append_assoc, arith}
use Rattle.ipdl_base.specs.declared.kinds.Side.{Side}
use Rattle.ipdl_base.specs.declared.kinds.Side.TheVariants as sides
use Rattle.ipdl_base.specs.declared.line.Line.{Line}
use Rattle.ipdl_base.specs.Sides.{other}
use Rattle.channel_model.specs.Runs.{RunState}
use Rattle.schedules.specs.declared.turn.Turn.{Turn}
use Rattle.script_steps.specs.Choices.{Choice, Setting, is_within, may_deliver, own_event}
use Rattle.script_steps.specs.Turns.{Picks, RunEnding, Rests, at_limit, at_rest, exceeds, goes_on, idles, is_quiet_at, leads, led_to, outcome, outcome_by, passes, rests, stops, turn_choice, whole_turn, word_ends}
use Rattle.world_core.proofs.Chosen.{chosen-grows, chosen-less, left_of, run-sides}
use Rattle.world_core.specs.Turns.{GrowsTo, IsChosen, IsSpent, RestsInPart}
use Rattle.world_core.specs.Turns as part
use Rattle.world_core.specs.WorldView.{WorldView}
use Rattle.world_core.specs.Worlds.{IsCase, IsLawful}

pub grows-then : (a b c : List Line) → GrowsTo a b → GrowsTo b c → GrowsTo a c
grows-then a b c h k = (h.0 ++ k.0, k.1 ∙ ap (λ (ls : List Line). ls ++ k.0) h.1 ∙ append_assoc a h.0 k.0)

-- What both sides still do, with this number of turns left that may do nothing, ends what they do from the beginning.
pub record RestsSo (begun now : WorldView) (side : Side) (left : ℕ) : Type 0 where
  pub same : now.setting ≡ begun.setting
  pub grows : GrowsTo begun.state.lines now.state.lines
  pub case_is : IsCase now
  pub laws : IsLawful now
  pub whole : (last : RunState) (ending : RunEnding) → Rests begun.setting side left now.state last ending → Rests begun.setting sides.Parent 2 begun.state last ending
  pub in_part : (last : RunState) → RestsInPart begun.setting side left now.state last → RestsInPart begun.setting sides.Parent 2 begun.state last

did : (begun now next : WorldView) (side : Side) (k : ℕ) → RestsSo begun now side (suc k) → outcome now.setting (whole_turn side) now.state ≡ leads next.state → next.setting ≡ now.setting → IsChosen now.setting now.state next.state → IsCase next → IsLawful next
    → RestsSo begun next (other side) 2
did begun now next side k r is same c case_is laws =
    let is_so : outcome begun.setting (whole_turn side) now.state ≡ leads next.state = subst (λ (s : Setting). outcome s (whole_turn side) now.state ≡ leads next.state) r.same is in
    record {
      same = same ∙ r.same;
      grows = grows-then begun.state.lines now.state.lines next.state.lines r.grows (chosen-grows now.setting now.state next.state c);
      case_is = case_is;
      laws = laws;
      whole = λ last ending h. r.whole last ending (goes_on side k now.state next.state last ending is_so h);
      in_part = λ last h. r.in_part last (part.goes_on side k now.state next.state last is_so h);
    }

idle : (begun now : WorldView) (side : Side) (k : ℕ) → RestsSo begun now side (suc k) → outcome now.setting (whole_turn side) now.state ≡ idles → RestsSo begun now (other side) k
idle begun now side k r is =
    let is_so : outcome begun.setting (whole_turn side) now.state ≡ idles = subst (λ (s : Setting). outcome s (whole_turn side) now.state ≡ idles) r.same is in
    record {
      same = r.same;
      grows = r.grows;
      case_is = r.case_is;
      laws = r.laws;
      whole = λ last ending h. r.whole last ending (passes side k now.state last ending is_so h);
      in_part = λ last h. r.in_part last (part.passes side k now.state last is_so h);
    }

one-less : (left : ℕ) → 0 < left → left ≡ suc (left - 1)
one-less left h = omega arith

pub rests-did : (begun now next : WorldView) (side : Side) (left : ℕ) → 0 < left → RestsSo begun now side left → outcome now.setting (whole_turn side) now.state ≡ leads next.state → next.setting ≡ now.setting → IsChosen now.setting now.state next.state → IsCase next
    → IsLawful next → RestsSo begun next (other side) 2
rests-did begun now next side left some r = did begun now next side (left - 1) (subst (RestsSo begun now side) (one-less left some) r)

pub rests-idle : (begun now next : WorldView) (side : Side) (left : ℕ) → 0 < left → RestsSo begun now side left → outcome now.setting (whole_turn side) now.state ≡ idles → next ≡ now → RestsSo begun next (other side) (left - 1)
rests-idle begun now next side left some r is same = subst (λ (w : WorldView). RestsSo begun w (other side) (left - 1)) (sym same) (idle begun now side (left - 1) (subst (RestsSo begun now side) (one-less left some) r) is)

-- nothing more is done
pub rests-end : (begun now : WorldView) (side : Side) (left : ℕ) → left ≤ 0 → RestsSo begun now side left → Picks begun.setting [] begun.state now.state at_rest
rests-end begun now side left none r =
    let zero_left : left ≡ 0 = omega arith in
    word_ends begun.state now.state at_rest (r.whole now.state at_rest (subst (λ (n : ℕ). Rests begun.setting side n now.state now.state at_rest) (sym zero_left) (rests side now.state)))

pub rests-spent : (begun now : WorldView) (side : Side) (left : ℕ) → 0 < left → RestsSo begun now side left → outcome now.setting (whole_turn side) now.state ≡ exceeds → Picks begun.setting [] begun.state now.state (at_limit side)
rests-spent begun now side left some r is =
    let is_so : outcome begun.setting (whole_turn side) now.state ≡ exceeds = subst (λ (s : Setting). outcome s (whole_turn side) now.state ≡ exceeds) r.same is in
    word_ends begun.state now.state (at_limit side) (r.whole now.state (at_limit side) (subst (λ (n : ℕ). Rests begun.setting side n now.state now.state (at_limit side)) (sym (one-less left some)) (stops side (left - 1) now.state is_so)))

-- A side that would exceed the limit is spent

not-and : (a b : Bool) → (not a && not b) ≡ true → (a ≡ false) × (b ≡ false)
not-and true b h = cc
not-and false true h = cc
not-and false false h = (refl, refl)

has-work : (setting : Setting) (turn : Turn) (state : RunState) (own may quiet : Bool) → is_some (own_event setting turn.side state) ≡ own → may_deliver turn.side state.world ≡ may → (not own && not may) ≡ quiet
    → (choice : Choice) → turn_choice setting turn state ≡ Some choice → quiet ≡ false
has-work setting turn state own may false a b q choice is = refl
has-work setting turn state own may true a b q choice is =
    let none = not-and own may q in
    absurd (nothing turn.only_deliver (is_some (own_event setting turn.side state)) (may_deliver turn.side state.world) (a ∙ none.0) (b ∙ none.1) is)
  where
    both : (b : Bool) → (not b && false) ≡ false
    both true = refl
    both false = refl

    by : (t may : Bool) (x : Choice) → t ≡ false → may ≡ false → (if t then Some x else (if may then Some (record { side = turn.side; delivers = true }) else None)) ≡ Some choice → ⊥
    by true may x h k is = cc
    by false true x h k is = cc
    by false false x h k is = cc

    nothing : (only own may : Bool) → own ≡ false → may ≡ false → (if not only && own then Some (record { side = turn.side; delivers = false }) else (if may then Some (record { side = turn.side; delivers = true }) else None)) ≡ Some choice → ⊥
    nothing only own may h k is = by (not only && own) may (record { side = turn.side; delivers = false }) (ap (λ (b : Bool). not only && b) h ∙ both only) k is

spent-by : (setting : Setting) (turn : Turn) (state : RunState) (found : Option Choice) (within : Bool) → turn_choice setting turn state ≡ found → is_within setting turn.side state ≡ within → outcome_by setting turn.side state found ≡ exceeds
    → (is_within setting turn.side state ≡ false) × (is_quiet_at setting state turn.side ≡ false)
spent-by setting turn state None within a b is = cc
spent-by setting turn state (Some choice) true a b is =
    absurd (no (subst (λ (t : Bool). (if t then leads (led_to setting choice state) else exceeds) ≡ exceeds) b is))
  where
    no : leads (led_to setting choice state) ≡ exceeds → ⊥
    no e = cc
spent-by setting turn state (Some choice) false a b is =
    (b, has-work setting turn state (is_some (own_event setting turn.side state)) (may_deliver turn.side state.world) (is_quiet_at setting state turn.side) refl refl refl choice a)

pub exceeds-spent : (w : WorldView) (turn : Turn) → outcome w.setting turn w.state ≡ exceeds → IsSpent w turn.side
exceeds-spent w turn is =
    let both = spent-by w.setting turn w.state (turn_choice w.setting turn w.state) (is_within w.setting turn.side w.state) refl refl is in
    record { full = both.0; left = both.1 }

-- How far a loop is from its end

-- the events that are left, and then the turns that may do nothing
abbrev pub turns_left : WorldView → ℕ → ℕ
turns_left w left = 3 * left_of w.setting w.state + left

pub less-did : (now next : WorldView) (left : ℕ) → IsCase now → next.setting ≡ now.setting → IsChosen now.setting now.state next.state → turns_left next 2 < turns_left now left
less-did now next left is same c =
    let fewer : suc (left_of now.setting next.state) ≤ left_of now.setting now.state = chosen-less now.setting now.state next.state (run-sides now.setting is.leading now.state is.plays) c in
    subst (λ (s : Setting). 3 * left_of s next.state + 2 < turns_left now left) (sym same) (omega (arith, fewer))
