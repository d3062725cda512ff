-- Where two words lead to states that are alike, the same word after both leads to points that are alike.
use Rattle.std.proofs.Common.{◌≡◌, ℕ, ◌+◌, Bool, true, false, if◌then◌else◌, List, [], ◌∷◌, ◌++◌, length, Option, Some, None, refl, sym, ap, subst, ◌∙◌, arith}
use Rattle.std.proofs.lemmas.Option.{none-some, same_Some}
use Rattle.handler_script.specs.Valid.{IsValid}
use Rattle.ipdl_base.specs.declared.kinds.Side.{Side}
use Rattle.ipdl_base.specs.Sound.{IsSound}
use Rattle.channel_model.specs.Runs.{RunState}
use Rattle.schedules.specs.declared.turn.Turn.{Turn}
use Rattle.script_runs.specs.Laws.{EventsArePossible, HasLimit}
use Rattle.script_runs.proofs.CaseRuns.{IsCase, case-next}
use Rattle.script_runs.proofs.Possible.{script_events_are_possible}
use Rattle.script_steps.specs.Choices.{Choice, Setting, beginning_of, chosen, is_within, played}
use Rattle.script_steps.specs.Progress.{lines_of}
use Rattle.script_steps.specs.Turns.{TurnOutcome, exceeds, idles, leads, led_to, outcome, outcome_by, turn_choice}
use Rattle.explorations.proofs.Points.{point-by}
use Rattle.explorations.specs.Laws.{FuturesAreAlike}
use Rattle.explorations.specs.Words.{AreAlike, Point, point_from, reached, spent_point}
use Rattle.exploration_laws.proofs.Alike.{SameSides, choice-same, led-same, plays-first, within-same}
use Rattle.exploration_laws.proofs.SideTraces.{sides-tell-states}

-- Where a word leads to a state, a longer one leads on from there
pub point-append : (setting : Setting) (one word : List Turn) (from state : RunState) → point_from setting one from ≡ Some (record { state = state; spent = None }) → point_from setting (one ++ word) from ≡ point_from setting word state
point-append setting [] word from state h = ap (point_from setting word) (ap (λ (p : Point). p.state) (same_Some (record { state = from; spent = None }) (record { state = state; spent = None }) h))
point-append setting (turn ∷ one) word from state h = by (outcome setting turn from) refl (λ next. point-append setting one word next state)
  where
    spends : (one : List Turn) → spent_point from turn.side one ≡ Some (record { state = state; spent = None }) → ⊥
    spends [] k = let e : Some turn.side ≡ None = ap (λ (p : Point). p.spent) (same_Some (record { state = from; spent = Some turn.side }) (record { state = state; spent = None }) k) in cc
    spends (next ∷ one) k = cc

    by : (found : TurnOutcome) → outcome setting turn from ≡ found
        → ((next : RunState) → point_from setting one next ≡ Some (record { state = state; spent = None }) → point_from setting (one ++ word) next ≡ point_from setting word state)
        → point_from setting (turn ∷ (one ++ word)) from ≡ point_from setting word state
    by (leads next) is onward = point-by setting turn (one ++ word) from (leads next) is ∙ onward next (sym (point-by setting turn one from (leads next) is) ∙ h)
    by idles is onward = absurd (none-some (record { state = state; spent = None }) (sym (point-by setting turn one from idles is) ∙ h))
    by exceeds is onward = absurd (spends one (sym (point-by setting turn one from exceeds is) ∙ h))

-- What a turn does in states that are alike

abbrev OutcomesAlike : TurnOutcome → TurnOutcome → Type 0
OutcomesAlike (leads one) (leads other) = SameSides one other
OutcomesAlike idles idles = Unit {0}
OutcomesAlike exceeds exceeds = Unit {0}
OutcomesAlike _ _ = ⊥

module _ (setting : Setting) (one other : RunState) (same : SameSides one other) where
  limited-alike : (choice : Choice) (within : Bool) → OutcomesAlike (if within then leads (led_to setting choice one) else exceeds) (if within then leads (led_to setting choice other) else exceeds)
  limited-alike choice true = led-same setting one other same choice
  limited-alike choice false = tt

  found-alike : (side : Side) (found : Option Choice) → OutcomesAlike (outcome_by setting side one found) (outcome_by setting side other found)
  found-alike side None = tt
  found-alike side (Some choice) =
      subst (λ (b : Bool). OutcomesAlike (outcome_by setting side one (Some choice)) (if b then leads (led_to setting choice other) else exceeds)) (within-same setting one other same side) (limited-alike choice (is_within setting side one))

  outcomes-alike : (turn : Turn) → OutcomesAlike (outcome setting turn one) (outcome setting turn other)
  outcomes-alike turn =
      subst (λ (found : Option Choice). OutcomesAlike (outcome setting turn one) (outcome_by setting turn.side other found)) (choice-same setting one other same turn) (found-alike turn.side (turn_choice setting turn one))

-- And a word

-- a word leads to a point like this one
record PointAlike (setting : Setting) (word : List Turn) (from : RunState) (point : Point) : Type 0 where
  same : Point
  leads_to : point_from setting word from ≡ Some same
  alike : AreAlike point same

module _ (setting : Setting) where
  here-alike : (one other : RunState) (spent : Option Side) (point : Point) → SameSides one other → Some (record { state = one; spent = spent }) ≡ Some point → AreAlike point (record { state = other; spent = spent })
  here-alike one other spent point same h =
      subst (λ (p : Point). AreAlike p (record { state = other; spent = spent })) (same_Some (record { state = one; spent = spent }) point h) (record { lines = same.lines; spent = refl })

  spent-alike : (turn : Turn) (word : List Turn) (one other : RunState) (point : Point) → SameSides one other → spent_point one turn.side word ≡ Some point → outcome setting turn other ≡ exceeds → PointAlike setting (turn ∷ word) other point
  spent-alike turn [] one other point same h is = record {
    same = record { state = other; spent = Some turn.side };
    leads_to = point-by setting turn [] other exceeds is;
    alike = here-alike one other (Some turn.side) point same h;
  }
  spent-alike turn (next ∷ word) one other point same h is = cc

  point-alike : (word : List Turn) (one other : RunState) (point : Point) → SameSides one other → point_from setting word one ≡ Some point → PointAlike setting word other point
  point-alike [] one other point same h = record { same = record { state = other; spent = None }; leads_to = refl; alike = here-alike one other None point same h }
  point-alike (turn ∷ word) one other point same h = by (outcome setting turn one) (outcome setting turn other) refl refl (outcomes-alike setting one other same turn) (λ next same_next alike. point-alike word next same_next point alike)
    where
      by : (x y : TurnOutcome) → outcome setting turn one ≡ x → outcome setting turn other ≡ y → OutcomesAlike x y
          → ((next same_next : RunState) → SameSides next same_next → point_from setting word next ≡ Some point → PointAlike setting word same_next point) → PointAlike setting (turn ∷ word) other point
      by (leads next) (leads same_next) is so alike onward =
          let rest = onward next same_next alike (sym (point-by setting turn word one (leads next) is) ∙ h) in
          record { same = rest.same; leads_to = point-by setting turn word other (leads same_next) so ∙ rest.leads_to; alike = rest.alike }
      by idles idles is so alike onward = absurd (none-some point (sym (point-by setting turn word one idles is) ∙ h))
      by exceeds exceeds is so alike onward = spent-alike turn word one other point same (sym (point-by setting turn word one exceeds is) ∙ h) so
      by _ _ is so alike onward = absurd alike

-- Each word that leads somewhere is choices

-- one for a spent side
abbrev pub spent_letters : Option Side → ℕ
spent_letters None = 0
spent_letters (Some side) = 1

-- choices that lead where a word leads: one for each letter, but for that of a spent side
pub record ArePlayed (setting : Setting) (word : List Turn) (from : RunState) (point : Point) : Type 0 where
  pub choices : List Choice
  pub plays : played setting choices from ≡ Some point.state
  pub long : length word ≡ length choices + spent_letters point.spent

module _ (setting : Setting) (sound : IsSound setting.schema) (valid : IsValid setting.schema setting.script) (limit : HasLimit setting) where
  -- a turn that leads to a state makes a choice
  within-chooses : (turn : Turn) (state next : RunState) (choice : Choice) (within : Bool) → IsCase setting state → turn_choice setting turn state ≡ Some choice → is_within setting turn.side state ≡ within
      → (if within then leads (led_to setting choice state) else exceeds) ≡ leads next → chosen setting choice state ≡ Some next
  within-chooses turn state next choice true c is within h =
      let possible : EventsArePossible setting state = script_events_are_possible setting c.choices state sound valid limit c.plays in
      let as_one : led_to setting choice state ≡ next = cc in
      possible.turn turn choice is within ∙ ap Some as_one
  within-chooses turn state next choice false c is within h = cc

  leads-chooses : (turn : Turn) (state next : RunState) (found : Option Choice) → IsCase setting state → turn_choice setting turn state ≡ found → outcome_by setting turn.side state found ≡ leads next → (choice : Choice) × (chosen setting choice state ≡ Some next)
  leads-chooses turn state next None c is h = cc
  leads-chooses turn state next (Some choice) c is h = (choice, within-chooses turn state next choice (is_within setting turn.side state) c is refl h)

  here-played : (state : RunState) (spent : Option Side) (word : List Turn) (point : Point) → length word ≡ spent_letters spent → Some (record { state = state; spent = spent }) ≡ Some point → ArePlayed setting word state point
  here-played state spent word point long h =
      subst (ArePlayed setting word state) (same_Some (record { state = state; spent = spent }) point h) (record { choices = []; plays = refl; long = long ∙ (let none : spent_letters spent ≡ 0 + spent_letters spent = omega arith in none) })

  spent-played : (turn : Turn) (word : List Turn) (state : RunState) (point : Point) → spent_point state turn.side word ≡ Some point → ArePlayed setting (turn ∷ word) state point
  spent-played turn [] state point h = here-played state (Some turn.side) (turn ∷ []) point refl h
  spent-played turn (next ∷ word) state point h = cc

  point-played : (word : List Turn) (state : RunState) (point : Point) → IsCase setting state → point_from setting word state ≡ Some point → ArePlayed setting word state point
  point-played [] state point c h = here-played state None [] point refl h
  point-played (turn ∷ word) state point c h = by (outcome setting turn state) refl (λ next is. point-played word next point is)
    where
      by : (found : TurnOutcome) → outcome setting turn state ≡ found → ((next : RunState) → IsCase setting next → point_from setting word next ≡ Some point → ArePlayed setting word next point) → ArePlayed setting (turn ∷ word) state point
      by (leads next) is onward =
          let made = leads-chooses turn state next (turn_choice setting turn state) c refl is in
          let rest : ArePlayed setting word next point = onward next (case-next setting made.0 state next c made.1) (sym (point-by setting turn word state (leads next) is) ∙ h) in
          let long = rest.long in
          record { choices = made.0 ∷ rest.choices; plays = plays-first setting made.0 rest.choices state next point.state made.1 rest.plays; long = omega (arith, long) }
      by idles is onward = absurd (none-some point (sym (point-by setting turn word state idles is) ∙ h))
      by exceeds is onward = spent-played turn word state point (sym (point-by setting turn word state exceeds is) ∙ h)

  pub reached-played : (word : List Turn) (point : Point) → reached setting word ≡ Some point → ArePlayed setting word (beginning_of setting) point
  reached-played word point h = point-played word (beginning_of setting) point (record { choices = []; plays = refl }) h

  -- so words that lead to the same lines of each side lead to states that are alike
  pub reached-alike : (one other : List Turn) (point same : Point) → reached setting one ≡ Some point → reached setting other ≡ Some same → ((side : Side) → lines_of side point.state.lines ≡ lines_of side same.state.lines) → SameSides point.state same.state
  reached-alike one other point same h k lines =
      let first : ArePlayed setting one (beginning_of setting) point = reached-played one point h in
      let second : ArePlayed setting other (beginning_of setting) same = reached-played other same k in
      sides-tell-states setting first.choices second.choices point.state same.state first.plays second.plays lines

pub futures_are_alike : FuturesAreAlike
futures_are_alike setting one other word state next point sound valid limit h k lines goes =
    let alike : SameSides state next = reached-alike setting sound valid limit one other (record { state = state; spent = None }) (record { state = next; spent = None }) h k lines in
    let p : PointAlike setting word next point = point-alike setting word state next point alike (sym (point-append setting one word (beginning_of setting) state h) ∙ goes) in
    record { same = p.same; leads = point-append setting other word (beginning_of setting) next k ∙ p.leads_to; alike = p.alike }
