-- What words lead to, letter by letter.
use Rattle.std.proofs.Common.{◌≡◌, Bool, if◌then◌else◌, List, [], ◌∷◌, ◌++◌, Option, Some, None, refl, sym, ap, ◌∙◌}
use Rattle.ipdl_base.specs.declared.kinds.Side.{Side}
use Rattle.channel_model.specs.Runs.{RunState}
use Rattle.schedules.specs.declared.turn.Turn.{Turn}
use Rattle.script_steps.specs.Choices.{Setting, Choice, beginning_of, is_within}
use Rattle.script_steps.specs.Turns.{TurnOutcome, leads, idles, exceeds, led_to, outcome, outcome_by, turn_choice}
use Rattle.explorations.proofs.Points.{by_outcome, point-by}
use Rattle.explorations.specs.Words.{Point, point_from, reached, spent_point}
use Rattle.exploration_laws.proofs.Futures.{point-append}

abbrev pub at_state : RunState → Point
at_state state = record { state = state; spent = None }

abbrev pub at_spent : RunState → Side → Point
at_spent state side = record { state = state; spent = Some side }

pub point-same : {one other : Point} → Some one ≡ Some other → one ≡ other
point-same h = cc

-- A word after one that leads to a state

pub reached-append : (setting : Setting) (word more : List Turn) (state : RunState) → reached setting word ≡ Some (at_state state) → reached setting (word ++ more) ≡ point_from setting more state
reached-append setting word more state h = point-append setting word more (beginning_of setting) state h

-- The words after a letter, by what the letter does

module _ (setting : Setting) (word : List Turn) (turn : Turn) (state : RunState) (leads_there : reached setting word ≡ Some (at_state state)) where
  pub goes-by : (more : List Turn) (found : TurnOutcome) → outcome setting turn state ≡ found → reached setting (word ++ turn ∷ more) ≡ by_outcome setting turn.side more state found
  goes-by more found is = reached-append setting word (turn ∷ more) state leads_there ∙ point-by setting turn more state found is

  pub goes-nowhere : (more : List Turn) → outcome setting turn state ≡ idles → reached setting (word ++ turn ∷ more) ≡ None
  goes-nowhere more is = goes-by more idles is

  pub goes-on : (next : RunState) → outcome setting turn state ≡ leads next → reached setting (word ++ turn ∷ []) ≡ Some (at_state next)
  goes-on next is = goes-by [] (leads next) is

  pub goes-spent : outcome setting turn state ≡ exceeds → reached setting (word ++ turn ∷ []) ≡ Some (at_spent state turn.side)
  goes-spent is = goes-by [] exceeds is

  pub none-after-spent : (other : Turn) (more : List Turn) → outcome setting turn state ≡ exceeds → reached setting (word ++ turn ∷ other ∷ more) ≡ None
  none-after-spent other more is = goes-by (other ∷ more) exceeds is

  -- two letters that do the same, with all that follows
  pub goes-alike : (letter : Turn) (more : List Turn) (next : RunState) → outcome setting turn state ≡ leads next → outcome setting letter state ≡ leads next → reached setting (word ++ turn ∷ more) ≡ reached setting (word ++ letter ∷ more)
  goes-alike letter more next is other =
      goes-by more (leads next) is ∙ sym (reached-append setting word (letter ∷ more) state leads_there ∙ point-by setting letter more state (leads next) other)

-- A word that leads to a spent side: its last letter is of that side, and the word before it leads to the state

pub record IsSpentAfter (setting : Setting) (from : RunState) (word : List Turn) (state : RunState) (side : Side) : Type 0 where
  pub first : List Turn
  pub turn : Turn
  pub word_is : word ≡ first ++ turn ∷ []
  pub before : point_from setting first from ≡ Some (at_state state)
  pub side_is : turn.side ≡ side

spent-last-from : (setting : Setting) (word : List Turn) (from state : RunState) (side : Side) → point_from setting word from ≡ Some (at_spent state side) → IsSpentAfter setting from word state side
spent-last-from setting [] from state side h = let e : None ≡ Some side = ap (λ (p : Point). p.spent) (point-same h) in cc
spent-last-from setting (turn ∷ word) from state side h = by (outcome setting turn from) refl (λ next. spent-last-from setting word next state side)
  where
    ends-so : (word : List Turn) → spent_point from turn.side word ≡ Some (at_spent state side) → IsSpentAfter setting from (turn ∷ word) state side
    ends-so [] k = record {
      first = [];
      turn = turn;
      word_is = refl;
      before = ap (λ (p : Point). Some (at_state p.state)) (point-same k);
      side_is = same-side (ap (λ (p : Point). p.spent) (point-same k));
    }
      where
        same-side : Some turn.side ≡ Some side → turn.side ≡ side
        same-side e = cc
    ends-so (other ∷ more) k = cc

    goes-further : (next : RunState) → outcome setting turn from ≡ leads next → IsSpentAfter setting next word state side → IsSpentAfter setting from (turn ∷ word) state side
    goes-further next is k = record {
      first = turn ∷ k.first;
      turn = k.turn;
      word_is = ap (λ (w : List Turn). turn ∷ w) k.word_is;
      before = point-by setting turn k.first from (leads next) is ∙ k.before;
      side_is = k.side_is;
    }

    by : (found : TurnOutcome) → outcome setting turn from ≡ found → ((next : RunState) → point_from setting word next ≡ Some (at_spent state side) → IsSpentAfter setting next word state side) → IsSpentAfter setting from (turn ∷ word) state side
    by (leads next) is onward = goes-further next is (onward next (sym (point-by setting turn word from (leads next) is) ∙ h))
    by idles is onward = let e : None ≡ Some (at_spent state side) = sym (point-by setting turn word from idles is) ∙ h in cc
    by exceeds is onward = ends-so word (sym (point-by setting turn word from exceeds is) ∙ h)

pub spent-last : (setting : Setting) (word : List Turn) (state : RunState) (side : Side) → reached setting word ≡ Some (at_spent state side) → IsSpentAfter setting (beginning_of setting) word state side
spent-last setting word state side h = spent-last-from setting word (beginning_of setting) state side h

-- What a turn does, by its choice and whether its side is within the limit

abbrev pub outcome_so : Setting → Side → RunState → Option Choice → Bool → TurnOutcome
outcome_so setting side state None within = idles
outcome_so setting side state (Some choice) within = if within then leads (led_to setting choice state) else exceeds

outcome-so-by : (setting : Setting) (side : Side) (state : RunState) (choice : Option Choice) (within : Bool) → is_within setting side state ≡ within → outcome_by setting side state choice ≡ outcome_so setting side state choice within
outcome-so-by setting side state None within h = refl
outcome-so-by setting side state (Some choice) within h = ap (λ (b : Bool). if b then leads (led_to setting choice state) else exceeds) h

pub outcome-so : (setting : Setting) (turn : Turn) (state : RunState) (choice : Option Choice) (within : Bool) → turn_choice setting turn state ≡ choice → is_within setting turn.side state ≡ within → outcome setting turn state ≡ outcome_so setting turn.side state choice within
outcome-so setting turn state choice within c w = ap (outcome_by setting turn.side state) c ∙ outcome-so-by setting turn.side state choice within w
