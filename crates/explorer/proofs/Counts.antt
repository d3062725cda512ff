-- The ways and states of words, as one word more is found.
use Rattle.std.proofs.Common.{◌≡◌, Bool, true, false, if◌then◌else◌, List, [], ◌∷◌, ◌++◌, filter_map, Option, Some, None, ap, ◌∙◌}
use Rattle.std.specs.Prelude.{option_and_then, option_map}
use Rattle.std.specs.List.{cons_option}
use Rattle.std.proofs.lemmas.List.{append-nil}
use Rattle.std.proofs.lemmas.List.Elements.{filter_map-append}
use Rattle.ipdl_base.specs.declared.kinds.Side.{Side}
use Rattle.channel_model.specs.Runs.{RunState}
use Rattle.schedules.specs.declared.turn.Turn.{Turn}
use Rattle.script_steps.specs.Choices.{Setting}
use Rattle.script_steps.specs.Turns.{at_limit, at_rest, is_quiet}
use Rattle.explorations.specs.Explorations.{ending_at, state_at, states_of, way_of, ways_of}
use Rattle.explorations.specs.Words.{Point, reached}
use Rattle.explorer.proofs.Points.{at_spent, at_state}

-- one element more that is kept, or left out
kept-last : {X Y : Type 0} (h : X → Option Y) (xs : List X) (x : X) (found : Option Y) → h x ≡ found → filter_map h (xs ++ x ∷ []) ≡ filter_map h xs ++ cons_option found []
kept-last h xs x found e = filter_map-append h xs (x ∷ []) ∙ ap (λ o. filter_map h xs ++ cons_option o []) e

module _ (setting : Setting) (words : List (List Turn)) (word : List Turn) where
  way-at : (point : Point) → reached setting word ≡ Some point → way_of setting word ≡ option_map (λ ending. record { ending = ending; word = word }) (ending_at setting point.state point.spent)
  way-at point h = ap (λ (p : Option Point). option_map (λ ending. record { ending = ending; word = word }) (option_and_then (λ (p : Point). ending_at setting p.state p.spent) p)) h

  state-found : (point : Point) → reached setting word ≡ Some point → option_and_then (λ (p : Point). state_at p.state p.spent) (reached setting word) ≡ state_at point.state point.spent
  state-found point h = ap (option_and_then (λ (p : Point). state_at p.state p.spent)) h

  -- a word to a spent side
  pub ways-spent : (state : RunState) (side : Side) → reached setting word ≡ Some (at_spent state side) → ways_of setting (words ++ word ∷ []) ≡ ways_of setting words ++ record { ending = at_limit side; word = word } ∷ []
  ways-spent state side h = kept-last (way_of setting) words word (Some (record { ending = at_limit side; word = word })) (way-at (at_spent state side) h)

  pub states-spent : (state : RunState) (side : Side) → reached setting word ≡ Some (at_spent state side) → states_of setting (words ++ word ∷ []) ≡ states_of setting words
  states-spent state side h =
      kept-last (λ (w : List Turn). option_and_then (λ (p : Point). state_at p.state p.spent) (reached setting w)) words word None (state-found (at_spent state side) h) ∙ append-nil (states_of setting words)

  -- a word to a state
  pub states-more : (state : RunState) → reached setting word ≡ Some (at_state state) → states_of setting (words ++ word ∷ []) ≡ states_of setting words ++ state ∷ []
  states-more state h = kept-last (λ (w : List Turn). option_and_then (λ (p : Point). state_at p.state p.spent) (reached setting w)) words word (Some state) (state-found (at_state state) h)

  pub ways-rest : (state : RunState) → reached setting word ≡ Some (at_state state) → is_quiet setting state ≡ true → ways_of setting (words ++ word ∷ []) ≡ ways_of setting words ++ record { ending = at_rest; word = word } ∷ []
  ways-rest state h quiet =
      kept-last (way_of setting) words word (Some (record { ending = at_rest; word = word }))
      (way-at (at_state state) h ∙ ap (λ (b : Bool). option_map (λ ending. record { ending = ending; word = word }) (if b then Some at_rest else None)) quiet)

  pub ways-same : (state : RunState) → reached setting word ≡ Some (at_state state) → is_quiet setting state ≡ false → ways_of setting (words ++ word ∷ []) ≡ ways_of setting words
  ways-same state h quiet =
      kept-last (way_of setting) words word None
      (way-at (at_state state) h ∙ ap (λ (b : Bool). option_map (λ ending. record { ending = ending; word = word }) (if b then Some at_rest else None)) quiet)
      ∙ append-nil (ways_of setting words)
