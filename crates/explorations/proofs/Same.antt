-- Where words lead to the same points under two settings, and the same states are quiet, the explorations are the same.
use Rattle.std.proofs.Common.{◌≡◌, ◌∙◌, ℕ, ◌≤◌, Bool, true, false, if◌then◌else◌, List, [], ◌∷◌, ◌++◌, length, Option, Some, None, refl, sym, subst}
use Rattle.std.specs.Prelude.{filter_map, option_map, option_and_then}
use Rattle.std.specs.List.{AllByRecursion}
use Rattle.ipdl_base.specs.declared.kinds.Side.{Side}
use Rattle.channel_model.specs.Runs.{RunState}
use Rattle.explorations.specs.Explorations.{AreFew, AreFirstWords, Exploration, IsCovered, IsExplored, IsFirst, StopsAt, Way, ending_at, state_at, states_of, way_of, ways_of}
use Rattle.explorations.specs.Words.{Point, reached}
use Rattle.schedules.specs.declared.turn.Turn.{Turn}
use Rattle.script_steps.specs.Choices.{Setting}
use Rattle.script_steps.specs.Turns.{at_rest, is_quiet}

module _ (a b : Setting) (agree : (word : List Turn) → reached a word ≡ reached b word) (quiet : (state : RunState) → is_quiet a state ≡ is_quiet b state) where
  -- Ways and states

  endings_same : (state : RunState) (spent : Option Side) → ending_at a state spent ≡ ending_at b state spent
  endings_same state (Some side) = refl
  endings_same state None = λ i. if quiet state i then Some at_rest else None

  way_same : (word : List Turn) → way_of a word ≡ way_of b word
  way_same word = λ i. option_map (λ ending. record { ending = ending; word = word }) (option_and_then (λ (point : Point). endings_same point.state point.spent i) (agree word i))

  ways_same : (words : List (List Turn)) → ways_of a words ≡ ways_of b words
  ways_same words = λ i. filter_map (λ (word : List Turn). way_same word i) words

  states_same : (words : List (List Turn)) → states_of a words ≡ states_of b words
  states_same words = λ i. filter_map (λ (word : List Turn). option_and_then (λ (point : Point). state_at point.state point.spent) (agree word i)) words

  few_too : (most : ℕ) (words : List (List Turn)) → AreFew a most words → AreFew b most words
  few_too most words few = record {
    ways = subst (λ (ways : List Way). length ways ≤ most) (ways_same words) few.ways;
    states = subst (λ (states : List RunState). length states ≤ 100000) (states_same words) few.states;
  }

  few_back : (most : ℕ) (words : List (List Turn)) → AreFew b most words → AreFew a most words
  few_back most words few = record {
    ways = subst (λ (ways : List Way). length ways ≤ most) (sym (ways_same words)) few.ways;
    states = subst (λ (states : List RunState). length states ≤ 100000) (sym (states_same words)) few.states;
  }

  -- First words

  first_too : (word : List Turn) → IsFirst a word → IsFirst b word
  first_too word first = record {
    point = first.point;
    leads = sym (agree word) ∙ first.leads;
    first = λ other same leads. first.first other same (agree other ∙ leads);
  }

  covered_too : (words : List (List Turn)) (point : Point) → IsCovered a words point → IsCovered b words point
  covered_too words point covered = record {
    word = covered.word;
    listed = covered.listed;
    same = covered.same;
    leads = sym (agree covered.word) ∙ covered.leads;
    alike = covered.alike;
  }

  each_too : (words : List (List Turn)) → AllByRecursion (IsFirst a) words → AllByRecursion (IsFirst b) words
  each_too [] each = tt
  each_too (word ∷ words) each = (first_too word each.0, each_too words each.1)

  words_too : (words : List (List Turn)) → AreFirstWords a words → AreFirstWords b words
  words_too words first = record {
    ordered = first.ordered;
    each = each_too words first.each;
    none_left_out = λ later word point listed before leads. covered_too words point (first.none_left_out later word point listed before (agree word ∙ leads));
  }

  stops_too : (most : ℕ) (words : List (List Turn)) (whole : Bool) → StopsAt a most words whole → StopsAt b most words whole
  stops_too most words true all = λ word point leads. covered_too words point (all word point (agree word ∙ leads))
  stops_too most words false (next, first, many) = (next, words_too (words ++ next ∷ []) first, λ few. many (few_back most (words ++ next ∷ []) few))

  pub explored_too : (most : ℕ) (exploration : Exploration) → IsExplored a most exploration → IsExplored b most exploration
  explored_too most exploration explored = record {
    words = explored.words;
    first = words_too explored.words explored.first;
    few = few_too most explored.words explored.few;
    stops = stops_too most explored.words exploration.whole explored.stops;
    ways = explored.ways ∙ ways_same explored.words;
  }
