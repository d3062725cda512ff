-- The turns of a word, as a loop does them.
use Rattle.std.proofs.Common.{◌≡◌, ℕ, ◌+◌, ◌<◌, List, [], ◌∷◌, drop, length, get_or, drop-cons, add-one, true, ◌⊎◌, inl, inr, sym, ap, subst, ◌∙◌}
use Rattle.ipdl_base.specs.declared.kinds.Side.{Side}
use Rattle.channel_model.specs.Runs.{RunState}
use Rattle.schedules.specs.declared.turn.Turn.{Turn}
use Rattle.script_steps.specs.Choices.{Setting}
use Rattle.script_steps.specs.Turns.{Picks, RunEnding, at_limit, exceeds, idles, is_quiet, leads, outcome, turn_exceeds, turn_idles, turn_leads}
use Rattle.ipdl_base.specs.Sound.{IsSound}
use Rattle.script_runs.proofs.Rest.{rest_of_cases_is_still}
use Rattle.script_steps.proofs.Rest.{rest_is_quiet}
use Rattle.world_core.proofs.Chosen.{chosen-grows}
use Rattle.world_core.specs.declared.answers.RunAnswer.{RunAnswer}
use Rattle.world_core.specs.declared.answers.RunAnswer.TheVariants as run
use Rattle.world_core.specs.declared.answers.StepAnswer.{StepAnswer}
use Rattle.world_core.specs.declared.answers.StepAnswer.TheVariants as step
use Rattle.world_core.proofs.RestLoop.{exceeds-spent, grows-then}
use Rattle.world_core.specs.Turns.{GrowsTo, IsChosen, IsSpent, IsSpentAt, PicksInPart, StandsAs, TurnGives, WordGives}
use Rattle.world_core.specs.Turns as part
use Rattle.world_core.specs.WorldView.{WorldView}
use Rattle.world_core.specs.Worlds.{IsCase, IsLawful}

-- What the rest of a word still does ends what the word does from the beginning.
pub record PicksSo (begun now : WorldView) (word rest : List Turn) : Type 0 where
  pub same : now.setting ≡ begun.setting
  pub grows : GrowsTo begun.state.lines now.state.lines
  pub case_is : IsCase now
  pub laws : IsLawful now
  pub whole : (last : RunState) (ending : RunEnding) → Picks begun.setting rest now.state last ending → Picks begun.setting word begun.state last ending
  pub in_part : (last : RunState) → PicksInPart begun.setting rest now.state last → PicksInPart begun.setting word begun.state last

pub picks-did : (begun now next : WorldView) (word rest : List Turn) (turn : Turn) → PicksSo begun now word (turn ∷ rest) → outcome now.setting turn now.state ≡ leads next.state → next.setting ≡ now.setting → IsChosen now.setting now.state next.state → IsCase next → IsLawful next
    → PicksSo begun next word rest
picks-did begun now next word rest turn r is same c case_is laws =
    let is_so : outcome begun.setting turn now.state ≡ leads next.state = subst (λ (s : Setting). outcome s turn now.state ≡ leads next.state) r.same is in
    record {
      same = same ∙ r.same;
      grows = grows-then begun.state.lines now.state.lines next.state.lines r.grows (chosen-grows now.setting now.state next.state c);
      case_is = case_is;
      laws = laws;
      whole = λ last ending h. r.whole last ending (turn_leads turn rest now.state next.state last ending is_so h);
      in_part = λ last h. r.in_part last (part.turn_leads turn rest now.state next.state last is_so h);
    }

pub picks-idle : (begun now next : WorldView) (word rest : List Turn) (turn : Turn) → PicksSo begun now word (turn ∷ rest) → outcome now.setting turn now.state ≡ idles → next ≡ now → PicksSo begun next word rest
picks-idle begun now next word rest turn r is same =
    let is_so : outcome begun.setting turn now.state ≡ idles = subst (λ (s : Setting). outcome s turn now.state ≡ idles) r.same is in
    let on : PicksSo begun now word rest = record {
      same = r.same;
      grows = r.grows;
      case_is = r.case_is;
      laws = r.laws;
      whole = λ last ending h. r.whole last ending (turn_idles turn rest now.state last ending is_so h);
      in_part = λ last h. r.in_part last (part.turn_idles turn rest now.state last is_so h);
    } in
    subst (λ (w : WorldView). PicksSo begun w word rest) (sym same) on

pub picks-spent : (begun now : WorldView) (word rest : List Turn) (turn : Turn) → PicksSo begun now word (turn ∷ rest) → outcome now.setting turn now.state ≡ exceeds → Picks begun.setting word begun.state now.state (at_limit turn.side)
picks-spent begun now word rest turn r is =
    r.whole now.state (at_limit turn.side) (turn_exceeds turn rest now.state (subst (λ (s : Setting). outcome s turn now.state ≡ exceeds) r.same is))

pub picks-stop : (begun now : WorldView) (word rest : List Turn) → PicksSo begun now word rest → PicksInPart begun.setting word begun.state now.state
picks-stop begun now word rest r = r.in_part now.state (part.word_stops rest now.state)

-- the rest of a word from an index, which is not past its end
pub rest-at : (word : List Turn) (i : ℕ) (d : Turn) → i < length word → drop i word ≡ get_or word i d ∷ drop (i + 1) word
rest-at word i d h = drop-cons word i d h ∙ ap (λ (n : ℕ). get_or word i d ∷ drop n word) (sym (add-one i))

-- After a word

pub stands-so : (now next : WorldView) (answer : RunAnswer) → WordGives now [] answer next → next.setting ≡ now.setting → IsSpentAt next answer → IsCase next → IsSound next.setting.schema → StandsAs next answer
stands-so now next run.Finished h same spent case_is sound =
    let quiet : is_quiet next.setting next.state ≡ true = subst (λ (s : Setting). is_quiet s next.state ≡ true) (sym same) (rest_is_quiet now.setting [] now.state next.state h) in
    (quiet, rest_of_cases_is_still next.setting case_is.leading next.state sound case_is.plays quiet)
stands-so now next (run.Spent side) h same spent case_is sound = spent
stands-so now next run.NoMemory h same spent case_is sound = tt

-- One turn of a word

gives-at : (now next : WorldView) (turn : Turn) (answer is : StepAnswer) → answer ≡ is → TurnGives now turn answer next → TurnGives now turn is next
gives-at now next turn answer is e h = subst (λ (a : StepAnswer). TurnGives now turn a next) e h

pub word-goes_on : (begun now next : WorldView) (word : List Turn) (i : ℕ) (d : Turn) (answer : StepAnswer) → i < length word → PicksSo begun now word (drop i word) → TurnGives now (get_or word i d) answer next → IsCase next → IsLawful next
    → (answer ≡ step.Did) ⊎ (answer ≡ step.Nothing) → PicksSo begun next word (drop (i + 1) word)
word-goes_on begun now next word i d answer inside r h case_is laws (inl e) =
    let g = gives-at now next (get_or word i d) answer step.Did e h in
    picks-did begun now next word (drop (i + 1) word) (get_or word i d) (subst (PicksSo begun now word) (rest-at word i d inside) r) g.0 g.1 g.2 case_is laws
word-goes_on begun now next word i d answer inside r h case_is laws (inr e) =
    let g = gives-at now next (get_or word i d) answer step.Nothing e h in
    picks-idle begun now next word (drop (i + 1) word) (get_or word i d) (subst (PicksSo begun now word) (rest-at word i d inside) r) g.0 g.1

pub word-spent : (begun now next : WorldView) (word : List Turn) (i : ℕ) (d : Turn) (side : Side) → i < length word → PicksSo begun now word (drop i word) → TurnGives now (get_or word i d) (step.Spent side) next
    → Picks begun.setting word begun.state next.state (at_limit side) × IsSpent next side
word-spent begun now next word i d side inside r h =
    let turn : Turn = get_or word i d in
    let all : Picks begun.setting word begun.state now.state (at_limit turn.side) = picks-spent begun now word (drop (i + 1) word) turn (subst (PicksSo begun now word) (rest-at word i d inside) r) h.0 in (
      subst (λ (w : WorldView). Picks begun.setting word begun.state w.state (at_limit side)) (sym h.2) (subst (λ (s : Side). Picks begun.setting word begun.state now.state (at_limit s)) (sym h.1) all),
      subst (λ (w : WorldView). IsSpent w side) (sym h.2) (subst (λ (s : Side). IsSpent now s) (sym h.1) (exceeds-spent now turn h.0)),
    )
