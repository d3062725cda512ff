-- The laws of ways give what a search uses.
use Rattle.std.proofs.Common.{◌≡◌, Bool, true, false, if◌then◌else◌, List, [], ◌∷◌, ◌++◌, filter_map, Some, refl, sym, ap, ◌∙◌}
use Rattle.ipdl_base.specs.declared.kinds.Side.{Side}
use Rattle.ipdl_base.specs.declared.line.Line.{Line}
use Rattle.ipdl_base.specs.Lines.{same_side}
use Rattle.channel_model.specs.Runs.{RunState}
use Rattle.schedules.specs.declared.turn.Turn.{Turn}
use Rattle.script_runs.proofs.CaseRuns.{played-last}
use Rattle.script_runs.proofs.Possible.{script_events_are_possible}
use Rattle.script_runs.specs.Laws.{EventsArePossible}
use Rattle.script_steps.specs.Choices.{Choice, Setting, beginning_of, choices_of, is_within}
use Rattle.script_steps.specs.Progress.{lines_of}
use Rattle.script_steps.specs.Turns.{exceeds, leads, led_to}
use Rattle.script_steps.proofs.Choosing.{begin-sides, choices_are_read}
use Rattle.exploration_laws.proofs.Alike.{same-itself}
use Rattle.exploration_laws.proofs.Futures.{ArePlayed, futures_are_alike, reached-played}
use Rattle.exploration_laws.proofs.Lengths.{alike_words_are_as_long}
use Rattle.exploration_laws.proofs.SideTraces.{delivers_of, lines-tell, told, traces-alike}
use Rattle.explorations.specs.Words.{reached}
use Rattle.explorer.proofs.Offers.{Steps}
use Rattle.explorer.proofs.Points.{at_state, outcome-so}
use Rattle.explorer.proofs.Searching.{Laws, small-limit}
use Rattle.explorer.proofs.Keys.{SameChoices}
use Rattle.explorer.specs.Runs.{IsGiven}
use Rattle.explorer.specs.Keys.{choices_by}

-- what a side chooses, in both forms
by-side : (side : Side) (choices : List Choice) → choices_by side choices ≡ delivers_of side choices
by-side side [] = refl
by-side side (choice ∷ more) = ap (λ (bs : List Bool). if same_side choice.side side then choice.delivers ∷ bs else bs) (by-side side more)

tell-so : (side : Side) (lines : List Line) → choices_by side (choices_of lines) ≡ filter_map told (lines_of side lines)
tell-so side lines = by-side side (choices_of lines) ∙ lines-tell side lines

module _ (setting : Setting) (given : IsGiven setting) where
  lines-so : (one other : List Turn) (state next : RunState) → reached setting one ≡ Some (at_state state) → reached setting other ≡ Some (at_state next) → SameChoices state next → (side : Side) → lines_of side state.lines ≡ lines_of side next.lines
  lines-so one other state next h k same =
      let p : ArePlayed setting one (beginning_of setting) (at_state state) = reached-played setting given.sound given.valid (small-limit setting given) one (at_state state) h in
      let q : ArePlayed setting other (beginning_of setting) (at_state next) = reached-played setting given.sound given.valid (small-limit setting given) other (at_state next) k in
      (traces-alike setting p.choices q.choices (beginning_of setting) (beginning_of setting) state next (begin-sides setting) (begin-sides setting) (same-itself (beginning_of setting)) p.plays q.plays
      (λ side.
      ap (delivers_of side) (sym (choices_are_read setting p.choices state p.plays)) ∙ sym (by-side side (choices_of state.lines)) ∙ same.by side
      ∙ by-side side (choices_of next.lines) ∙ ap (delivers_of side) (choices_are_read setting q.choices next q.plays))).lines

  pub lawful : Laws setting
  lawful = record {
    given = given;
    futures = futures_are_alike;
    long = alike_words_are_as_long;
    told = λ one other same. record { by = λ side. tell-so side one.lines ∙ ap (filter_map told) (same side) ∙ sym (tell-so side other.lines) };
    tells = lines-so;
  }

  -- a step is one choice more
  within-so : (turn : Turn) (state next : RunState) (choice : Choice) (within : Bool) → is_within setting turn.side state ≡ within → (if within then leads next else exceeds) ≡ leads next → is_within setting turn.side state ≡ true
  within-so turn state next choice true is h = is
  within-so turn state next choice false is h = cc

  pub step-made : (word : List Turn) (turn : Turn) (state : RunState) (delivers : Bool) → reached setting word ≡ Some (at_state state) → Steps setting turn state delivers
      → choices_of (led_to setting (record { side = turn.side; delivers = delivers }) state).lines ≡ choices_of state.lines ++ record { side = turn.side; delivers = delivers } ∷ []
  step-made word turn state delivers h steps =
      let choice : Choice = record { side = turn.side; delivers = delivers } in
      let p : ArePlayed setting word (beginning_of setting) (at_state state) = reached-played setting given.sound given.valid (small-limit setting given) word (at_state state) h in
      let possible : EventsArePossible setting state = script_events_are_possible setting p.choices state given.sound given.valid (small-limit setting given) p.plays in
      let within = within-so turn state (led_to setting choice state) choice (is_within setting turn.side state) refl
      (sym (outcome-so setting turn state (Some choice) (is_within setting turn.side state) steps.chooses refl) ∙ steps.goes) in
      let chosen_so = possible.turn turn choice steps.chooses within in
      choices_are_read setting (p.choices ++ choice ∷ []) (led_to setting choice state) (played-last setting p.choices choice (beginning_of setting) state (led_to setting choice state) p.plays chosen_so)
      ∙ ap (λ (cs : List Choice). cs ++ choice ∷ []) (sym (choices_are_read setting p.choices state p.plays))
