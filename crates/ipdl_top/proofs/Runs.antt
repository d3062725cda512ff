-- What is said of a run that a world has made.
use Rattle.std.proofs.Common.{◌≡◌, ◌≤◌, ◌+◌, ◌*◌, ◌∙◌, ◌++◌, ℕ, true, List, refl, ap, arith, subst, sym}
use Rattle.std.specs.Prelude.{Option, None, Some}
use Rattle.ipdl_base.specs.declared.line.Line.{Line}
use Rattle.ipdl_base.specs.declared.schema.Schema.{Schema}
use Rattle.ipdl_base.specs.Sound.{IsSound}
use Rattle.channel_model.specs.Ends.{opening}
use Rattle.channel_model.specs.Runs.{IsLegalHistory, RunState, is_still}
use Rattle.channel_model.specs.Runs as runs
use Rattle.command_words.specs.Run.{Course}
use Rattle.handler_script.specs.declared.script.Script.{Script}
use Rattle.schedules.specs.declared.turn.Turn.{Turn}
use Rattle.history.specs.Text.{transcript_text}
use Rattle.order_statements.specs.Laws.{HistoriesGiveWhatIsOwed, HistoriesKeepOrder, Owed}
use Rattle.order_statements.specs.Order.{Order}
use Rattle.progress_laws.specs.Acts.{acts, by_themselves}
use Rattle.progress_laws.specs.Progress.{HistoriesAreWeighed}
use Rattle.progress_laws.specs.Rest.{IsRestingWorld, StillWorldsRest}
use Rattle.relay_history.specs.SidesAlone.{SidesObeyAlone}
use Rattle.script_runs.specs.Laws.{IsAtRest}
use Rattle.script_runs.specs.Endings.{EndsAs, ending_line}
use Rattle.script_steps.specs.Choices.{IsCaseHistory, Setting}
use Rattle.script_steps.specs.Laws.{ChoicesAreRuns, IsRunOf}
use Rattle.script_steps.specs.Turns.{RunEnding, at_limit, at_rest}
use Rattle.script_transcripts.specs.Legal.{IsLegalText}
use Rattle.world_core.specs.declared.answers.RunAnswer.{RunAnswer}
use Rattle.world_core.specs.Turns.{StandsAs}
use Rattle.world_core.specs.WorldView.{WorldView, opening_of}
use Rattle.world_core.specs.Worlds.{IsCase, most_events}
use Rattle.order_statements.specs.Lawful.{HistoriesAreLawful, IsLawfulHistory}
use Rattle.ipdl_top.specs.declared.answer.CommandAnswer.{CommandAnswer}
use Rattle.ipdl_top.specs.declared.rendering.Rendering.{Rendering}
use Rattle.ipdl_top.specs.Ended.{IsEndedAnswer, answer_of}
use Rattle.ipdl_top.specs.Run.{Driving, IsMade, SaysHistory, run_answer, setting_by}
use Rattle.ipdl_top.specs.RunSteps.{IsMadeUnless}

-- a run that did not run out of memory was made
made_so : (Gives : Driving) (schedule : Option (List Turn)) (before after : WorldView) (ending : RunEnding) → IsMadeUnless Gives schedule before after (answer_of ending) → IsMade Gives schedule before after (answer_of ending)
made_so Gives None before after at_rest made = made
made_so Gives None before after (at_limit side) made = made
made_so Gives (Some word) before after at_rest made = made
made_so Gives (Some word) before after (at_limit side) made = made

-- A run that is as it ended may end so.
ends_so : (w : WorldView) (ending : RunEnding) → StandsAs w (answer_of ending) → EndsAs w.setting w.state ending
ends_so w at_rest h = h.0
ends_so w (at_limit side) h = (h.full, h.left)

-- What is printed of a world whose run ended so is a legal text.
prints_legal : (w : WorldView) (ending : RunEnding) → IsCase w → StandsAs w (answer_of ending) → IsLegalText w.setting (transcript_text w.setting.schema w.state.lines ++ ending_line ending)
prints_legal w ending case' stands = record { choices = case'.leading; state = w.state; plays = case'.plays; ending = ending; ends = ends_so w ending stands; is = refl }

-- A quiet run is at rest.
pub rests_so : StillWorldsRest → (setting : Setting) (state : RunState) → IsSound setting.schema → IsRunOf setting state → IsAtRest setting state → IsRestingWorld state.world
rests_so rests setting state sound run rest =
    let same : (runs.run setting.schema run.moves (opening setting.script.top)).world ≡ state.world = ap (λ (s : RunState). s.world) run.runs in
    subst IsRestingWorld same (rests.rests setting.schema sound setting.script.top run.moves (subst (λ w. is_still setting.schema w ≡ true) (sym same) rest.still))

-- What is left of a bound without a part of what it bounds.
without : (a b c : ℕ) → a + b ≤ c → a ≤ c
without a b c h = omega (arith, h)

-- Of a legal history the events that happen by themselves are at most six for each act.
pub weighed_so : HistoriesAreWeighed → (schema : Schema) → IsSound schema → (top : ℕ) (lines : List Line) → IsLegalHistory schema top lines → by_themselves lines ≤ 6 * acts lines
weighed_so weighed schema sound top lines legal = subst (λ (ls : List Line). by_themselves ls ≤ 6 * acts ls) legal.1 (without _ _ _ (weighed schema sound top legal.0))

-- The history that a world has made by a word of turns or a driver is the script's own, legal and lawful, and ended as its
-- answer says.
pub says_history : ChoicesAreRuns → HistoriesAreLawful → HistoriesKeepOrder → HistoriesGiveWhatIsOwed → StillWorldsRest → HistoriesAreWeighed → SidesObeyAlone → (Gives : Driving) (shown : Rendering) (course : Course) (schema : Schema) (script : Script) (opened after : WorldView) (ended : RunAnswer) (answer : CommandAnswer)
    → IsSound schema → course.limit ≤ most_events → opened ≡ opening_of (setting_by schema script course) → IsMadeUnless Gives course.schedule opened after ended → after.setting ≡ opened.setting → StandsAs after ended → IsCase after
    → IsEndedAnswer (run_answer shown schema after.state.lines) ended answer → SaysHistory Gives shown course schema script answer
says_history runs lawful order owed rests weighed alone Gives shown course schema script opened after ended answer sound few opens made same stands case' printed =
    let setting : Setting = setting_by schema script course in
    let about : after.setting ≡ setting = same ∙ ap (λ (w : WorldView). w.setting) opens in
    let stands_so : StandsAs after (answer_of printed.ending) = subst (λ (answer : RunAnswer). StandsAs after answer) printed.ends stands in
    let run = runs after.setting case'.leading after.state case'.plays in
    let legal : IsLegalHistory schema script.top after.state.lines = subst (λ (s : Setting). IsLegalHistory s.schema s.script.top after.state.lines) about (run.moves, ap (λ (s : RunState). s.lines) run.runs) in
    let laws : IsLawfulHistory schema after.state.lines = subst (IsLawfulHistory schema) legal.1 (lawful schema sound script.top legal.0) in
    record {
      after = after;
      ending = printed.ending;
      made = made_so Gives course.schedule (opening_of setting) after printed.ending
          (subst (λ (answer : RunAnswer). IsMadeUnless Gives course.schedule (opening_of setting) after answer) printed.ends (subst (λ (w : WorldView). IsMadeUnless Gives course.schedule w after ended) opens made));
      about = about;
      scripted = subst (λ (s : Setting). IsCaseHistory s after.state.lines) about case'.history;
      legal = legal;
      readable = laws.readable;
      prefix = laws.prefix;
      living = laws.living;
      waits = laws.waits;
      settled = laws.settled;
      fallen = laws.fallen;
      order = subst (Order schema) legal.1 (order schema sound script.top legal.0);
      owed = subst (Owed schema) legal.1 (owed schema sound script.top legal.0);
      stands = stands_so;
      rests = λ finished. rests_so rests after.setting after.state (subst (λ (s : Setting). IsSound s.schema) (sym about) sound) run (subst (λ (ending : RunEnding). StandsAs after (answer_of ending)) finished stands_so).1;
      weighed = weighed_so weighed schema sound script.top after.state.lines legal;
      alone = alone setting after.state.lines sound (omega (arith, few)) (subst (λ (s : Setting). IsCaseHistory s after.state.lines) about case'.history);
      legal_text = subst (λ (s : Setting). IsLegalText s (transcript_text s.schema after.state.lines ++ ending_line printed.ending)) about (prints_legal after printed.ending case' stands_so);
      says = printed.says;
    }
