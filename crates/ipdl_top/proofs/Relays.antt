-- What is said of a relay that was made.
use Rattle.std.proofs.Common.{◌≡◌, ◌≤◌, ◌∙◌, ◌++◌, List, sym, ap, subst, arith}
use Rattle.ipdl_base.specs.declared.kinds.Side.{Side}
use Rattle.ipdl_base.specs.declared.line.Line.{Line}
use Rattle.ipdl_base.specs.declared.schema.Schema.{Schema}
use Rattle.ipdl_base.specs.Sound.{IsSound}
use Rattle.ipdl_base.specs.Sides.{other}
use Rattle.channel_model.specs.Runs.{IsLegalHistory, RunState}
use Rattle.command_words.specs.Relay.{RelayCourse}
use Rattle.handler_script.specs.declared.script.Script.{Script}
use Rattle.history.specs.Text.{transcript_text}
use Rattle.history_reading.specs.declared.law.Law.TheVariants as law
use Rattle.history_reading.specs.Holds.{Holds}
use Rattle.law_statements.specs.Fallen.{Fallen}
use Rattle.law_statements.specs.Laws.{DecidesFallen, DecidesReadable, LawsWantReadable}
use Rattle.law_statements.specs.Readable.{Readable}
use Rattle.ipdl_base.specs.declared.kinds.Side.TheVariants as sides
use Rattle.relay_history.specs.Laws.{FinishedRelaysWaitForNothing, RelaysAreHistories, RelaysComeInOrder}
use Rattle.relay_history.specs.OneHistory.{IsOneHistory}
use Rattle.relay_laws.specs.Laws.{ObeysAlone, RelaysObeyAlone}
use Rattle.relay_runs.specs.RelaySteps.{RelayState, half_of}
use Rattle.relay_runs.specs.Relays.{EndsAs, IsHalfRunPair, Relayed}
use Rattle.script_runs.specs.Endings.{ending_line}
use Rattle.script_steps.specs.Choices.{IsCaseHistory, Setting}
use Rattle.script_steps.specs.Laws.{ChoicesAreRuns}
use Rattle.script_steps.specs.Turns.{RunEnding, at_limit, at_rest}
use Rattle.script_transcripts.specs.Legal.{IsLegalText}
use Rattle.world_core.specs.declared.answers.RunAnswer.{RunAnswer}
use Rattle.world_core.specs.declared.relay.Halves.{Halves}
use Rattle.world_core.specs.Relaying.{IsRelayed, RelayGives}
use Rattle.world_core.specs.WorldView.{WorldView, opening_of}
use Rattle.world_core.specs.Worlds.{most_events}
use Rattle.order_statements.specs.Laws.{HistoriesGiveWhatIsOwed, HistoriesKeepOrder, Owed}
use Rattle.order_statements.specs.Order.{Order}
use Rattle.progress_laws.specs.Progress.{HistoriesAreWeighed}
use Rattle.progress_laws.specs.Rest.{StillWorldsRest}
use Rattle.script_runs.specs.Laws.{RestOfCasesIsStill}
use Rattle.order_statements.specs.Lawful.{HistoriesAreLawful, IsLawfulHistory}
use Rattle.ipdl_top.specs.declared.answer.CommandAnswer.{CommandAnswer}
use Rattle.ipdl_top.specs.Relay.{Relaying, SaysRelayed, half_lines, halves_text, relay_setting}
use Rattle.ipdl_top.specs.Ended.{IsEndedAnswer, answer_of, ended_answer}
use Rattle.ipdl_top.proofs.Runs.{rests_so, weighed_so}

-- a world that is as one begins begins itself
pub opens-itself : (w : WorldView) (setting : Setting) → w ≡ opening_of setting → w ≡ opening_of w.setting
opens-itself w setting is = is ∙ ap (λ (v : WorldView). opening_of v.setting) (sym is)

-- a relay that did not run out of memory was made, and is one
made_so : (Relays : Relaying) (opened : WorldView) (halves : Halves) (ending : RunEnding) → RelayGives Relays opened halves (answer_of ending) → Relays opened halves (answer_of ending)
made_so Relays opened halves at_rest made = made
made_so Relays opened halves (at_limit side) made = made

relayed_so : (setting : Setting) (halves : Halves) (ending : RunEnding) → IsRelayed setting halves (answer_of ending) → Relayed setting (half_lines halves.parent) (half_lines halves.child) ending
relayed_so setting halves at_rest relayed = relayed
relayed_so setting halves (at_limit side) relayed = relayed

module _ (decides_readable : DecidesReadable) (decides_fallen : DecidesFallen) (want : LawsWantReadable) (schema : Schema) where
  reads : (lines : List Line) → Holds law.Fallen schema lines → Readable schema lines
  reads lines holds = want law.Fallen schema lines holds

  falls : (lines : List Line) → Holds law.Fallen schema lines → Fallen schema lines
  falls lines holds = (decides_fallen schema lines ((decides_readable schema lines).1 (reads lines holds))).0 holds

-- the laws that an answer by a relay rests on
pub record RelayedLaws : Type 0 where
  pub alone : RelaysObeyAlone
  pub in_order : RelaysComeInOrder
  pub histories : RelaysAreHistories
  pub answered : FinishedRelaysWaitForNothing
  pub runs : ChoicesAreRuns
  pub lawful : HistoriesAreLawful
  pub order : HistoriesKeepOrder
  pub owed : HistoriesGiveWhatIsOwed
  pub still : RestOfCasesIsStill
  pub rests : StillWorldsRest
  pub weighed : HistoriesAreWeighed
  pub decides_readable : DecidesReadable
  pub decides_fallen : DecidesFallen
  pub want : LawsWantReadable

-- the history of a script is legal, and the text of what it prints
legal_so : ChoicesAreRuns → (setting : Setting) (lines : List Line) → IsCaseHistory setting lines → IsLegalHistory setting.schema setting.script.top lines
legal_so runs setting lines h = let run = runs setting h.choices h.state h.plays in (run.moves, ap (λ (s : RunState). s.lines) run.runs ∙ h.made)

prints_so : (setting : Setting) (state : RelayState) (ending : RunEnding) (one : IsOneHistory setting state) → EndsAs setting state ending → IsLegalText setting (transcript_text setting.schema one.lines ++ ending_line ending)
prints_so setting state ending one ends = record {
  choices = one.history.choices;
  state = one.history.state;
  plays = one.history.plays;
  ending = ending;
  ends = (one.ending ending).0 ends;
  is = ap (λ (lines : List Line). transcript_text setting.schema lines ++ ending_line ending) (sym one.history.made);
}

pub says_relayed : RelayedLaws → (Relays : Relaying) (course : RelayCourse) (schema : Schema) (script : Script) (opened : WorldView) (halves : Halves) (ended : RunAnswer) (answer : CommandAnswer)
    → IsSound schema → course.limit ≤ most_events → opened ≡ opening_of (relay_setting schema script course) → RelayGives Relays opened halves ended → IsRelayed opened.setting halves ended → IsEndedAnswer (ended_answer (halves_text schema halves)) ended answer → SaysRelayed Relays course schema script answer
says_relayed laws Relays course schema script opened halves ended answer sound few opens gives relayed printed =
    let setting : Setting = relay_setting schema script course in
    let about : opened.setting ≡ setting = ap (λ (w : WorldView). w.setting) opens in
    let made : Relays (opening_of setting) halves (answer_of printed.ending) =
    made_so Relays (opening_of setting) halves printed.ending
    (subst (λ (answer : RunAnswer). RelayGives Relays (opening_of setting) halves answer) printed.ends (subst (λ (w : WorldView). RelayGives Relays w halves ended) opens gives)) in
    let is : Relayed setting (half_lines halves.parent) (half_lines halves.child) printed.ending =
    relayed_so setting halves printed.ending
    (subst (λ (answer : RunAnswer). IsRelayed setting halves answer) printed.ends (subst (λ (s : Setting). IsRelayed s halves ended) about relayed)) in
    let pair : IsHalfRunPair setting is.state = laws.in_order setting is.state sound (omega (arith, few)) is.relay in
    let alone : (side : Side) → ObeysAlone setting side (half_of side is.state) (half_of (other side) is.state).sent = laws.alone setting is.state sound pair in
    let parent : Holds law.Fallen schema (half_lines halves.parent) = subst (Holds law.Fallen schema) is.parent_lines (alone sides.Parent).fallen in
    let child : Holds law.Fallen schema (half_lines halves.child) = subst (Holds law.Fallen schema) is.child_lines (alone sides.Child).fallen in
    let one : IsOneHistory setting is.state = laws.histories setting is.state sound is.relay in
    let legal : IsLegalHistory schema script.top one.lines = legal_so laws.runs setting one.lines one.history in
    record {
      halves = halves;
      ending = printed.ending;
      made = made;
      relayed = is;
      history = one;
      legal = legal;
      lawful = subst (IsLawfulHistory schema) legal.1 (laws.lawful schema sound script.top legal.0);
      order = subst (Order schema) legal.1 (laws.order schema sound script.top legal.0);
      owed = subst (Owed schema) legal.1 (laws.owed schema sound script.top legal.0);
      legal_text = prints_so setting is.state printed.ending one is.ends;
      rests = λ finished. rests_so laws.rests setting one.history.state sound (laws.runs setting one.history.choices one.history.state one.history.plays)
          (laws.still setting one.history.choices one.history.state sound one.history.plays ((one.ending at_rest).0 (subst (EndsAs setting is.state) finished is.ends)));
      weighed = weighed_so laws.weighed schema sound script.top one.lines legal;
      answered = λ rests. laws.answered setting is.state sound is.relay (subst (EndsAs setting is.state) rests is.ends);
      alone = alone;
      parent_readable = reads laws.decides_readable laws.decides_fallen laws.want schema (half_lines halves.parent) parent;
      parent_fallen = falls laws.decides_readable laws.decides_fallen laws.want schema (half_lines halves.parent) parent;
      child_readable = reads laws.decides_readable laws.decides_fallen laws.want schema (half_lines halves.child) child;
      child_fallen = falls laws.decides_readable laws.decides_fallen laws.want schema (half_lines halves.child) child;
      says = printed.says;
    }
