-- What a turn that did something says of a text, when its lines have been compared.
use Rattle.std.proofs.Common.{◌≡◌, ◌+◌, ◌≤◌, List, ◌∷◌, ◌++◌, length, refl, ap, subst, ◌∙◌, length-append, arith}
use Rattle.handler_script.specs.Valid.{IsValid}
use Rattle.ipdl_base.specs.declared.line.Line.{Line}
use Rattle.ipdl_base.specs.Sound.{IsSound}
use Rattle.schedules.specs.declared.turn.Turn.{Turn}
use Rattle.transcripts.specs.declared.comparison.LineMatch.{LineMatch}
use Rattle.transcripts.specs.declared.comparison.LineMatch.TheVariants as alike
use Rattle.transcripts.specs.declared.comparison.Comparison.{Comparison}
use Rattle.transcripts.specs.Compared.{HasCompared, HasPassed}
use Rattle.world_core.specs.declared.answers.StepAnswer.TheVariants as step
use Rattle.world_core.specs.declared.world.replay.Replay.TheVariants as replay
use Rattle.world_core.specs.Followed.{GoesOn, TellsTurn, choice_by, lines_seen}
use Rattle.world_core.specs.Replayed.{IsReplayed}
use Rattle.world_core.specs.Turns.{TurnGives}
use Rattle.world_core.specs.WorldView.{WorldView}
use Rattle.world_core.specs.Worlds.{IsCase, most_events}
use Rattle.world_core.proofs.Replaying.{chosen-adds, step-goes, step-other, step-over}
use Rattle.world_core.proofs.Trying.{IsTried, tried}

pub turn-grows : (before after : WorldView) (c : Comparison) (turn : Turn) → HasPassed before.state.lines c → TurnGives before turn step.Did after → c.lines ≤ length after.state.lines
turn-grows before after c turn passed gives =
    let added = chosen-adds before.setting before.state after.state gives.2 in
    let count = passed.count in
    let long : length after.state.lines ≡ length before.state.lines + length (added.0 ∷ added.1) = ap length added.2 ∙ length-append before.state.lines (added.0 ∷ added.1) in
    omega (arith, count, long)

-- what the comparison of the newest lines says
abbrev pub Compares : WorldView → Comparison → LineMatch → Comparison → Type 0
Compares after old found new = (first more : List Line) → after.state.lines ≡ first ++ more → HasPassed first old → HasCompared after.setting.schema first more old found new

module _ (before after : WorldView) (old new : Comparison) (turn : Turn) (found : LineMatch) (case : IsCase before) (sound : IsSound before.setting.schema) (valid : IsValid before.setting.schema before.setting.script) (small : before.setting.limit ≤ most_events) (passed : HasPassed before.state.lines old)
    (told : TellsTurn old turn) (gives : TurnGives before turn step.Did after) (compares : Compares after old found new) where
  added : (line : Line) × (more : List Line) × (after.state.lines ≡ before.state.lines ++ line ∷ more)
  added = chosen-adds before.setting before.state after.state gives.2

  tries : IsTried before.setting (choice_by turn) before.state after.state
  tries = tried before.setting turn before.state after.state case.leading sound valid small case.plays gives.0

  compared : (is : LineMatch) → found ≡ is → HasCompared before.setting.schema before.state.lines (added.0 ∷ added.1) old is new
  compared is same =
      subst (λ (a : LineMatch). HasCompared before.setting.schema before.state.lines (added.0 ∷ added.1) old a new) same
      (subst (λ schema. HasCompared schema before.state.lines (added.0 ∷ added.1) old found new) (ap (λ s. s.schema) gives.1) (compares before.state.lines (added.0 ∷ added.1) added.2 passed))

  pub after-over : found ≡ alike.Over → IsReplayed before.setting (lines_seen before old) (replay.Incomplete new.lines)
  after-over is = step-over before.setting before.state after.state old new case passed told.0 told.1 (choice_by turn) told.2 told.3 tries (added.0 ∷ added.1) added.2 (compared alike.Over is)

  pub after-other : found ≡ alike.Other → IsReplayed before.setting (lines_seen before old) (replay.Diverged new.lines)
  after-other is = step-other before.setting before.state after.state old new case passed told.0 told.1 (choice_by turn) told.2 told.3 tries (added.0 ∷ added.1) added.2 (compared alike.Other is)

  pub after-all : found ≡ alike.All → GoesOn before old after new
  after-all is =
      let g = step-goes before.setting before.state after.state old new case passed told.0 told.1 (choice_by turn) told.2 told.3 tries (added.0 ∷ added.1) added.2 (compared alike.All is) added.0 added.1 refl in
      record {
        about = gives.1;
        same = ap (λ s. lines_seen (record { setting = s; state = after.state }) new) gives.1 ∙ g.same;
        passed = g.passed;
        less = g.less;
      }
