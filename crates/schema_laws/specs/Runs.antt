-- A run of a script, its lines and the script itself do not depend on where the boxes of types and of terms are.
use Rattle.std.specs.Prelude.{◌≡◌, ℕ, List}
use Rattle.ipdl_base.specs.declared.finding.Finding.{Finding}
use Rattle.ipdl_base.specs.declared.kinds.Side.{Side}
use Rattle.ipdl_base.specs.declared.line.Line.{Line}
use Rattle.ipdl_base.specs.declared.schema.Schema.{Schema}
use Rattle.history.specs.Text.{transcript_text}
use Rattle.schema_laws.specs.Frames.{AreSchemasAlike}
use Rattle.channel_model.specs.Ends.{End, Packet}
use Rattle.channel_model.specs.Events.{Event}
use Rattle.channel_model.specs.Runs.{RunState}
use Rattle.channel_model.specs.Steps.{step}
use Rattle.handler_script.specs.declared.script.Script.{Script}
use Rattle.handler_script.specs.declared.script.ScriptFault.TheVariants.{Broken}
use Rattle.handler_script.specs.Broken.{IsReport}
use Rattle.handler_script.specs.Faults.{IsFault}
use Rattle.handler_script.specs.Plain.{plain_script}
use Rattle.handler_script.specs.ScriptOf.{IsScriptOf}
use Rattle.schedules.specs.declared.turn.Turn.{Turn}
use Rattle.script_steps.specs.Choices.{Choice, Setting, beginning_of, is_within, own_event, played}
use Rattle.script_steps.specs.Turns.{RunEnding, Picks, is_quiet_at}

-- Two settings are the same, except for where the boxes of their types and of their terms are.
pub record AreSettingsAlike (a b : Setting) : Type 0 where
  pub schemas : AreSchemasAlike a.schema b.schema
  pub scripts : plain_script a.script ≡ plain_script b.script
  pub stop : a.stop ≡ b.stop
  pub limit : a.limit ≡ b.limit

-- Under such schemas each event does the same at an end: it makes the same end, lines and packets, or is not
-- possible.
abbrev pub StepsAlike : Type 0
StepsAlike = (a b : Schema) → AreSchemasAlike a b → (e : End) (link : List Packet) (event : Event) → step a e link event ≡ step b e link event

-- With such settings a side does the same as its next own event.
abbrev pub EventsAlike : Type 0
EventsAlike = (a b : Setting) → AreSettingsAlike a b → (side : Side) (state : RunState) → own_event a side state ≡ own_event b side state

-- With such settings a word makes the same run, with the same ending.
abbrev pub PicksAlike : Type 0
PicksAlike =
    (a b : Setting) → AreSettingsAlike a b → (word : List Turn) (state : RunState) (ending : RunEnding)
    → Picks a word (beginning_of a) state ending → Picks b word (beginning_of b) state ending

-- With such settings choices make the same run, or none. In each state a side is at the limit with both or neither,
-- and has something to do with both or neither.
pub record ChoicesAlike : Type 0 where
  pub plays : (a b : Setting) → AreSettingsAlike a b → (choices : List Choice) → played a choices (beginning_of a) ≡ played b choices (beginning_of b)
  pub within : (a b : Setting) → AreSettingsAlike a b → (side : Side) (state : RunState) → is_within a side state ≡ is_within b side state
  pub quiet : (a b : Setting) → AreSettingsAlike a b → (state : RunState) (side : Side) → is_quiet_at a state side ≡ is_quiet_at b state side

-- Under such schemas lines have the same text.
abbrev pub TextsAlike : Type 0
TextsAlike = (a b : Schema) → AreSchemasAlike a b → (lines : List Line) → transcript_text a lines ≡ transcript_text b lines

-- Under such schemas a text has the same script, except for where the boxes of its terms are, or the same report. It
-- never has a script under one and broken rules under the other.
pub record ScriptsAlike : Type 0 where
  pub script : (a b : Schema) → AreSchemasAlike a b → (text : List ℕ) (top : ℕ) (script other : Script)
      → IsScriptOf text a top script → IsScriptOf text b top other → plain_script script ≡ plain_script other
  pub report : (a b : Schema) → AreSchemasAlike a b → (text : List ℕ) (top : ℕ) (findings others : List Finding)
      → IsReport text a top findings → IsReport text b top others → findings ≡ others
  pub either : (a b : Schema) → AreSchemasAlike a b → (text : List ℕ) (top : ℕ) (script : Script) (findings : List Finding)
      → IsScriptOf text a top script → ¬ IsFault text b top (Broken findings)
