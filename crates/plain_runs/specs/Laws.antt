-- Where the boxes of values lie in runs of scripts: all at one place.
use Rattle.std.specs.Prelude.{◌≡◌, List, Some}
use Rattle.std.specs.List.{AllByRecursion}
use Rattle.ipdl_base.specs.declared.kinds.Side.{Side}
use Rattle.ipdl_base.specs.declared.schema.Schema.{Schema}
use Rattle.channel_model.specs.Ends.{End, Packet}
use Rattle.channel_model.specs.Events.{Event}
use Rattle.channel_model.specs.Outputs.{Output}
use Rattle.channel_model.specs.Runs.{RunState}
use Rattle.channel_model.specs.Steps.{step}
use Rattle.relay_runs.specs.RelaySteps.{IsRelay, RelayState, half_of}
use Rattle.script_steps.specs.Choices.{Choice, Setting, beginning_of, played}
use Rattle.plain_runs.specs.PlainEnds.{ArePlainLines, IsPlainEnd, IsPlainEvent, IsPlainOutput, IsPlainPacket}

-- A plain event at a plain end, with plain packets on the link toward it, makes a plain end, plain lines and plain packets.
abbrev pub StepsStayPlain : Type 0
StepsStayPlain =
    (schema : Schema) (e : End) (link : List Packet) (event : Event) (output : Output) → step schema e link event ≡ Some output
    → IsPlainEnd e → AllByRecursion IsPlainPacket link → IsPlainEvent event → IsPlainOutput output

-- What a script sends is plain, so the lines of every run of a script are plain.
abbrev pub ScriptLinesArePlain : Type 0
ScriptLinesArePlain = (setting : Setting) (choices : List Choice) (state : RunState) → played setting choices (beginning_of setting) ≡ Some state → ArePlainLines state.lines

-- And so are those of both ends of every relay.
abbrev pub RelayLinesArePlain : Type 0
RelayLinesArePlain = (setting : Setting) (state : RelayState) → IsRelay setting state → (side : Side) → ArePlainLines (half_of side state).lines
