-- The statements that are decided line by line.
use Rattle.std.specs.Prelude.{ℤ, Bool, List, []}
use Rattle.ipdl_base.specs.declared.kinds.Side.{Side}
use Rattle.ipdl_base.specs.declared.line.Line.{Line}
use Rattle.ipdl_base.specs.declared.line.What.{What}
use Rattle.ipdl_base.specs.declared.schema.Schema.{Schema}
use Rattle.history_reading.specs.declared.parts.PacketKind.{PacketKind}
use Rattle.history_reading.specs.EndReading.{EndReading}
use Rattle.history_reading.specs.Holds.{each_line}
use Rattle.history_reading.specs.Reading.{end_reading_of, other_of, read}
use Rattle.law_statements.specs.Arrived.{passings}
use Rattle.law_statements.specs.Said.{said_by}
use Rattle.order_statements.specs.Shape.{answered}
use Rattle.order_statements.specs.Waiting.{waiting}
use Rattle.order_checks.specs.declared.walk.Statement.{Statement}
use Rattle.order_checks.specs.declared.walk.Statement.TheVariants as statement
use Rattle.order_checks.specs.AnswerTests.{answers_line}
use Rattle.order_checks.specs.EffectTests.{effects_line}
use Rattle.order_checks.specs.OrderTests.{order_line}

-- the test of a statement of a line of an end, by what is read of that end and of the other, what the end has answered, what
-- waits at it, and the lines before it and after it
unfoldable pub line_test : Statement → Schema → Side → EndReading → EndReading → List ℤ → List PacketKind → List Line → What → List Line → Bool
line_test statement.Order schema end own other answered waiting before said following = order_line schema end own other waiting said
line_test statement.Effects schema end own other answered waiting before said following = effects_line schema end own answered before said following
line_test statement.Answers schema end own other answered waiting before said following = answers_line schema end own other answered before said following

-- a line passes, after the lines before it
abbrev pub passes : Statement → Schema → List Line → Line → List Line → Bool
passes s schema before line following =
    line_test s schema line.side (end_reading_of line.side (read schema before)) (other_of line.side (read schema before)) (answered (said_by line.side before)) (waiting (passings schema (said_by line.side before))) before line.what following

-- each line passes
abbrev pub all_pass : Statement → Schema → List Line → Bool
all_pass s schema lines = each_line (passes s schema) [] lines
