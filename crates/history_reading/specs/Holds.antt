-- Readable lists of lines, and the laws of them.
use Rattle.std.specs.Prelude.{ℤ, Bool, true, false, ◌&&◌, if◌then◌else◌, IsTrue, List, [], ◌∷◌, ◌++◌, Option}
use Rattle.std.specs.Option.{option_map_or}
use Rattle.std.specs.Ordering.{int_eq}
use Rattle.ipdl_base.specs.declared.kinds.Side.{Side}
use Rattle.ipdl_base.specs.declared.schema.Schema.{Schema}
use Rattle.ipdl_base.specs.declared.line.Line.{Line}
use Rattle.ipdl_base.specs.declared.line.What.{What}
use Rattle.ipdl_base.specs.declared.line.What.TheVariants as what
use Rattle.ipdl_base.specs.Lines.{same_side}
use Rattle.ipdl_base.specs.Lines.{is_effect}
use Rattle.history_reading.specs.declared.law.Law.{Law}
use Rattle.history_reading.specs.declared.law.Law.TheVariants as law
use Rattle.history_reading.specs.declared.parts.CallFrame.{CallFrame}
use Rattle.history_reading.specs.declared.parts.CallFrame.TheVariants as frame
use Rattle.history_reading.specs.Fallen.{fallen_line, fallen_moment}
use Rattle.history_reading.specs.EndReading.{EndReading}
use Rattle.history_reading.specs.Living.{living_line}
use Rattle.history_reading.specs.Prefix.{prefix_line}
use Rattle.history_reading.specs.Reading.{Reading, end_reading_of, other_of, read}
use Rattle.history_reading.specs.Rows.{is_request_number}
use Rattle.history_reading.specs.Settled.{settled_line, settled_moment}
use Rattle.history_reading.specs.Waits.{waits_line, waits_moment}

-- the dispatch of a request is on top
abbrev pub is_dispatch_on_top : List CallFrame → ℤ → Bool
is_dispatch_on_top (frame.Dispatch d ∷ below) n = int_eq d.seq n
is_dispatch_on_top _ n = false

-- the answered wait of a call is on top
abbrev pub is_answer_on_top : List CallFrame → ℤ → Bool
is_answer_on_top (frame.Answered c ∷ below) n = int_eq c.seq n
is_answer_on_top _ n = false

-- the content of a line can be read: a message that it names is one of the schema, what it ends is on top
abbrev pub is_readable_what : Schema → List CallFrame → What → Bool
is_readable_what schema stack (what.Send n route number values) = is_request_number schema number
is_readable_what schema stack (what.Call n transaction route number values) = is_request_number schema number
is_readable_what schema stack (what.RefusedSend refusal number) = is_request_number schema number
is_readable_what schema stack (what.Take n route number values) = is_request_number schema number
is_readable_what schema stack (what.Drop n route number id) = is_request_number schema number
is_readable_what schema stack (what.Return n) = is_dispatch_on_top stack n
is_readable_what schema stack (what.ResumeOk n values) = is_answer_on_top stack n
is_readable_what schema stack (what.ResumeFault n reason) = is_answer_on_top stack n
is_readable_what schema stack _ = true

-- an effect is of the end of the last event
abbrev pub is_of_event : Side → Option Side → Bool
is_of_event end last = option_map_or (λ side. same_side side end) last false

-- a line can be read after what is read before it
unfoldable pub is_readable : Schema → Reading → Line → Bool
is_readable schema reading line = (if is_effect line.what then is_of_event line.side reading.last else true) && is_readable_what schema (end_reading_of line.side reading).stack line.what

-- a test of each line: of the lines before it, the line, and the lines after it
abbrev pub each_line : (List Line → Line → List Line → Bool) → List Line → List Line → Bool
each_line test before [] = true
each_line test before (line ∷ following) = test before line following && each_line test (before ++ line ∷ []) following

-- a list of lines can be read
abbrev pub is_readable_list : Schema → List Line → Bool
is_readable_list schema lines = each_line (λ before line following. is_readable schema (read schema before) line) [] lines

abbrev pub IsReadable : Schema → List Line → Type 0
IsReadable schema lines = IsTrue (is_readable_list schema lines)

-- the test of a law of a line of an end, by what is read of that end and of the other before it, and by the lines after it
abbrev pub line_test : Law → Schema → Side → EndReading → EndReading → What → List Line → Bool
line_test law.Prefix schema end own other said following = prefix_line schema own other said
line_test law.Living schema end own other said following = living_line schema end own other said
line_test law.Waits schema end own other said following = waits_line schema own other said
line_test law.Settled schema end own other said following = settled_line schema end own other said following
line_test law.Fallen schema end own other said following = fallen_line own said

-- the test of a law of a moment
unfoldable pub moment_test : Law → Schema → Reading → Bool
moment_test law.Prefix schema reading = true
moment_test law.Living schema reading = true
moment_test law.Waits schema reading = waits_moment schema reading
moment_test law.Settled schema reading = settled_moment reading.parent && settled_moment reading.child
moment_test law.Fallen schema reading = fallen_moment reading.parent && fallen_moment reading.child

-- the moment before a line, where that is an event
abbrev pub moment_before : Law → Schema → Reading → What → Bool
moment_before law schema reading said = if is_effect said then true else moment_test law schema reading

-- a line passes: it can be read, the moment before it passes where it is an event, and so does the line
unfoldable pub passes : Law → Schema → Reading → Line → List Line → Bool
passes law schema reading line following =
    is_readable schema reading line && (moment_before law schema reading line.what && line_test law schema line.side (end_reading_of line.side reading) (other_of line.side reading) line.what following)

-- A law holds of lines where each of them passes, and the moment after the last does.
abbrev pub each_passes : Law → Schema → List Line → Bool
each_passes law schema lines = each_line (λ before line following. passes law schema (read schema before) line following) [] lines

abbrev pub holds_of : Law → Schema → List Line → Bool
holds_of law schema lines = each_passes law schema lines && moment_test law schema (read schema lines)

abbrev pub Holds : Law → Schema → List Line → Type 0
Holds law schema lines = IsTrue (holds_of law schema lines)
