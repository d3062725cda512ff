-- What the command that runs one end on a file of bytes says of a schema.
use Rattle.std.specs.Prelude.{◌≡◌, ℕ, Bool, true, false, if◌then◌else◌, List, [], ◌++◌, Option, Some, None, codes}
use Rattle.std.specs.Fmt.{decimal}
use Rattle.ipdl_base.specs.declared.files.TheConstants.{MOST_BYTES}
use Rattle.ipdl_base.specs.declared.kinds.Side.{Side}
use Rattle.ipdl_base.specs.declared.line.Line.{Line}
use Rattle.ipdl_base.specs.declared.schema.Schema.{Schema}
use Rattle.alone_laws.specs.Alone.{Alone}
use Rattle.channel_model.specs.Ends.{Packet}
use Rattle.command_words.specs.Feed.{FeedCourse}
use Rattle.feed_runs.specs.declared.fault.FeedFault.{FeedFault}
use Rattle.feed_runs.specs.declared.fault.FeedFault.TheVariants as fault
use Rattle.feed_runs.specs.FeedTurns.{Feed}
use Rattle.order_statements.specs.Effects.{Effects}
use Rattle.frame_list.specs.declared.list.FrameListFault.TheVariants as unread
use Rattle.frame_list.specs.Frames.{frame_rule}
use Rattle.frame_list.specs.Lines.{fault_line}
use Rattle.handler_script.specs.declared.script.Script.{Script}
use Rattle.history.specs.Text.{numbered, transcript_text}
use Rattle.law_statements.specs.Fallen.{Fallen}
use Rattle.law_statements.specs.Readable.{Readable}
use Rattle.script_steps.specs.Choices.{Setting}
use Rattle.script_steps.specs.Turns.{RunEnding, at_limit, at_rest}
use Rattle.ipdl_top.specs.declared.answer.CommandAnswer.{CommandAnswer}
use Rattle.ipdl_top.specs.declared.status.Status.{Status}
use Rattle.ipdl_top.specs.declared.status.Status.TheVariants as status
use Rattle.ipdl_top.specs.Inputs.{SaysByInput}
use Rattle.script_runs.specs.Endings.{ending_line}
use Rattle.ipdl_top.specs.Scripts.{SaysByScript}

-- what a feed is about
abbrev pub feed_setting : Schema → Script → FeedCourse → Setting
feed_setting schema script course = record { schema = schema; script = script; stop = None; limit = course.limit }

-- how the command ends: the end may be spent, and else a fault may be kept
abbrev pub feed_status : Bool → Option FeedFault → Status
feed_status true kept = status.Spent
feed_status false (Some kept) = status.BadFrames
feed_status false None = status.Done

-- how the feed ended, as its last line says it
abbrev pub feed_ending : Side → Bool → RunEnding
feed_ending side spent = if spent then at_limit side else at_rest

-- the line that says why the bytes that were left of a file of this name were not read
abbrev pub kept_line : List ℕ → FeedFault → List ℕ
kept_line name (fault.Short at missing) = fault_line name (unread.Short at missing)
kept_line name (fault.Bad at number) = fault_line name (unread.Broken at (frame_rule number))
kept_line name (fault.Stray at number) = name ++ codes ":" ++ decimal at ++ numbered (codes ": stray ") number ++ codes "\n"
kept_line name (fault.WrongActor at id) = name ++ codes ":" ++ decimal at ++ numbered (codes ": wrong actor ") id ++ codes "\n"

abbrev pub kept_text : List ℕ → Option FeedFault → List ℕ
kept_text name None = []
kept_text name (Some kept) = kept_line name kept

-- the answer that is the transcript of these lines of one side, how they ended, and the fault that is kept of a file of this name
abbrev pub feed_answer : Schema → List ℕ → Side → List Line → Option FeedFault → Bool → CommandAnswer
feed_answer schema name side lines kept spent =
    record { status = feed_status spent kept; out = transcript_text schema lines ++ ending_line (feed_ending side spent); err = kept_text name kept }

-- The answer is the feed of the bytes: its lines, the fault that is kept, and whether the end is spent. The lines can be
-- read, and what they settle and continue with results from the packets that were delivered; managed actors fall before managers, and
-- each event has the effects that it owes.
pub record SaysFed (course : FeedCourse) (name bytes : List ℕ) (schema : Schema) (script : Script) (answer : CommandAnswer) : Type 0 where
  pub lines : List Line
  pub packets : List Packet
  pub kept : Option FeedFault
  pub spent : Bool
  pub feed : Feed (feed_setting schema script course) course.side bytes lines packets kept spent
  pub readable : Readable schema lines
  pub alone : Alone schema script.top course.side lines packets
  pub fallen : Fallen schema lines
  pub owed : Effects schema lines
  pub says : answer ≡ feed_answer schema name course.side lines kept spent

-- the answer for a file of frames of this name and its bytes
abbrev pub SaysFedOf : FeedCourse → List ℕ → Option (List ℕ) → Schema → Script → CommandAnswer → Type 0
SaysFedOf course name bytes schema script = SaysByInput status.BadFrames MOST_BYTES (λ bytes. SaysFed course name bytes schema script) name bytes

-- The answer is that for a script and a file of frames of these names and their bytes.
abbrev pub SaysFeed : FeedCourse → List ℕ → Option (List ℕ) → List ℕ → Option (List ℕ) → List ℕ → Schema → CommandAnswer → Type 0
SaysFeed course script text frames bytes file schema answer = SaysByScript (SaysFedOf course frames bytes schema) script text file schema answer
