-- What is said of a feed that an end has made.
use Rattle.std.proofs.Common.{◌≡◌, Bool, List, Option, ℕ, subst}
use Rattle.std.specs.Prelude.{map}
use Rattle.ipdl_base.specs.declared.kinds.Side.{Side}
use Rattle.ipdl_base.specs.declared.line.Line.{Line}
use Rattle.channel_model.specs.Ends.{Packet}
use Rattle.ipdl_base.specs.declared.schema.Schema.{Schema}
use Rattle.ipdl_base.specs.Sound.{IsSound}
use Rattle.command_words.specs.Feed.{FeedCourse}
use Rattle.end_parts.specs.PlainLines.{plain_line}
use Rattle.feed_runs.specs.declared.fault.FeedFault.{FeedFault}
use Rattle.feed_runs.specs.FeedTurns.{Feed}
use Rattle.handler_script.specs.declared.script.Script.{Script}
use Rattle.history_reading.specs.declared.law.Law.TheVariants as law
use Rattle.law_statements.specs.Laws.{DecidesFallen, DecidesReadable, LawsWantReadable}
use Rattle.order_statements.specs.Effects.{Effects}
use Rattle.order_statements.specs.Laws.{OneEndHasEffects}
use Rattle.relay_laws.specs.Laws.{FeedsObeyAlone, FeedsRunAlone}
use Rattle.script_steps.specs.Choices.{Setting}
use Rattle.value_codec.specs.Laws.{AreBytes}
use Rattle.world_core.specs.declared.feeding.FeedResult.{FeedResult}
use Rattle.world_core.specs.FeedResult.{IsFeedOf}
use Rattle.ipdl_top.specs.declared.answer.CommandAnswer.{CommandAnswer}
use Rattle.ipdl_top.specs.Feed.{SaysFed, feed_answer, feed_setting}

-- The effects of a feed are those that are owed, since it is a run of its end by itself.
pub owed_so : FeedsRunAlone → OneEndHasEffects → (setting : Setting) (side : Side) (bytes : List ℕ) (lines : List Line) (packets : List Packet) (fault : Option FeedFault) (spent : Bool) → IsSound setting.schema → AreBytes bytes
    → Feed setting side bytes lines packets fault spent → Effects setting.schema lines
owed_so run effects setting side bytes lines packets fault spent sound are feed =
    subst (Effects setting.schema) feed.lines_are (effects setting.schema sound setting.script.top side feed.last.half.end feed.last.half.lines feed.last.half.delivered (run setting side bytes feed.last spent are feed.feeds))

pub says_fed : FeedsObeyAlone → FeedsRunAlone → OneEndHasEffects → DecidesReadable → DecidesFallen → LawsWantReadable → (course : FeedCourse) (name bytes : List ℕ) (schema : Schema) (script : Script) (fed : FeedResult) (answer : CommandAnswer)
    → IsSound schema → AreBytes bytes → IsFeedOf (feed_setting schema script course) course.side bytes fed → answer ≡ feed_answer schema name course.side (map plain_line fed.history.lines) fed.fault fed.spent
    → SaysFed course name bytes schema script answer
says_fed obey run effects decides_readable decides_fallen want course name bytes schema script fed answer sound are is says =
    let lines = map plain_line fed.history.lines in
    let laws = obey (feed_setting schema script course) course.side bytes lines is.packets fed.fault fed.spent sound are is.feed in
    let readable = want law.Fallen schema lines laws.1 in
    record {
      lines = lines;
      packets = is.packets;
      kept = fed.fault;
      spent = fed.spent;
      feed = is.feed;
      readable = readable;
      alone = laws.0;
      fallen = (decides_fallen schema lines ((decides_readable schema lines).1 readable)).0 laws.1;
      owed = owed_so run effects (feed_setting schema script course) course.side bytes lines is.packets fed.fault fed.spent sound are is.feed;
      says = says;
    }
