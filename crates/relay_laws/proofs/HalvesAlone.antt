-- A half run is a run of one end by itself, and so obeys its laws; and so does a feed.
use Rattle.std.proofs.Common.{◌≡◌, List, ◌++◌, subst}
use Rattle.ipdl_base.specs.declared.kinds.Side.{Side}
use Rattle.ipdl_base.specs.declared.kinds.Side.TheVariants as sides
use Rattle.ipdl_base.specs.declared.line.Line.{Line}
use Rattle.ipdl_base.specs.Sound.{IsSound}
use Rattle.channel_model.specs.Ends.{Packet}
use Rattle.script_steps.specs.Choices.{Setting}
use Rattle.alone_laws.proofs.AloneRuns.{one_end_obeys_alone, one_end_obeys_fallen}
use Rattle.alone_laws.specs.AloneRuns.{RunsAlone}
use Rattle.alone_laws.specs.AloneRuns as alone
use Rattle.relay_runs.specs.HalfRuns.{HalfRun, HalfState, begins, acts, gets, delivered_for}
use Rattle.relay_runs.proofs.HalfRuns.{delivered-taken, marks_come_last}
use Rattle.feed_runs.proofs.FeedRuns.{feeds_are_half_runs}
use Rattle.relay_laws.specs.Laws.{FeedsObeyAlone, FeedsRunAlone, HalfRunsRunAlone, ObeysAlone, RelaysObeyAlone}

module _ (setting : Setting) (side : Side) where
  abbrev RunsByItself : HalfState → Type 0
  RunsByItself state = RunsAlone setting.schema setting.script.top side state.end state.lines state.delivered

  half-alone : (state : HalfState) → HalfRun setting side state → RunsByItself state
  half-alone _ begins = alone.begins
  half-alone _ (acts state own output run within is_own is) = alone.acts own output (half-alone state run) is
  half-alone _ (gets state packet output run within rests opened fits is) =
      let taken = delivered-taken setting.schema state.end packet fits in
      alone.gets (delivered_for setting.schema state.end packet) output (half-alone state run) taken.0 taken.1 is

  obeys : (half : HalfState) (sent : List Packet) → IsSound setting.schema → HalfRun setting side half → (waiting : List Packet) → sent ≡ half.came ++ waiting → ObeysAlone setting side half sent
  obeys half sent sound run waiting front =
      let by_itself = half-alone half run in
      record {
        came = half.came;
        waiting = waiting;
        front = front;
        delivered = half.delivered;
        stands = marks_come_last setting side half run;
        alone = one_end_obeys_alone setting.schema sound setting.script.top side half.end half.lines half.delivered by_itself;
        fallen = one_end_obeys_fallen setting.schema sound setting.script.top side half.end half.lines half.delivered by_itself;
      }

pub half_runs_run_alone : HalfRunsRunAlone
half_runs_run_alone setting side state run = half-alone setting side state run

pub relays_obey_alone : RelaysObeyAlone
relays_obey_alone setting state sound relay sides.Parent = obeys setting sides.Parent state.parent state.child.sent sound relay.parent_runs relay.to_parent.0 relay.to_parent.1
relays_obey_alone setting state sound relay sides.Child = obeys setting sides.Child state.child state.parent.sent sound relay.child_runs relay.to_child.0 relay.to_child.1

-- Feeds

pub feeds_run_alone : FeedsRunAlone
feeds_run_alone setting side bytes last spent are feeds = half_runs_run_alone setting side last.half (feeds_are_half_runs setting side bytes last spent are feeds)

pub feeds_obey_alone : FeedsObeyAlone
feeds_obey_alone setting side bytes lines packets fault spent sound are f =
    let run : RunsAlone setting.schema setting.script.top side f.last.half.end lines packets =
    subst (λ (ls : List Line). RunsAlone setting.schema setting.script.top side f.last.half.end ls packets) f.lines_are
    (subst (λ (ps : List Packet). RunsAlone setting.schema setting.script.top side f.last.half.end f.last.half.lines ps) f.packets_are (feeds_run_alone setting side bytes f.last spent are f.feeds))
    in (
      one_end_obeys_alone setting.schema sound setting.script.top side f.last.half.end lines packets run,
      one_end_obeys_fallen setting.schema sound setting.script.top side f.last.half.end lines packets run,
    )
