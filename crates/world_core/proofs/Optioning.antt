-- The options of a side are read from its half and its link.
use Rattle.std.proofs.Common.{◌≡◌, not, is_some, Option, ap, subst, ◌∙◌, nat_lt}
use Rattle.ipdl_base.specs.declared.kinds.Side.{Side}
use Rattle.script_steps.specs.Choices.{Setting}
use Rattle.script_steps.specs.Progress.{progress_of}
use Rattle.world_core.proofs.Meetings.{waits-is}
use Rattle.world_core.proofs.SplitHalves.{some-is-next}
use Rattle.world_core.proofs.Turning.{next-is, within-is}
use Rattle.world_core.specs.declared.half.next.NextStep.{NextStep}
use Rattle.world_core.specs.declared.side_turns.SideOptions.{SideOptions}
use Rattle.world_core.specs.HalfView.{HalfView, setting_of}
use Rattle.world_core.specs.Halves.{is_waited_for}
use Rattle.world_core.specs.LinkView.{LinkView}
use Rattle.world_core.specs.NextSteps.{IsNext}
use Rattle.world_core.specs.Options.{AreOptionsAt}
use Rattle.world_core.specs.SideTurns.{StandsIn}
use Rattle.world_core.specs.WorldView.{WorldView, seen_by}

pub options-at : (at : WorldView) (side : Side) (half : HalfView) (link : LinkView) (step : Option NextStep) (options : SideOptions) → StandsIn at side half link → IsNext half (progress_of side at.state.lines) step
    → options.acts ≡ is_some step → options.receives ≡ is_waited_for side half link → options.spent ≡ not (nat_lt half.counts.events half.limit) → AreOptionsAt at side options
options-at at side half link step options stands next acts receives spent = record {
  acts = acts ∙ some-is-next half (progress_of side at.state.lines) step next ∙ ap is_some (next-is at side half link stands);
  receives = receives ∙ waits-is at side half link stands;
  spent = spent ∙ ap not (within-is at side half link stands);
}

-- the options by a half are those at its world
pub options-so : (setting : Setting) (side : Side) (half : HalfView) (link : LinkView) (w : WorldView) (options : SideOptions) → setting_of half ≡ setting → seen_by setting link ≡ w → AreOptionsAt (seen_by (setting_of half) link) side options → AreOptionsAt w side options
options-so setting side half link w options about is h =
    subst (λ (v : WorldView). AreOptionsAt v side options) is (subst (λ (s : Setting). AreOptionsAt (seen_by s link) side options) about h)
