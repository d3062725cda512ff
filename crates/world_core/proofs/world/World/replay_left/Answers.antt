use Rattle.std.proofs.Common.{ℕ, List, subst, sym, ◌∙◌}
use Rattle.script_steps.specs.Choices.{Setting}
use Rattle.transcripts.proofs.Comparing.{is-empty}
use Rattle.world_core.specs.declared.world.replay.Replay.TheVariants as replay
use Rattle.world_core.specs.Followed.{lines_seen}
use Rattle.world_core.specs.Replayed.{IsReplayed}
use Rattle.world_core.proofs.Replaying.{over-replayed}
use Rattle.world_core.proofs.world.World.replay_left.Goals as goal

pub returns : goal.returns
returns c =
    let first = c.args.self.now in
    let w = c.loop-self.self in
    let at = c.loop-self.comparison in
    subst (λ (n : ℕ). IsReplayed first.setting (lines_seen first c.args.comparison.now) (replay.Incomplete n)) (sym c.lines.ensures)
    (subst (λ (lines : List (List ℕ)). IsReplayed first.setting lines (replay.Incomplete at.lines)) c.loop-self.invariant.same
    (subst (λ (s : Setting). IsReplayed s (lines_seen w at) (replay.Incomplete at.lines)) c.loop-self.invariant.about
    (over-replayed w at c.is_lawful-2.ensures.case c.loop-self.invariant.passed (sym c.left.ensures ∙ is-empty c.left.result.now c.is_empty.result c.is_empty.ensures c.loop-self-test.false))))
