use Rattle.std.proofs.Common.{ℕ, subst, sym, ap, ◌∙◌}
use Rattle.transcripts.specs.TextLines.{text_lines}
use Rattle.world_core.specs.declared.world.replay.Replay.TheVariants as replay
use Rattle.world_core.specs.Followed.{lines_seen}
use Rattle.world_core.specs.Replayed.{IsReplayed}
use Rattle.world_core.proofs.Replaying.{effect-replayed, side-none, turn-told}
use Rattle.world_core.proofs.world.World.follow_line.Goals as goal

pub follow_turn-requires-clause-told : goal.follow_turn-requires-clause-told
follow_turn-requires-clause-told c = (
  c.split_line.result.0.now,
  text_lines c.split_line.result.1.now,
  ap text_lines (sym c.left.ensures) ∙ c.split_line.ensures.lines,
  turn-told c.split_line.result.0.now c.in-Event.turn c.in-Event.ensures.0 c.in-Event.ensures.1,
)

pub returns-in-Effect : goal.returns-in-Effect
returns-in-Effect c =
    let w = c.args.self.now in
    let at = c.args.comparison.now in
    subst (λ (n : ℕ). IsReplayed w.setting (lines_seen w at) (replay.Diverged n)) (sym c.lines.ensures)
    (effect-replayed w at c.is_lawful.ensures.case c.requires.passed c.split_line.result.0.now (text_lines c.split_line.result.1.now) (ap text_lines (sym c.left.ensures) ∙ c.split_line.ensures.lines) (side-none c.split_line.result.0.now c.in-Effect.ensures.0) c.in-Effect.ensures.1)
