use Rattle.std.proofs.Common.{◌≡◌, length}
use Rattle.transcripts.specs.TextLines.{text_lines}
use Rattle.transcripts.specs.Compared.{HasPassed}
use Rattle.world_core.specs.Followed.{lines_seen}
use Rattle.world_core.proofs.world.World.replay_left.Given as goal

-- the same text is seen, and what is printed has been compared
abbrev pub invariant-loop-self : goal.invariant-loop-self
invariant-loop-self l = record {
  about : l.self.setting ≡ l.initial.self.setting;
  same : lines_seen l.self l.comparison ≡ lines_seen l.initial.self l.initial.comparison;
  passed : HasPassed l.self.state.lines l.comparison;
}

abbrev pub decreases-loop-self : goal.decreases-loop-self
decreases-loop-self l = length (text_lines l.comparison.left.now)
