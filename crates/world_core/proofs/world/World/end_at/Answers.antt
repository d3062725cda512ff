use Rattle.std.proofs.Common.{◌≡◌, ◌+◌, ℕ, true, false, subst, sym, ◌∙◌}
use Rattle.transcripts.proofs.Comparing.{is-empty, not-empty}
use Rattle.world_core.specs.declared.world.replay.Replay.TheVariants as replay
use Rattle.world_core.specs.Followed.{lines_seen}
use Rattle.world_core.specs.Replayed.{IsReplayed}
use Rattle.world_core.proofs.Replaying.{longer-replayed, other-replayed, side-none, whole-replayed}
use Rattle.world_core.proofs.world.World.end_at.Goals as goal

pub returns-then-not-branch : goal.returns-then-not-branch
returns-then-not-branch c =
    let w = c.args.self.now in
    let at = c.args.comparison.now in
    subst (λ (n : ℕ). IsReplayed w.setting (lines_seen w at) (replay.Diverged n)) (sym c.lines.ensures)
    (other-replayed w at c.is_lawful.ensures.case c.requires.passed c.args.line.now c.args.following.now c.requires.first (side-none c.args.line.now c.requires.other.0) c.requires.other.1
    (λ says.
    let l : true ≡ false = sym (c.in_ok-says_ending.ensures.1 says) ∙ c.if-not-branch.true in
    cc))

pub returns-then-is_empty : goal.returns-then-is_empty
returns-then-is_empty c =
    let w = c.args.self.now in
    let at = c.args.comparison.now in
    subst (λ (n : ℕ). IsReplayed w.setting (lines_seen w at) (replay.Complete n)) (sym c.events.ensures)
    (whole-replayed w at c.is_lawful.ensures.case c.requires.passed c.args.line.now c.args.following.now c.requires.first (side-none c.args.line.now c.requires.other.0) c.requires.other.1 (c.in_ok-says_ending.ensures.0 c.if-not-branch.false)
    (is-empty c.args.following.now c.is_empty.result c.is_empty.ensures c.if-is_empty.true))

pub returns-else-is_empty : goal.returns-else-is_empty
returns-else-is_empty c =
    let w = c.args.self.now in
    let at = c.args.comparison.now in
    subst (λ (n : ℕ). IsReplayed w.setting (lines_seen w at) (replay.Diverged (n + 1))) (sym c.lines-else-is_empty.ensures)
    (longer-replayed w at c.is_lawful.ensures.case c.requires.passed c.args.line.now c.args.following.now c.requires.first (side-none c.args.line.now c.requires.other.0) c.requires.other.1 (c.in_ok-says_ending.ensures.0 c.if-not-branch.false)
    (not-empty c.args.following.now c.is_empty.result c.is_empty.ensures c.if-is_empty.false))
