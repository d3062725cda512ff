use Rattle.std.proofs.Common.{ℕ, subst, sym}
use Rattle.world_core.specs.declared.world.replay.Replay.TheVariants as replay
use Rattle.world_core.specs.Followed.{choice_by, lines_seen}
use Rattle.world_core.specs.Replayed.{IsReplayed}
use Rattle.world_core.proofs.Replaying.{stuck-replayed}
use Rattle.world_core.proofs.Trying.{none-done}
use Rattle.world_core.proofs.TurnReplays.{after-all, after-other, after-over, turn-grows}
use Rattle.world_core.proofs.world.World.follow_turn.Goals as goal

pub compare-requires-clause-there : goal.compare-requires-clause-there
compare-requires-clause-there c = turn-grows c.args.self.now c.step.new.self c.args.comparison.now c.args.turn c.requires.passed c.in-Did.ensures.gives

pub returns-in-All : goal.returns-in-All
returns-in-All c =
    after-all c.args.self.now c.step.new.self c.args.comparison.now c.compare.new.comparison c.args.turn c.in_ok-compare-in-Did.field-0 c.is_lawful.ensures.case c.is_lawful.ensures.sound c.is_small.ensures.valid c.is_small.ensures.small c.requires.passed c.requires.told
    c.in-Did.ensures.gives c.in_ok-compare-in-Did.ensures c.in-All.is

pub returns-in-Over : goal.returns-in-Over
returns-in-Over c =
    subst (λ (n : ℕ). IsReplayed c.args.self.now.setting (lines_seen c.args.self.now c.args.comparison.now) (replay.Incomplete n)) (sym c.lines.ensures)
    (after-over c.args.self.now c.step.new.self c.args.comparison.now c.compare.new.comparison c.args.turn c.in_ok-compare-in-Did.field-0 c.is_lawful.ensures.case c.is_lawful.ensures.sound c.is_small.ensures.valid c.is_small.ensures.small c.requires.passed c.requires.told
    c.in-Did.ensures.gives c.in_ok-compare-in-Did.ensures c.in-Over.is)

pub returns-in-Other : goal.returns-in-Other
returns-in-Other c =
    subst (λ (n : ℕ). IsReplayed c.args.self.now.setting (lines_seen c.args.self.now c.args.comparison.now) (replay.Diverged n)) (sym c.lines-in-Other.ensures)
    (after-other c.args.self.now c.step.new.self c.args.comparison.now c.compare.new.comparison c.args.turn c.in_ok-compare-in-Did.field-0 c.is_lawful.ensures.case c.is_lawful.ensures.sound c.is_small.ensures.valid c.is_small.ensures.small c.requires.passed c.requires.told
    c.in-Did.ensures.gives c.in_ok-compare-in-Did.ensures c.in-Other.is)

pub returns-in-Nothing : goal.returns-in-Nothing
returns-in-Nothing c =
    let w = c.args.self.now in
    let at = c.args.comparison.now in
    let told = c.requires.told in
    subst (λ (n : ℕ). IsReplayed w.setting (lines_seen w at) (replay.Diverged n)) (sym c.lines-in-Nothing.ensures)
    (stuck-replayed w at c.is_lawful.ensures.case c.requires.passed (choice_by c.args.turn) told.0 told.1 told.2 told.3 (none-done w c.step.new.self c.args.turn c.step.result c.step.ensures.gives c.in-Nothing.is))
