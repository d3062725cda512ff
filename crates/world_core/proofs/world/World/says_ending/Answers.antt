use Rattle.std.proofs.Common.{ap, ◌∙◌}
use Rattle.script_steps.specs.Turns.{at_limit}
use Rattle.transcripts.specs.Lines.{line_of_ending}
use Rattle.world_core.proofs.Trying.{says-it, says-none}
use Rattle.world_core.proofs.world.World.says_ending.Goals as goal

pub returns-in-Some-Spent : goal.returns-in-Some-Spent
returns-in-Some-Spent c = says-it c.args.self.now.setting c.args.self.now.state c.args.line.now (at_limit c.in-Some-Spent.side) c.is_spent.result
    (c.in-Some-Spent.ensures ∙ ap line_of_ending c.in-Some-Spent.field-0-is) c.is_spent.ensures

pub returns-in-None : goal.returns-in-None
returns-in-None c = (λ h. cc, λ s. absurd (says-none c.args.self.now.setting c.args.self.now.state c.args.line.now c.in-None.ensures s))
