use Rattle.std.proofs.Common.{refl}
use Rattle.explorer.proofs.Running.{goes-did}
use Rattle.explorer.proofs.runner.Runner.go_on.Goals as goal

pub returns-in-Did : goal.returns-in-Did
returns-in-Did c =
    let r = c.come_to.new.self in
    goes-did c.args.self.now r (record { alloc = r.alloc; schema = r.schema; script = r.script; limit = r.limit; world = c.step.new.self; is_away = r.is_away }) c.args.word.now c.args.turn c.requires.may c.in_ok-come_to.ensures
    c.step.result c.in-Did.is c.step.ensures.gives refl refl
