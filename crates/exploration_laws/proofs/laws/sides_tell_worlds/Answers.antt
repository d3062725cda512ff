use Rattle.exploration_laws.proofs.SideTraces as law
use Rattle.exploration_laws.proofs.laws.sides_tell_worlds.Goals as goal

pub returns : goal.returns
returns c = law.sides_tell_worlds
