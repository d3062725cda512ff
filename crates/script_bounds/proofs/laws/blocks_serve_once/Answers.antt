use Rattle.script_bounds.proofs.Blocks as law
use Rattle.script_bounds.proofs.laws.blocks_serve_once.Goals as goal

pub returns : goal.returns
returns c = law.blocks_serve_once
