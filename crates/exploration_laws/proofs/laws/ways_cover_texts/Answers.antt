use Rattle.exploration_laws.proofs.Covering as law
use Rattle.exploration_laws.proofs.laws.ways_cover_texts.Goals as goal

pub returns : goal.returns
returns c = law.ways_cover_texts
