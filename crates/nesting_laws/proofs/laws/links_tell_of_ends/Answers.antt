use Rattle.nesting_laws.proofs.Farewells as law
use Rattle.nesting_laws.proofs.laws.links_tell_of_ends.Goals as goal

pub returns : goal.returns
returns c = law.links_tell_of_ends
