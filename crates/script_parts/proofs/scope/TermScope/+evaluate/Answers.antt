use Rattle.script_parts.proofs.GivenLemmas.{given-plain}
use Rattle.script_parts.proofs.scope.TermScope.+evaluate.Goals as goal

pub value_of-returns-in-Param : goal.value_of-returns-in-Param
value_of-returns-in-Param g n c = rw (c.in-Param.is, given-plain c.args.self.now.given.now c.in-Param.number) c.copy_given.ensures
