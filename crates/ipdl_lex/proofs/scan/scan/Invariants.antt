use Rattle.std.proofs.Common.{length}
use Rattle.ipdl_lex.proofs.Steps.{Reaches}
use Rattle.ipdl_lex.proofs.scan.scan.Given as goal

abbrev pub invariant-loop-rest : goal.invariant-loop-rest
invariant-loop-rest l = Reaches l.file l.text l.tokens.items l.here l.rest

abbrev pub decreases-loop-rest : goal.decreases-loop-rest
decreases-loop-rest l = length l.rest
