use Rattle.law_statements.proofs.WaitingCalls.{chain-is}
use Rattle.law_statements.proofs.laws.decides_chain.Goals as goal

pub returns : goal.returns
returns c = chain-is
