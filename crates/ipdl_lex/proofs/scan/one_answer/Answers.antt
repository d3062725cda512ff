use Rattle.ipdl_lex.proofs.Unique.{tokens_unique, fault_unique, never_both}
use Rattle.ipdl_lex.proofs.scan.one_answer.Goals as goal

pub returns : goal.returns
returns c = record { tokens = tokens_unique; fault = fault_unique; never_both = never_both }
