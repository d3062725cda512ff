use Rattle.ipdl_lex.proofs.Unique.{only_tokens, only_fault}
use Rattle.ipdl_lex.proofs.scan.lex.Goals as goal

pub returns-clause-only_tokens : goal.returns-clause-only_tokens
returns-clause-only_tokens c = only_tokens c.args.file c.args.text.now _ c.scan.ensures.tokens c.scan.ensures.fault

pub returns-clause-only_fault : goal.returns-clause-only_fault
returns-clause-only_fault c = only_fault c.args.file c.args.text.now _ c.scan.ensures.tokens c.scan.ensures.fault
