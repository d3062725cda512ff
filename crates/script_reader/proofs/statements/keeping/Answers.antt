use Rattle.script_reader.proofs.Refused.{refuses_on}
use Rattle.script_reader.proofs.StatementForms.{only_keep}
use Rattle.std.proofs.Common.{[]}
use Rattle.script_reader.proofs.statements.keeping.Goals as goal

pub returns-in_err-name-clause-stops : goal.returns-in_err-name-clause-stops
returns-in_err-name-clause-stops c = refuses_on _ _ _ _ c.from_residual.ensures.1 (λ none. only_keep c.args.reader.now (λ n. none n [])) c.in_err-name.ensures.stops
