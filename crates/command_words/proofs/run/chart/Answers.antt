use Rattle.std.proofs.Common.{◌∙◌, sym}
use Rattle.command_words.proofs.Errors.{of_error}
use Rattle.command_words.proofs.run.chart.Goals as goal

pub returns-in_err-sources-clause-usage : goal.returns-in_err-sources-clause-usage
returns-in_err-sources-clause-usage c =
    of_error c.from_residual.result _ _ c.from_residual.ensures.1
    (λ fault gives usage list path course script file command. c.in_err-sources.ensures.usage (sym gives ∙ usage) list path course script file command.1)
