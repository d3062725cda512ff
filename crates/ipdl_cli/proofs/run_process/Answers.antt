use Rattle.std.proofs.Common.{◌∙◌}
use Rattle.ipdl_top.specs.declared.status.Status.TheVariants.{NoMemory}
use Rattle.ipdl_cli.proofs.run_process.Goals as goal

-- memory ran out while the words were read
pub returns-in_default : goal.returns-in_default
returns-in_default g c = (NoMemory, c.from.ensures ∙ c.code.ensures)

-- the status of the call
pub returns : goal.returns
returns g c = (c.run.ensures.answers.status, c.run.ensures.answers.ends)
