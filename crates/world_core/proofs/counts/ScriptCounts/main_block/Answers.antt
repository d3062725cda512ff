use Rattle.std.proofs.Common.{sym, subst}
use Rattle.script_parts.specs.Tables.{IsTableOf}
use Rattle.world_core.specs.CountsView.{CountsView}
use Rattle.world_core.proofs.counts.ScriptCounts.main_block.Goals as goal

pub returns : goal.returns
returns c blocks side taken is = c.main.ensures blocks side taken (subst (λ (v : CountsView). IsTableOf blocks side taken v.table) (sym c.self.view_is) is)
