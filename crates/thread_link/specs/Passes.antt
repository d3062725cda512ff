-- What contracts see of a pass and of an exchange.
use Rattle.std.specs.Prelude.{◌≡◌, List}
use Rattle.ipdl_base.specs.declared.kinds.Side.{Side}
use Rattle.ipdl_base.specs.declared.line.Line.{Line}
use Rattle.script_steps.specs.Choices.{Setting}
use Rattle.thread_link.specs.declared.pass.Exchange.{Exchange}
use Rattle.thread_link.specs.declared.pass.Pass.{Pass}
use Rattle.thread_link.specs.LinkRule.{seen_by}
use Rattle.world_core.specs.HalfView.{setting_of}

-- the lines that the side of a pass has seen
abbrev pub seen : Pass → List Line
seen pass = seen_by pass.side pass.seat.me.0

-- where a half of the side of a pass is: in which run, on which side, and after which lines
abbrev pub place_of : Pass → Setting × Side × List Line
place_of pass = (pass.seat.me.0.setting, pass.side, seen pass)

-- what the run of an exchange is about
abbrev pub about : Exchange → Setting
about exchange = setting_of exchange.table.shared.key.half.value

-- A pass belongs to an exchange, and knows the run that it is about.
pub record Belongs (exchange : Exchange) (pass : Pass) : Type 0 where
  pub table : pass.seat.table_id ≡ exchange.table.shared.table_id
  pub setting : pass.seat.me.0.setting ≡ about exchange
