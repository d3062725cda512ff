-- What contracts see of the counts of a side.
use Rattle.std.specs.Prelude.{ℕ, ℤ, List, Option}
use Rattle.ipdl_base.specs.declared.value.Values.{Values}
use Rattle.ipdl_base.specs.Plain.{plain_values}
use Rattle.channel_model.specs.Ends.{Resolver}
use Rattle.script_parts.specs.declared.blocks.BlockTable.{BlockTable}
use Rattle.world_core.specs.declared.counts.RunningRequest.{RunningRequest}

-- A request whose handler runs, its values with every box at one place.
pub record RunningView : Type 0 where
  pub block : Option ℕ
  pub acts : ℕ
  pub given : Values
  pub made : ℤ
  pub resolver : Option Resolver

abbrev pub view_of : RunningRequest → RunningView
view_of r = record { block = r.block; acts = r.acts; given = plain_values r.given; made = r.made; resolver = r.resolver }

-- The numbers of events of the side and of acts of its main, the table of blocks, and
-- the requests whose handlers run, the innermost first.
pub record CountsView : Type 0 where
  pub events : ℕ
  pub main : ℕ
  pub table : BlockTable
  pub running : List RunningView
