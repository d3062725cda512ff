-- What contracts see of one side of a run.
use Rattle.std.specs.Prelude.{ℕ, List, [], map, Option}
use Rattle.handler_script.specs.declared.script.Script.{Script}
use Rattle.ipdl_base.specs.declared.line.Line.{Line}
use Rattle.ipdl_base.specs.declared.line.What.{What}
use Rattle.channel_core.specs.EndView.{EndView}
use Rattle.schedules.specs.declared.stop.Stop.{Stop}
use Rattle.script_steps.specs.Choices.{Setting}
use Rattle.script_steps.specs.Progress.{Progress}
use Rattle.world_core.specs.CountsView.{CountsView}
use Rattle.world_core.specs.Counted.{AreCountsOf}
use Rattle.world_core.specs.Resolvers.{HoldResolvers}

-- The end, with the lines and packets that were not appended to the link; the script, the stop and the limit; the counts
-- of its side; and the lines that the half has taken over from its end, with room for this number of lines more.
pub record HalfView : Type 0 where
  pub end : EndView
  pub script : Script
  pub stop : Option Stop
  pub limit : ℕ
  pub counts : CountsView
  pub history : List Line
  pub spare : ℕ

-- the setting of the run of a half
abbrev pub setting_of : HalfView → Setting
setting_of half = record { schema = half.end.schema; script = half.script; stop = half.stop; limit = half.limit }

-- A half has come as far as this progress, and its running requests have the resolvers of their dispatches.
pub record IsCountedBy (half : HalfView) (progress : Progress) : Type 0 where
  pub counts : AreCountsOf half.script half.end.end.side progress half.counts
  pub held : HoldResolvers half.counts.running half.end.end

-- what lines report
abbrev pub whats_of : List Line → List What
whats_of lines = map (λ line. line.what) lines

-- a half with nothing to append
abbrev pub appended : HalfView → HalfView
appended half = record half { end = record { end = half.end.end; schema = half.end.schema; lines = []; packets = [] } }
