-- What a side has seen of a history.
use Rattle.std.specs.Prelude.{◌≡◌, [], ◌++◌, List}
use Rattle.ipdl_base.specs.declared.kinds.Side.{Side}
use Rattle.ipdl_base.specs.declared.line.Line.{Line}
use Rattle.script_steps.specs.Progress.{lines_of}

-- What a side has seen is a prefix of the history. The rest has no line of that side.
pub record HasSeen (side : Side) (seen all : List Line) : Type 0 where
  pub rest : List Line
  pub front : seen ++ rest ≡ all
  pub others : lines_of side rest ≡ []
