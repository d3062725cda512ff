-- What contracts see of an exploration.
use Rattle.std.specs.Prelude.{map, Option, Some, None}
use Rattle.ipdl_base.specs.declared.kinds.Side.{Side}
use Rattle.script_steps.specs.Turns.{RunEnding, at_rest, at_limit}
use Rattle.explorations.specs.declared.way.Exploration.{Exploration}
use Rattle.explorations.specs.declared.way.Way.{Way}
use Rattle.explorations.specs.Explorations as ways

-- how a run ends where this side is spent, or none
abbrev pub ending_of : Option Side → RunEnding
ending_of None = at_rest
ending_of (Some side) = at_limit side

abbrev pub way_seen : Way → ways.Way
way_seen way = record { ending = ending_of way.spent; word = way.word.items }

abbrev pub exploration_seen : Exploration → ways.Exploration
exploration_seen exploration = record { ways = map way_seen exploration.ways.items; whole = exploration.whole }
