-- How many bars and items there were before a row, side by side.
use Rattle.std.specs.Prelude.{◌≡◌, ℕ, ◌+◌, ◌-◌, ◌<◌, ◌&&◌, Bool, if◌then◌else◌, List}
use Rattle.ipdl_base.specs.Lines.{same_side}
use Rattle.ipdl_base.specs.declared.kinds.Side.{Side}
use Rattle.ipdl_base.specs.declared.kinds.Side.TheVariants as side
use Rattle.ipdl_base.specs.declared.line.Line.{Line}
use Rattle.charts.specs.Rows.{begins_bar, brings_item, count_of, ends_bar}
use Rattle.history.specs.Written.{HasWritten}
use Rattle.charts.specs.declared.chart.Pen.{Pen}
use Rattle.charts.specs.declared.marks.Place.{Place}
use Rattle.charts.specs.declared.tally.Tally.{Tally}

-- the tally of a side, of lines
abbrev pub tally_of : Side → List Line → Tally
tally_of side lines = record { begun = count_of begins_bar side lines; ended = count_of ends_bar side lines; brought = count_of brings_item side lines }

-- 1 if the test holds, and 0 if not
abbrev pub one_if : Bool → ℕ
one_if holds = if holds then 1 else 0

-- the tally with one more line
abbrev pub tally_with : Side → Tally → Line → Tally
tally_with side tally line = record {
  begun = tally.begun + one_if (same_side line.side side && begins_bar line.what);
  ended = tally.ended + one_if (same_side line.side side && ends_bar line.what);
  brought = tally.brought + one_if (same_side line.side side && brings_item line.what);
}

-- each count is below this number
pub record AreBelow (bound : ℕ) (tally : Tally) : Type 0 where
  pub begun : tally.begun < bound
  pub ended : tally.ended < bound
  pub brought : tally.brought < bound

-- where a line is drawn, by the tally of its side
abbrev pub place_by : ℕ → ℕ → Tally → Side → Place
place_by count row tally side = record { side = side; row = row; count = count; depth = tally.begun - tally.ended; brought = tally.brought }

-- what the writer of rows knows after some lines
pub record KnowsLines (lines : List Line) (pen : Pen) : Type 0 where
  pub written : HasWritten lines pen.writer
  pub parent : pen.parent ≡ tally_of side.Parent lines
  pub child : pen.child ≡ tally_of side.Child lines

-- the tally of a side
abbrev pub tally_at : Pen → Side → Tally
tally_at pen side.Parent = pen.parent
tally_at pen side.Child = pen.child
