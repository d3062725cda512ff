-- The lines of one end in a history.
use Rattle.std.specs.Prelude.{Bool, true, not, if◌then◌else◌, List, [], ◌∷◌, ◌++◌, reverse, find, filter_map, Option, Some, None}
use Rattle.std.specs.List.{cons_option}
use Rattle.ipdl_base.specs.declared.kinds.Side.{Side}
use Rattle.ipdl_base.specs.declared.line.Line.{Line}
use Rattle.ipdl_base.specs.declared.line.What.{What}
use Rattle.ipdl_base.specs.Lines.{is_effect, same_side}

-- a line of an end
abbrev pub line_of : Side → What → Line
line_of end what = record { side = end; what = what }

-- the content of the lines of an end, in order
abbrev pub said_in : Side → Line → Option What
said_in end line = if same_side line.side end then Some line.what else None

abbrev pub said_by : Side → List Line → List What
said_by end lines = filter_map (said_in end) lines

-- a list made from the lines of an end, in order, each element from a line and those before it
abbrev pub made_of : {A : Type 0} → (List What → What → Option A) → List What → List What → List A
made_of make before [] = []
made_of make before (what ∷ following) = cons_option (make before what) (made_of make (before ++ what ∷ []) following)

-- whether a line is an event, and the last event
abbrev pub is_event : What → Bool
is_event what = not (is_effect what)

abbrev pub last_event : List What → Option What
last_event said = find is_event (reverse said)

-- whether a place is a moment, by the lines that follow: they begin with an event, or there are no more lines
abbrev pub is_moment : List Line → Bool
is_moment [] = true
is_moment (line ∷ following) = is_event line.what
