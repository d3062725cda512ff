-- The text of each mark of a picture.
use Rattle.std.specs.Prelude.{ℕ, ◌+◌, ◌*◌, Bool, true, false, List, ◌++◌, codes, Option, is_some, unwrap_or}
use Rattle.std.specs.Fmt.{decimal}
use Rattle.ipdl_base.specs.Sides.{other}
use Rattle.ipdl_base.specs.declared.kinds.Side.{Side}
use Rattle.ipdl_base.specs.declared.kinds.Side.TheVariants as side
use Rattle.charts.specs.declared.strokes.Arrow.{Arrow}
use Rattle.charts.specs.declared.strokes.Arrow.TheVariants as arrow

-- how far below the top of the page a row is
abbrev pub height : ℕ → ℕ
height row = 70 + 20 * row

-- where the lifeline of a side is
abbrev pub lane : Side → ℕ
lane side.Parent = 600
lane side.Child = 800

-- where arrows begin and end at a side: beside the lifeline, toward the other
abbrev pub edge : Side → ℕ
edge side.Parent = 607
edge side.Child = 793

-- two numbers with a text between them
abbrev pub pair : ℕ → List ℕ → ℕ → List ℕ
pair one between other = decimal one ++ between ++ decimal other

-- the ends of a line, after its style
abbrev pub ends : ℕ → ℕ → ℕ → ℕ → List ℕ
ends x y to_x to_y = codes " d=\"M" ++ pair x (codes " ") y ++ codes "L" ++ pair to_x (codes " ") to_y ++ codes "\"/>"

-- a line between two points
abbrev pub stroke : List ℕ → ℕ → ℕ → ℕ → ℕ → List ℕ
stroke style x y to_x to_y = codes "<path " ++ style ++ ends x y to_x to_y

-- where something is
abbrev pub place : ℕ → ℕ → List ℕ
place x y = codes " x=\"" ++ pair x (codes "\" y=\"") y ++ codes "\""

-- how high a bar is, whose width is 10
abbrev pub bar_size : ℕ → List ℕ
bar_size size = codes " width=\"10\" height=\"" ++ decimal size ++ codes "\"/>"

-- a bar
abbrev pub bar : List ℕ → ℕ → ℕ → ℕ → List ℕ
bar style x y size = codes "<rect " ++ style ++ place x y ++ bar_size size

-- the beginning of words at a place
abbrev pub words_begin : List ℕ → ℕ → ℕ → List ℕ
words_begin style x y = codes "<text " ++ style ++ place x y ++ codes ">"

-- words at a place
abbrev pub words : List ℕ → ℕ → ℕ → List ℕ → List ℕ
words style x y body = words_begin style x y ++ body ++ codes "</text>"

-- Styles

-- the style of an arrow's line: a request whose sender waits, another request, a reply, a goodbye or a death
abbrev pub arrow_style : Arrow → List ℕ
arrow_style arrow.Sync = codes "class=\"request\" stroke=\"#0072b2\" stroke-width=\"2\""
arrow_style arrow.Async = codes "class=\"request\" stroke=\"#0072b2\" stroke-width=\"2\" stroke-dasharray=\"7 4\""
arrow_style arrow.Reply = codes "class=\"reply\" stroke=\"#007a5a\" stroke-width=\"1\""
arrow_style arrow.Farewell = codes "class=\"farewell\" stroke=\"#b34700\" stroke-width=\"2\" stroke-dasharray=\"2 3\""

-- the end of an arrow: a head where it arrives
abbrev pub arrow_end : Bool → List ℕ
arrow_end true = codes " marker-end=\"url(#head)\""
arrow_end false = codes " opacity=\".5\""

-- An arrow of a side from a row to the row of the other side at which it arrives, or to the bottom if it does not.
abbrev pub arrow_text : Arrow → Side → ℕ → Option ℕ → ℕ → List ℕ
arrow_text kind side from to bottom =
    stroke (arrow_style kind ++ arrow_end (is_some to)) (edge side) (height from) (edge (other side)) (height (unwrap_or to bottom))
