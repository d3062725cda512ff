-- The picture of a history: one SVG document, with two lifelines and a row for each line.
use Rattle.std.specs.Prelude.{ℕ, ◌+◌, ◌*◌, ◌-◌, Bool, true, false, if◌then◌else◌, List, [], ◌∷◌, ◌++◌, codes, length, Option, Some, None}
use Rattle.std.specs.Fmt.{decimal}
use Rattle.ipdl_base.specs.Lines.{is_effect}
use Rattle.ipdl_base.specs.declared.kinds.Side.{Side}
use Rattle.ipdl_base.specs.declared.kinds.Side.TheVariants as side
use Rattle.ipdl_base.specs.declared.line.Line.{Line}
use Rattle.ipdl_base.specs.declared.line.What.{What}
use Rattle.ipdl_base.specs.declared.line.What.TheVariants as what
use Rattle.ipdl_base.specs.declared.schema.Schema.{Schema}
use Rattle.history.specs.Messages.{message_of_number}
use Rattle.history.specs.Text.{line_begin, returns_named, what_text}
use Rattle.charts.specs.Escapes.{shown}
use Rattle.charts.specs.Labels.{cut, row_words}
use Rattle.charts.specs.Marks.{marks, place_of}
use Rattle.charts.specs.Rows.{HistoryRows, bottom, rows_from}
use Rattle.charts.specs.Strokes.{height, lane, stroke, words}
use Rattle.charts.specs.declared.marks.Place.{Place}
use Rattle.charts.specs.declared.rows.SideRows.{SideRows}

-- Rows

-- the words of a line after others, without the end at its beginning
abbrev pub line_words : Schema → List Line → Line → List ℕ
line_words schema before line = what_text schema (λ n. returns_named schema (message_of_number line.side before n)) line.what

-- whether a line tells of trouble: a refusal, a drop, a fault, a fall or a death
abbrev pub is_trouble : What → Bool
is_trouble (what.RefusedSend cause message) = true
is_trouble (what.RefusedClose cause) = true
is_trouble (what.RefusedResolve cause) = true
is_trouble (what.RefusedReject cause) = true
is_trouble (what.Drop n route message id) = true
is_trouble (what.Replaced n) = true
is_trouble (what.ResumeFault n reason) = true
is_trouble (what.AnswerFault n reason) = true
is_trouble (what.Fails n) = true
is_trouble (what.Rejected n reason) = true
is_trouble (what.Fall id destroy) = true
is_trouble what.Die = true
is_trouble what.DeliverBroken = true
is_trouble _ = false

-- the color of words
abbrev pub tone : What → List ℕ
tone w = if is_trouble w then codes " class=\"trouble\" fill=\"#9a3412\"" else (if is_effect w then codes " opacity=\".75\"" else [])

-- on which side of their place the words of a label are, and where that place is
abbrev pub anchor : Side → List ℕ
anchor side.Parent = codes "text-anchor=\"end\""
anchor side.Child = codes "text-anchor=\"start\""

abbrev pub label_place : Side → ℕ
label_place side.Parent = 545
label_place side.Child = 855

-- the label of a row, by the words of its line
abbrev pub label : Schema → Place → List ℕ → What → List ℕ
label schema place text what =
    words (anchor place.side ++ tone what) (label_place place.side) (74 + 20 * place.row) (cut (row_words schema text what))

-- the beginning of a row, and its title
abbrev pub title : List ℕ → List ℕ
title text = codes "<g><title>" ++ shown text ++ codes "</title>"

-- A row at a place, by the words of its line: a group that has the whole line as its title, what is drawn of the line, and its label.
abbrev pub row_at : Schema → HistoryRows → Place → Line → List ℕ → List ℕ
row_at schema rows place line text = title (line_begin line ++ text) ++ (marks rows place line.what ++ (label schema place text line.what ++ codes "</g>\n"))

-- the row of a line after others, of so many
abbrev pub row_text : Schema → HistoryRows → ℕ → List Line → Line → List ℕ
row_text schema rows count before line = row_at schema rows (place_of count before line.side) line (line_words schema before line)

-- the rows of lines after others
abbrev pub rows_text : Schema → HistoryRows → ℕ → List Line → List Line → List ℕ
rows_text schema rows count before [] = []
rows_text schema rows count before (line ∷ rest) = row_text schema rows count before line ++ rows_text schema rows count (before ++ line ∷ []) rest

-- Lifelines

abbrev pub life_style : List ℕ
life_style = codes "class=\"life\" stroke=\"#555\" stroke-width=\"1\""

-- the end of a lifeline
abbrev pub cap : Side → ℕ → List ℕ
cap side row = stroke life_style (lane side - 12) (height row) (lane side + 12) (height row)

-- the lifeline of a side, down to its end, which is marked if the side has ended
abbrev pub lifeline : SideRows → Side → ℕ → List ℕ
lifeline rows side count =
    stroke life_style (lane side) 44 (lane side) (height (bottom rows count)) ++ (if rows.ended then cap side (bottom rows count) else [])

-- The document

-- its beginning, up to its height
unfoldable pub head_start : List ℕ
head_start = codes "<svg xmlns=\"http://www.w3.org/2000/svg\" viewBox=\"0 0 1400 "

-- its beginning after its height: names for readers that do not see it, colors for dark screens, the head of an arrow, the ground
-- and the names of the sides
unfoldable pub head_end : List ℕ
head_end = codes "\" role=\"img\" aria-labelledby=\"name about\" font-family=\"ui-monospace, Menlo, Consolas, 'DejaVu Sans Mono', monospace\" font-size=\"13\">\n<title id=\"name\">The history of a channel</title>\n<desc id=\"about\">The lifeline of the parent is on the left and that of the child on the right. Each row is a line of the history. Arrows go from a send to its delivery, bars are handlers and waits.</desc>\n<style>@media(prefers-color-scheme:dark){.ground{fill:#16181c}text{fill:#e6e6e6}.trouble{fill:#ffa07a}.life{stroke:#aaa}.request,.outbox,.wait{stroke:#56b4e9}.wait{fill:#16181c}.reply{stroke:#2fc79b}.farewell,.fall{stroke:#ff8c42}.item{stroke:#e58fd2}}</style>\n<defs><marker id=\"head\" viewBox=\"0 0 8 8\" refX=\"8\" refY=\"4\" markerWidth=\"8\" markerHeight=\"8\" markerUnits=\"userSpaceOnUse\" orient=\"auto\"><path fill=\"context-stroke\" d=\"M0 0L8 4L0 8Z\"/></marker></defs>\n<rect class=\"ground\" width=\"100%\" height=\"100%\" fill=\"#fff\"/>\n<text x=\"600\" y=\"32\" text-anchor=\"middle\" font-size=\"16\">parent</text>\n<text x=\"800\" y=\"32\" text-anchor=\"middle\" font-size=\"16\">child</text>\n"

-- how the run ended: the side that has the most events, if one has
abbrev pub ending_words : Option Side → List ℕ
ending_words None = codes "finished"
ending_words (Some side.Parent) = codes "spent parent"
ending_words (Some side.Child) = codes "spent child"

-- its end, after so many rows
abbrev pub foot : ℕ → Option Side → List ℕ
foot count spent = words (codes "text-anchor=\"middle\" font-size=\"16\"") 700 (110 + 20 * count) (ending_words spent) ++ codes "\n</svg>\n"

-- its beginning up to the lifelines, for so many rows
abbrev pub opening : ℕ → List ℕ
opening count = head_start ++ decimal (130 + 20 * count) ++ head_end

-- its beginning, with the lifelines of so many rows
abbrev pub head : HistoryRows → ℕ → List ℕ
head rows count = opening count ++ (lifeline rows.parent side.Parent count ++ lifeline rows.child side.Child count ++ codes "\n")

-- the picture of lines, by their rows
abbrev pub chart_by : Schema → HistoryRows → List Line → Option Side → List ℕ
chart_by schema rows lines spent = head rows (length lines) ++ rows_text schema rows (length lines) [] lines ++ foot (length lines) spent

-- The picture of a history, and of how its run ended.
abbrev pub chart_text : Schema → List Line → Option Side → List ℕ
chart_text schema lines spent = chart_by schema (rows_from schema 0 lines) lines spent
