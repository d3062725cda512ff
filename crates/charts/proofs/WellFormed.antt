-- The picture of a history is one element.
use Rattle.std.proofs.Common.{◌≡◌, ℕ, ◌+◌, ◌*◌, true, List, [], ◌∷◌, ◌++◌, refl, sym, ap, subst, ◌∙◌, append_assoc, Option, Some, None, length}
use Rattle.std.specs.Prelude.{codes}
use Rattle.std.specs.Fmt.{decimal}
use Rattle.ipdl_base.specs.declared.kinds.Side.{Side}
use Rattle.ipdl_base.specs.declared.kinds.Side.TheVariants as side
use Rattle.ipdl_base.specs.declared.line.Line.{Line}
use Rattle.ipdl_base.specs.declared.schema.Schema.{Schema}
use Rattle.history.specs.Text.{line_begin}
use Rattle.charts.specs.Chart.{ending_words, foot, head_end, head_start, label, line_words, lifeline, row_text, rows_text}
use Rattle.charts.specs.Documents.{AreAttributes, Attribute, IsContent, nothing, attributes_text, element_around}
use Rattle.charts.specs.Escapes.{shown}
use Rattle.charts.specs.Laws.{ChartsAreWellFormed}
use Rattle.charts.specs.Marks.{marks, place_of}
use Rattle.charts.specs.Rows.{HistoryRows, rows_from}
use Rattle.charts.specs.Strokes.{words}
use Rattle.charts.specs.declared.marks.Place.{Place}
use Rattle.charts.proofs.Contents.{alone_around, alone_empty, beside, characters, decimal_value, shown_content}
use Rattle.charts.proofs.Drawn.{IsStyle, at, label_content, lifeline_content, marks_content, spot, words_content}
use Rattle.charts.proofs.Tests.{both_hold}

-- Constant elements

no_attributes : AreAttributes []
no_attributes = record { each = refl; distinct = refl }

title_content : IsContent (codes "<title id=\"name\">The history of a channel</title>")
title_content = alone_around (codes "title") (at (codes "id") (codes "name") ∷ []) (codes "The history of a channel") refl (record { each = refl; distinct = refl }) (characters _ refl)

about_content : IsContent (codes "<desc id=\"about\">The lifeline of the parent is on the left and that of the child on the right. Each row is a line of the history. Arrows go from a send to its delivery, bars are handlers and waits.</desc>")
about_content =
    alone_around (codes "desc") (at (codes "id") (codes "about") ∷ [])
    (codes "The lifeline of the parent is on the left and that of the child on the right. Each row is a line of the history. Arrows go from a send to its delivery, bars are handlers and waits.") refl
    (record { each = refl; distinct = refl }) (characters _ refl)

abbrev colors : List ℕ
colors = codes "@media(prefers-color-scheme:dark){.ground{fill:#16181c}text{fill:#e6e6e6}.trouble{fill:#ffa07a}.life{stroke:#aaa}.request,.outbox,.wait{stroke:#56b4e9}.wait{fill:#16181c}.reply{stroke:#2fc79b}.farewell,.fall{stroke:#ff8c42}.item{stroke:#e58fd2}}"

style_content : IsContent (codes "<style>" ++ colors ++ codes "</style>")
style_content = alone_around (codes "style") [] colors refl no_attributes (characters _ refl)

abbrev arrow_head : List ℕ
arrow_head = codes "<path fill=\"context-stroke\" d=\"M0 0L8 4L0 8Z\"/>"

arrow_head_content : IsContent arrow_head
arrow_head_content = alone_empty (codes "path") (at (codes "fill") (codes "context-stroke") ∷ at (codes "d") (codes "M0 0L8 4L0 8Z") ∷ []) refl (record { each = refl; distinct = refl })

abbrev marker : List ℕ
marker = codes "<marker id=\"head\" viewBox=\"0 0 8 8\" refX=\"8\" refY=\"4\" markerWidth=\"8\" markerHeight=\"8\" markerUnits=\"userSpaceOnUse\" orient=\"auto\">" ++ arrow_head ++ codes "</marker>"

marker_content : IsContent marker
marker_content =
    alone_around (codes "marker")
    (at (codes "id") (codes "head") ∷ at (codes "viewBox") (codes "0 0 8 8") ∷ at (codes "refX") (codes "8") ∷ at (codes "refY") (codes "4") ∷ at (codes "markerWidth") (codes "8")
    ∷ at (codes "markerHeight") (codes "8") ∷ at (codes "markerUnits") (codes "userSpaceOnUse") ∷ at (codes "orient") (codes "auto") ∷ [])
    arrow_head refl (record { each = refl; distinct = refl }) arrow_head_content

defs_content : IsContent (codes "<defs>" ++ marker ++ codes "</defs>")
defs_content = alone_around (codes "defs") [] marker refl no_attributes marker_content

ground_content : IsContent (codes "<rect class=\"ground\" width=\"100%\" height=\"100%\" fill=\"#fff\"/>")
ground_content =
    alone_empty (codes "rect") (at (codes "class") (codes "ground") ∷ at (codes "width") (codes "100%") ∷ at (codes "height") (codes "100%") ∷ at (codes "fill") (codes "#fff") ∷ []) refl
    (record { each = refl; distinct = refl })

parent_content : IsContent (codes "<text x=\"600\" y=\"32\" text-anchor=\"middle\" font-size=\"16\">parent</text>")
parent_content =
    alone_around (codes "text") (at (codes "x") (codes "600") ∷ at (codes "y") (codes "32") ∷ at (codes "text-anchor") (codes "middle") ∷ at (codes "font-size") (codes "16") ∷ []) (codes "parent") refl
    (record { each = refl; distinct = refl }) (characters _ refl)

child_content : IsContent (codes "<text x=\"800\" y=\"32\" text-anchor=\"middle\" font-size=\"16\">child</text>")
child_content =
    alone_around (codes "text") (at (codes "x") (codes "800") ∷ at (codes "y") (codes "32") ∷ at (codes "text-anchor") (codes "middle") ∷ at (codes "font-size") (codes "16") ∷ []) (codes "child") refl
    (record { each = refl; distinct = refl }) (characters _ refl)

line_feed : IsContent (codes "\n")
line_feed = characters (codes "\n") refl

-- content and a line feed
ended : {text : List ℕ} → IsContent text → IsContent (text ++ codes "\n")
ended p = beside p line_feed

-- what is constant in the document
constant : List ℕ
constant =
    codes "\n" ++ (codes "<title id=\"name\">The history of a channel</title>" ++ codes "\n")
    ++ (codes "<desc id=\"about\">The lifeline of the parent is on the left and that of the child on the right. Each row is a line of the history. Arrows go from a send to its delivery, bars are handlers and waits.</desc>"
    ++ codes "\n")
    ++ (codes "<style>" ++ colors ++ codes "</style>" ++ codes "\n") ++ (codes "<defs>" ++ marker ++ codes "</defs>" ++ codes "\n")
    ++ (codes "<rect class=\"ground\" width=\"100%\" height=\"100%\" fill=\"#fff\"/>" ++ codes "\n")
    ++ (codes "<text x=\"600\" y=\"32\" text-anchor=\"middle\" font-size=\"16\">parent</text>" ++ codes "\n")
    ++ (codes "<text x=\"800\" y=\"32\" text-anchor=\"middle\" font-size=\"16\">child</text>" ++ codes "\n")

constant_content : IsContent constant
unfolding constant
constant_content =
    beside (beside (beside (beside (beside (beside (beside line_feed (ended title_content)) (ended about_content)) (ended style_content)) (ended defs_content)) (ended ground_content)) (ended parent_content))
    (ended child_content)

-- The outermost element

abbrev svg_attributes : List ℕ → List Attribute
svg_attributes high =
    at (codes "xmlns") (codes "http://www.w3.org/2000/svg") ∷ at (codes "viewBox") (codes "0 0 1400 " ++ high) ∷ at (codes "role") (codes "img") ∷ at (codes "aria-labelledby") (codes "name about")
    ∷ at (codes "font-family") (codes "ui-monospace, Menlo, Consolas, 'DejaVu Sans Mono', monospace") ∷ at (codes "font-size") (codes "13") ∷ []

abbrev opening : List ℕ
opening = codes "\" role=\"img\" aria-labelledby=\"name about\" font-family=\"ui-monospace, Menlo, Consolas, 'DejaVu Sans Mono', monospace\" font-size=\"13\">"

head_end_parts : head_end ≡ opening ++ constant
unfolding constant head_end
head_end_parts = refl

regrouped : (start high quote more close : List ℕ) → start ++ (high ++ quote ++ more) ++ close ≡ start ++ high ++ (quote ++ more ++ close)
regrouped start high quote more close = simp append_assoc

opens : (high : List ℕ) → codes "<" ++ codes "svg" ++ attributes_text (svg_attributes high) ++ codes ">" ≡ head_start ++ high ++ opening
unfolding head_start
opens high =
    regrouped head_start high (codes "\"") (codes " role=\"img\" aria-labelledby=\"name about\" font-family=\"ui-monospace, Menlo, Consolas, 'DejaVu Sans Mono', monospace\" font-size=\"13\"") (codes ">")

svg_are : (n : ℕ) → AreAttributes (svg_attributes (decimal n))
svg_are n = record { each = both_hold _ true (decimal_value n) refl; distinct = refl }

-- Rows

row_regrouped : (group title text out title' close drawn words group' feed : List ℕ)
    → group ++ (title ++ text ++ out ++ title' ++ close ++ drawn ++ words) ++ out ++ group' ++ close ++ feed ≡ group ++ title ++ text ++ (out ++ title' ++ close) ++ (drawn ++ (words ++ (out ++ group' ++ close ++ feed)))
row_regrouped group title text out title' close drawn words group' feed = simp append_assoc

module _ (schema : Schema) (rows : HistoryRows) (count : ℕ) where
  -- the row of a line is an element and a line feed
  row_content : (before : List Line) (line : Line) → IsContent (row_text schema rows count before line)
  row_content before line =
      subst IsContent
      (row_regrouped (codes "<g>") (codes "<title>") (shown (line_begin line ++ text)) (codes "</") (codes "title") (codes ">") (marks rows place line.what) (label schema place text line.what) (codes "g") (codes "\n"))
      (ended (alone_around (codes "g") [] (element_around (codes "title") [] (shown (line_begin line ++ text)) ++ marks rows place line.what ++ label schema place text line.what) refl no_attributes
      (beside (beside (alone_around (codes "title") [] (shown (line_begin line ++ text)) refl no_attributes (shown_content (line_begin line ++ text))) (marks_content rows place line.what)) (label_content schema place text line.what))))
    where
      place : Place
      place = place_of count before line.side

      text : List ℕ
      text = line_words schema before line

  rows_content : (before lines : List Line) → IsContent (rows_text schema rows count before lines)
  rows_content before [] = nothing
  rows_content before (line ∷ rest) = beside (row_content before line) (rows_content (before ++ line ∷ []) rest)

-- The ending

ending_style : IsStyle spot (codes "text-anchor=\"middle\" font-size=\"16\"")
ending_style = record { attributes = at (codes "text-anchor") (codes "middle") ∷ at (codes "font-size") (codes "16") ∷ []; is = refl; each = refl; distinct = λ p. refl }

ending_content : (spent : Option Side) → IsContent (ending_words spent)
ending_content None = characters _ refl
ending_content (Some side.Parent) = characters _ refl
ending_content (Some side.Child) = characters _ refl

ending : ℕ → Option Side → List ℕ
ending count spent = words (codes "text-anchor=\"middle\" font-size=\"16\"") 700 (110 + 20 * count) (ending_words spent)

-- The document

document_regrouped : (begin body one two feed rows words out name close : List ℕ)
    → begin ++ body ++ (one ++ two ++ feed) ++ rows ++ (words ++ (feed ++ out ++ name ++ close ++ feed)) ≡ begin ++ (body ++ one ++ two ++ feed ++ rows ++ words ++ feed) ++ out ++ name ++ close ++ feed
document_regrouped begin body one two feed rows words out name close = simp append_assoc

-- the law of documents
pub charts_are_well_formed : ChartsAreWellFormed
unfolding ending
charts_are_well_formed schema lines spent = record {
  attributes = svg_attributes (decimal (130 + 20 * length lines));
  content = constant ++ lifeline rows.parent side.Parent (length lines) ++ lifeline rows.child side.Child (length lines) ++ codes "\n" ++ rows_text schema rows (length lines) [] lines ++ ending (length lines) spent ++ codes "\n";
  named = refl;
  are_attributes = svg_are (130 + 20 * length lines);
  is_content =
      ended (beside (beside (ended (beside (beside constant_content (lifeline_content rows.parent side.Parent (length lines))) (lifeline_content rows.child side.Child (length lines)))) (rows_content schema rows (length lines) [] lines))
      (words_content _ ending_style 700 (110 + 20 * length lines) (ending_words spent) (ending_content spent)));
  whole =
      ap (λ (t : List ℕ). t ++ (lifeline rows.parent side.Parent (length lines) ++ lifeline rows.child side.Child (length lines) ++ codes "\n") ++ rows_text schema rows (length lines) [] lines ++ foot (length lines) spent)
      (ap (λ (t : List ℕ). head_start ++ decimal (130 + 20 * length lines) ++ t) head_end_parts ∙ sym (append_assoc (head_start ++ decimal (130 + 20 * length lines)) opening constant)
      ∙ ap (λ (t : List ℕ). t ++ constant) (sym (opens (decimal (130 + 20 * length lines)))))
      ∙ document_regrouped (codes "<" ++ codes "svg" ++ attributes_text (svg_attributes (decimal (130 + 20 * length lines))) ++ codes ">") constant (lifeline rows.parent side.Parent (length lines))
      (lifeline rows.child side.Child (length lines)) (codes "\n") (rows_text schema rows (length lines) [] lines) (ending (length lines) spent) (codes "</") (codes "svg") (codes ">");
}
  where
    rows : HistoryRows
    rows = rows_from schema 0 lines
