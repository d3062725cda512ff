-- What is drawn of a line is content: strokes, bars and words are elements.
use Rattle.std.proofs.Common.{◌≡◌, ℕ, ◌+◌, ◌*◌, ◌-◌, Bool, true, false, List, [], ◌∷◌, ◌++◌, refl, sym, ap, subst, ◌∙◌, append_assoc, IsTrue, Option, Some, None, is_some, ℤ, unwrap_or, cond}
use Rattle.std.specs.Prelude.{codes}
use Rattle.std.specs.List.{list_all}
use Rattle.std.specs.Fmt.{decimal}
use Rattle.std.proofs.lemmas.List.{append-nil}
use Rattle.ipdl_base.specs.Lines.{is_effect}
use Rattle.ipdl_base.specs.Sides.{other}
use Rattle.ipdl_base.specs.declared.kinds.Side.{Side}
use Rattle.ipdl_base.specs.declared.kinds.Side.TheVariants as side
use Rattle.ipdl_base.specs.declared.line.What.{What}
use Rattle.ipdl_base.specs.declared.line.What.TheVariants as what
use Rattle.ipdl_base.specs.declared.schema.Schema.{Schema}
use Rattle.charts.specs.Chart.{anchor, cap, is_trouble, label, label_place, life_style, lifeline, tone}
use Rattle.charts.specs.Documents.{AreAttributes, Attribute, IsContent, nothing, are_distinct, attributes_text, is_attribute, is_value_byte}
use Rattle.charts.specs.Labels.{cut, row_words}
use Rattle.charts.specs.Marks.{arrow_at, bar_at, bar_place, bottom_at, cross, dispatch_style, down, fall_style, is_closing, item_at, item_place, item_style, marks, outbox_place, outbox_style, send_at, size, wait_style}
use Rattle.charts.specs.Rows.{HistoryRows, bottom, rows_of}
use Rattle.charts.specs.Strokes.{arrow_end, arrow_style, arrow_text, bar, edge, height, lane, stroke, words}
use Rattle.charts.specs.declared.marks.Place.{Place}
use Rattle.charts.specs.declared.rows.SideRows.{SideRows}
use Rattle.charts.specs.declared.strokes.Arrow.{Arrow}
use Rattle.charts.specs.declared.strokes.Arrow.TheVariants.{Async, Farewell, Reply, Sync}
use Rattle.charts.proofs.Contents.{all_beside, alone_around, alone_empty, beside, cut_content, decimal_value}
use Rattle.charts.proofs.Tests.{both_hold}

-- Styles

-- an attribute
abbrev pub at : List ℕ → List ℕ → Attribute
at name value = record { name = name; value = value }

-- the texts of attributes, side by side
attributes_beside : (one other : List Attribute) → attributes_text (one ++ other) ≡ attributes_text one ++ attributes_text other
attributes_beside [] other = refl
attributes_beside (a ∷ rest) other =
    ap (λ (t : List ℕ). codes " " ++ a.name ++ codes "=\"" ++ a.value ++ codes "\"" ++ t) (attributes_beside rest other)
    ∙ sym (append_assoc (codes " " ++ a.name ++ codes "=\"" ++ a.value ++ codes "\"") (attributes_text rest) (attributes_text other))

-- A style, which is attributes, to which these are added by some values.
pub record IsStyle {Values : Type 0} (added : Values → List Attribute) (style : List ℕ) : Type 0 where
  pub attributes : List Attribute
  pub is : codes " " ++ style ≡ attributes_text attributes
  pub each : IsTrue (list_all is_attribute attributes)
  pub distinct : (values : Values) → IsTrue (are_distinct (attributes ++ added values))

-- the attributes of an element of a style
styled : {Values : Type 0} {added : Values → List Attribute} {style : List ℕ} (s : IsStyle added style) (values : Values) → IsTrue (list_all is_attribute (added values)) → AreAttributes (s.attributes ++ added values)
styled {added = added} s values are = record { each = all_beside is_attribute s.attributes (added values) s.each are; distinct = s.distinct values }

-- their text
styled_text : {Values : Type 0} {added : Values → List Attribute} {style : List ℕ} (s : IsStyle added style) (values : Values) → attributes_text (s.attributes ++ added values) ≡ codes " " ++ style ++ attributes_text (added values)
styled_text {added = added} s values = attributes_beside s.attributes (added values) ∙ ap (λ (t : List ℕ). t ++ attributes_text (added values)) (sym s.is)

-- Strokes

abbrev pub points : List ℕ → List Attribute
points d = at (codes "d") d ∷ []

stroke_regrouped : (open' style a p blank q line r s quote close : List ℕ)
    → open' ++ (style ++ (a ++ ((p ++ blank ++ q) ++ line ++ (r ++ blank ++ s)) ++ quote ++ [])) ++ close ≡ open' ++ style ++ (a ++ (p ++ blank ++ q) ++ line ++ (r ++ blank ++ s) ++ (quote ++ close))
stroke_regrouped open' style a p blank q line r s quote close = simp (append_assoc, append-nil)

stroke_shape : (style p q r s : List ℕ) → codes "<path" ++ (codes " " ++ style ++ attributes_text (points (codes "M" ++ (p ++ codes " " ++ q) ++ codes "L" ++ (r ++ codes " " ++ s)))) ++ codes "/>"
    ≡ codes "<path " ++ style ++ (codes " d=\"M" ++ (p ++ codes " " ++ q) ++ codes "L" ++ (r ++ codes " " ++ s) ++ codes "\"/>")
stroke_shape style p q r s = stroke_regrouped (codes "<path ") style (codes " d=\"M") p (codes " ") q (codes "L") r s (codes "\"") (codes "/>")

points_are : (p q r s : List ℕ) → IsTrue (list_all is_value_byte p) → IsTrue (list_all is_value_byte q) → IsTrue (list_all is_value_byte r) → IsTrue (list_all is_value_byte s)
    → IsTrue (list_all is_value_byte (codes "M" ++ (p ++ codes " " ++ q) ++ codes "L" ++ (r ++ codes " " ++ s)))
points_are p q r s a b c d =
    all_beside is_value_byte (codes "M" ++ (p ++ codes " " ++ q) ++ codes "L") (r ++ codes " " ++ s)
    (all_beside is_value_byte (codes "M" ++ (p ++ codes " " ++ q)) (codes "L") (all_beside is_value_byte (codes "M") (p ++ codes " " ++ q) refl (all_beside is_value_byte (p ++ codes " ") q (all_beside is_value_byte p (codes " ") a refl) b)) refl)
    (all_beside is_value_byte (r ++ codes " ") s (all_beside is_value_byte r (codes " ") c refl) d)

-- a stroke is content
pub stroke_content : (style : List ℕ) → IsStyle points style → (x y to_x to_y : ℕ) → IsContent (stroke style x y to_x to_y)
stroke_content style s x y to_x to_y =
    subst IsContent (ap (λ (t : List ℕ). codes "<path" ++ t ++ codes "/>") (styled_text s d) ∙ stroke_shape style (decimal x) (decimal y) (decimal to_x) (decimal to_y))
    (alone_empty (codes "path") (s.attributes ++ points d) refl (styled s d (both_hold _ true (points_are (decimal x) (decimal y) (decimal to_x) (decimal to_y) (decimal_value x) (decimal_value y) (decimal_value to_x) (decimal_value to_y)) refl)))
  where
    d : List ℕ
    d = codes "M" ++ (decimal x ++ codes " " ++ decimal y) ++ codes "L" ++ (decimal to_x ++ codes " " ++ decimal to_y)

-- Bars

abbrev pub box : List ℕ × List ℕ × List ℕ → List Attribute
box b = at (codes "x") b.0 ∷ at (codes "y") b.1 ∷ at (codes "width") (codes "10") ∷ at (codes "height") b.2 ∷ []

bar_regrouped : (open' style a x b y wide c h quote close : List ℕ)
    → open' ++ (style ++ (a ++ x ++ quote ++ (b ++ y ++ quote ++ (wide ++ (c ++ h ++ quote ++ []))))) ++ close ≡ open' ++ style ++ (a ++ (x ++ (quote ++ b) ++ y) ++ quote) ++ (wide ++ c ++ h ++ (quote ++ close))
bar_regrouped open' style a x b y wide c h quote close = simp (append_assoc, append-nil)

bar_shape : (style x y h : List ℕ) → codes "<rect" ++ (codes " " ++ style ++ attributes_text (box (x, y, h))) ++ codes "/>"
    ≡ codes "<rect " ++ style ++ (codes " x=\"" ++ (x ++ codes "\" y=\"" ++ y) ++ codes "\"") ++ (codes " width=\"10\" height=\"" ++ h ++ codes "\"/>")
bar_shape style x y h = bar_regrouped (codes "<rect ") style (codes " x=\"") x (codes " y=\"") y (codes " width=\"10\"") (codes " height=\"") h (codes "\"") (codes "/>")

-- a bar is content
pub bar_content : (style : List ℕ) → IsStyle box style → (x y high : ℕ) → IsContent (bar style x y high)
bar_content style s x y high =
    subst IsContent (ap (λ (t : List ℕ). codes "<rect" ++ t ++ codes "/>") (styled_text s (decimal x, decimal y, decimal high)) ∙ bar_shape style (decimal x) (decimal y) (decimal high))
    (alone_empty (codes "rect") (s.attributes ++ box (decimal x, decimal y, decimal high)) refl
    (styled s (decimal x, decimal y, decimal high) (both_hold _ _ (decimal_value x) (both_hold _ _ (decimal_value y) (both_hold (list_all is_value_byte (decimal high)) true (decimal_value high) refl)))))

-- Words

abbrev pub spot : List ℕ × List ℕ → List Attribute
spot p = at (codes "x") p.0 ∷ at (codes "y") p.1 ∷ []

words_regrouped : (open' style a x b y quote inside body out name close : List ℕ)
    → open' ++ (style ++ (a ++ x ++ quote ++ (b ++ y ++ quote ++ []))) ++ inside ++ body ++ out ++ name ++ close ≡ open' ++ style ++ (a ++ (x ++ (quote ++ b) ++ y) ++ quote) ++ inside ++ body ++ (out ++ name ++ close)
words_regrouped open' style a x b y quote inside body out name close = simp (append_assoc, append-nil)

words_shape : (style x y body : List ℕ) → codes "<text" ++ (codes " " ++ style ++ attributes_text (spot (x, y))) ++ codes ">" ++ body ++ codes "</" ++ codes "text" ++ codes ">"
    ≡ codes "<text " ++ style ++ (codes " x=\"" ++ (x ++ codes "\" y=\"" ++ y) ++ codes "\"") ++ codes ">" ++ body ++ codes "</text>"
words_shape style x y body = words_regrouped (codes "<text ") style (codes " x=\"") x (codes " y=\"") y (codes "\"") (codes ">") body (codes "</") (codes "text") (codes ">")

-- words are content
pub words_content : (style : List ℕ) → IsStyle spot style → (x y : ℕ) (body : List ℕ) → IsContent body → IsContent (words style x y body)
words_content style s x y body inner =
    subst IsContent (ap (λ (t : List ℕ). codes "<text" ++ t ++ codes ">" ++ body ++ codes "</" ++ codes "text" ++ codes ">") (styled_text s (decimal x, decimal y)) ∙ words_shape style (decimal x) (decimal y) body)
    (alone_around (codes "text") (s.attributes ++ spot (decimal x, decimal y)) body refl (styled s (decimal x, decimal y) (both_hold _ _ (decimal_value x) (both_hold (list_all is_value_byte (decimal y)) true (decimal_value y) refl))) inner)

-- The styles

-- the styles of bars and of what waits
life_is : IsStyle points life_style
life_is = record { attributes = at (codes "class") (codes "life") ∷ at (codes "stroke") (codes "#555") ∷ at (codes "stroke-width") (codes "1") ∷ []; is = refl; each = refl; distinct = λ d. refl }

item_is : IsStyle points item_style
item_is = record { attributes = at (codes "class") (codes "item") ∷ at (codes "stroke") (codes "#aa4499") ∷ at (codes "stroke-width") (codes "3") ∷ []; is = refl; each = refl; distinct = λ d. refl }

outbox_is : IsStyle points outbox_style
outbox_is = record {
  attributes = at (codes "class") (codes "outbox") ∷ at (codes "stroke") (codes "#0072b2") ∷ at (codes "stroke-width") (codes "2") ∷ at (codes "stroke-dasharray") (codes "2 3") ∷ [];
  is = refl;
  each = refl;
  distinct = λ d. refl;
}

fall_is : IsStyle points fall_style
fall_is = record { attributes = at (codes "class") (codes "fall") ∷ at (codes "stroke") (codes "#b34700") ∷ at (codes "stroke-width") (codes "2") ∷ []; is = refl; each = refl; distinct = λ d. refl }

dispatch_is : IsStyle box dispatch_style
dispatch_is = record { attributes = at (codes "class") (codes "dispatch") ∷ at (codes "fill") (codes "#e69f00") ∷ at (codes "stroke") (codes "#7a5400") ∷ []; is = refl; each = refl; distinct = λ b. refl }

wait_is : IsStyle box wait_style
wait_is = record {
  attributes = at (codes "class") (codes "wait") ∷ at (codes "fill") (codes "#fff") ∷ at (codes "stroke") (codes "#0072b2") ∷ at (codes "stroke-dasharray") (codes "3 2") ∷ [];
  is = refl;
  each = refl;
  distinct = λ b. refl;
}

-- the style of an arrow
arrow_attributes : Arrow → List Attribute
arrow_attributes Sync = at (codes "class") (codes "request") ∷ at (codes "stroke") (codes "#0072b2") ∷ at (codes "stroke-width") (codes "2") ∷ []
arrow_attributes Async = at (codes "class") (codes "request") ∷ at (codes "stroke") (codes "#0072b2") ∷ at (codes "stroke-width") (codes "2") ∷ at (codes "stroke-dasharray") (codes "7 4") ∷ []
arrow_attributes Reply = at (codes "class") (codes "reply") ∷ at (codes "stroke") (codes "#007a5a") ∷ at (codes "stroke-width") (codes "1") ∷ []
arrow_attributes Farewell = at (codes "class") (codes "farewell") ∷ at (codes "stroke") (codes "#b34700") ∷ at (codes "stroke-width") (codes "2") ∷ at (codes "stroke-dasharray") (codes "2 3") ∷ []

end_attributes : Bool → List Attribute
end_attributes true = at (codes "marker-end") (codes "url(#head)") ∷ []
end_attributes false = at (codes "opacity") (codes ".5") ∷ []

arrow_is : (kind : Arrow) (arrives : Bool) → IsStyle points (arrow_style kind ++ arrow_end arrives)
unfolding arrow_attributes end_attributes
arrow_is Sync true = record { attributes = arrow_attributes Sync ++ end_attributes true; is = refl; each = refl; distinct = λ d. refl }
arrow_is Sync false = record { attributes = arrow_attributes Sync ++ end_attributes false; is = refl; each = refl; distinct = λ d. refl }
arrow_is Async true = record { attributes = arrow_attributes Async ++ end_attributes true; is = refl; each = refl; distinct = λ d. refl }
arrow_is Async false = record { attributes = arrow_attributes Async ++ end_attributes false; is = refl; each = refl; distinct = λ d. refl }
arrow_is Reply true = record { attributes = arrow_attributes Reply ++ end_attributes true; is = refl; each = refl; distinct = λ d. refl }
arrow_is Reply false = record { attributes = arrow_attributes Reply ++ end_attributes false; is = refl; each = refl; distinct = λ d. refl }
arrow_is Farewell true = record { attributes = arrow_attributes Farewell ++ end_attributes true; is = refl; each = refl; distinct = λ d. refl }
arrow_is Farewell false = record { attributes = arrow_attributes Farewell ++ end_attributes false; is = refl; each = refl; distinct = λ d. refl }

-- Marks

arrow_content : (kind : Arrow) (end : Side) (from : ℕ) (to : Option ℕ) (last : ℕ) → IsContent (arrow_text kind end from to last)
arrow_content kind end from to last = stroke_content _ (arrow_is kind (is_some to)) (edge end) (height from) (edge (other end)) (height (unwrap_or to last))

module _ (rows : HistoryRows) (place : Place) where
  arrow_at_content : (kind : Arrow) (to : Option ℕ) → IsContent (arrow_at kind place to)
  arrow_at_content kind to = arrow_content kind place.side place.row to place.count

  bar_at_content : (style : List ℕ) → IsStyle box style → (to : Option ℕ) → IsContent (bar_at rows place style to)
  bar_at_content style s to = bar_content style s (bar_place place.side place.depth) (height place.row) (size place.row (unwrap_or to (bottom_at rows place)))

  down_content : (style : List ℕ) → IsStyle points style → (x to : ℕ) → IsContent (down style place x to)
  down_content style s x to = stroke_content style s x (height place.row) x (height to)

  item_content : (to : Option ℕ) → IsContent (item_at rows place to)
  item_content to = down_content item_style item_is (item_place place.side place.brought) (unwrap_or to (bottom_at rows place))

  send_content : (n : ℤ) (leave : Option (Option ℕ)) → IsContent (send_at rows place n leave)
  send_content n None = arrow_at_content Async (rows.arrivals n)
  send_content n (Some None) = down_content outbox_style outbox_is (outbox_place place.side) (bottom_at rows place)
  send_content n (Some (Some left)) = beside (down_content outbox_style outbox_is (outbox_place place.side) left) (arrow_content Async place.side left (rows.arrivals n) place.count)

  farewell_content : (closing : Bool) → IsContent (cond closing (arrow_at Farewell place (rows_of rows (other place.side)).farewell) [])
  farewell_content true = arrow_at_content Farewell (rows_of rows (other place.side)).farewell
  farewell_content false = nothing

  cross_content : IsContent (cross place)
  cross_content =
      beside (stroke_content fall_style fall_is (lane place.side - 6) (64 + 20 * place.row) (lane place.side + 6) (76 + 20 * place.row))
      (stroke_content fall_style fall_is (lane place.side - 6) (76 + 20 * place.row) (lane place.side + 6) (64 + 20 * place.row))

  -- what is drawn of a line is content
  pub marks_content : (w : What) → IsContent (marks rows place w)
  marks_content (what.Send n route message values) = send_content n (rows.leaves n)
  marks_content (what.Call n transaction route message values) = beside (bar_at_content wait_style wait_is (rows.reply_departures n)) (arrow_at_content Sync (rows.arrivals n))
  marks_content (what.Resolve n values) = arrow_at_content Reply (rows.reply_arrivals n)
  marks_content (what.Reject n) = arrow_at_content Reply (rows.reply_arrivals n)
  marks_content (what.AnswerOk n values) = arrow_at_content Reply (rows.reply_arrivals n)
  marks_content (what.AnswerFault n reason) = arrow_at_content Reply (rows.reply_arrivals n)
  marks_content (what.DeliverRequest n) = item_content (rows.departures n)
  marks_content (what.DeliverReply n) = item_content (rows.reply_departures n)
  marks_content (what.Take n route message values) = bar_at_content dispatch_style dispatch_is (rows.returns n)
  marks_content what.Close = farewell_content (is_closing rows place)
  marks_content what.Die = farewell_content (is_closing rows place)
  marks_content (what.Fall id destroy) = cross_content
  marks_content _ = nothing

-- Labels

tone_is : (end : Side) (trouble effect : Bool) → IsStyle spot (anchor end ++ cond trouble (codes " class=\"trouble\" fill=\"#9a3412\"") (cond effect (codes " opacity=\".75\"") []))
tone_is side.Parent true effect = record { attributes = at (codes "text-anchor") (codes "end") ∷ at (codes "class") (codes "trouble") ∷ at (codes "fill") (codes "#9a3412") ∷ []; is = refl; each = refl; distinct = λ p. refl }
tone_is side.Child true effect = record { attributes = at (codes "text-anchor") (codes "start") ∷ at (codes "class") (codes "trouble") ∷ at (codes "fill") (codes "#9a3412") ∷ []; is = refl; each = refl; distinct = λ p. refl }
tone_is side.Parent false true = record { attributes = at (codes "text-anchor") (codes "end") ∷ at (codes "opacity") (codes ".75") ∷ []; is = refl; each = refl; distinct = λ p. refl }
tone_is side.Child false true = record { attributes = at (codes "text-anchor") (codes "start") ∷ at (codes "opacity") (codes ".75") ∷ []; is = refl; each = refl; distinct = λ p. refl }
tone_is side.Parent false false = record { attributes = at (codes "text-anchor") (codes "end") ∷ []; is = refl; each = refl; distinct = λ p. refl }
tone_is side.Child false false = record { attributes = at (codes "text-anchor") (codes "start") ∷ []; is = refl; each = refl; distinct = λ p. refl }

-- the label of a row is content
pub label_content : (schema : Schema) (place : Place) (text : List ℕ) (w : What) → IsContent (label schema place text w)
label_content schema place text w =
    words_content (anchor place.side ++ tone w) (tone_is place.side (is_trouble w) (is_effect w)) (label_place place.side) (74 + 20 * place.row) (cut (row_words schema text w)) (cut_content (row_words schema text w))

-- Lifelines

cap_content : (ended : Bool) (end : Side) (row : ℕ) → IsContent (cond ended (cap end row) [])
cap_content true end row = stroke_content life_style life_is (lane end - 12) (height row) (lane end + 12) (height row)
cap_content false end row = nothing

-- a lifeline is content
pub lifeline_content : (rows : SideRows) (end : Side) (count : ℕ) → IsContent (lifeline rows end count)
lifeline_content rows end count = beside (stroke_content life_style life_is (lane end) 44 (lane end) (height (bottom rows count))) (cap_content rows.ended end (bottom rows count))
