-- Pictures of histories look at no box of the types of schemas.
use Rattle.std.proofs.Common.{◌≡◌, ◌∙◌, ℕ, ℤ, ◌+◌, ◌*◌, ◌&&◌, not, Bool, true, false, if◌then◌else◌, List, [], ◌∷◌, ◌++◌, length, Option, Some, None, codes, refl, sym}
use Rattle.std.specs.Option.{option_map_or}
use Rattle.ipdl_base.specs.Lines.{same_side}
use Rattle.ipdl_base.specs.Sound.{message_of}
use Rattle.ipdl_base.specs.declared.kinds.Side.{Side}
use Rattle.ipdl_base.specs.declared.kinds.Side.TheVariants as side
use Rattle.ipdl_base.specs.declared.line.Line.{Line}
use Rattle.ipdl_base.specs.declared.line.What.{What}
use Rattle.ipdl_base.specs.declared.line.What.TheVariants as what
use Rattle.ipdl_base.specs.declared.schema.MessageRow.{MessageRow}
use Rattle.ipdl_base.specs.declared.schema.Schema.{Schema}
use Rattle.ipdl_base.specs.declared.value.Values.{Values}
use Rattle.program_schema.specs.Laws.{plain_message_row, plain_schema}
use Rattle.history.specs.Messages.{message_of_number}
use Rattle.history.specs.Text.{line_begin, numbered, returns_named}
use Rattle.schema_laws.proofs.Rows.{message_alike, option_alike}
use Rattle.schema_laws.proofs.TextsAlike.{named_alike, request_alike, what_alike}
use Rattle.schema_laws.specs.Frames.{AreSchemasAlike}
use Rattle.charts.specs.Chart.{anchor, chart_text, foot, head, label, label_place, line_words, row_text, rows_text, title, tone}
use Rattle.charts.specs.Labels.{cut, request_label, route_text, row_words}
use Rattle.charts.specs.Marks.{marks, place_of}
use Rattle.charts.specs.Rows.{HistoryRows, arrival, departure, empties_outbox, ends_channel, handler_return, has_ended, is_farewell, is_lazy, is_number, last_row_from, lazy_send, leave_from, outbox_row_from, reply_arrival, reply_departure, row_from, rows_from, side_row_from, side_rows}
use Rattle.charts.specs.Strokes.{words}
use Rattle.charts.specs.declared.rows.SideRows.{SideRows}

module _ (s : Schema) where
  lazy_alike : (number : ℕ) → is_lazy (plain_schema s) number ≡ is_lazy s number
  lazy_alike number =
      (λ i. option_map_or (λ (m : MessageRow). m.lazy) (message_alike s number i) false)
      ∙ option_alike plain_message_row (λ (m : MessageRow). m.lazy) (λ (m : MessageRow). m.lazy) (λ m. refl) false (message_of s number)

  empties_alike : (w : What) → empties_outbox (plain_schema s) w ≡ empties_outbox s w
  empties_alike (what.Send n route number vs) = λ i. not (lazy_alike number i)
  empties_alike _ = refl

  lazy_send_alike : (w : What) → lazy_send (plain_schema s) w ≡ lazy_send s w
  lazy_send_alike (what.Send n route number vs) = λ i. if lazy_alike number i then Some n else None
  lazy_send_alike _ = refl

  outbox_alike : (row : ℕ) (e : Side) (lines : List Line) → outbox_row_from row (plain_schema s) e lines ≡ outbox_row_from row s e lines
  outbox_alike row e [] = refl
  outbox_alike row e (line ∷ rest) =
      λ i. if same_side line.side e && is_farewell line.what then None else (if same_side line.side e && empties_alike line.what i then Some row else outbox_alike (row + 1) e rest i)

  leave_alike : (row : ℕ) (lines : List Line) (n : ℤ) → leave_from row (plain_schema s) lines n ≡ leave_from row s lines n
  leave_alike row [] n = refl
  leave_alike row (line ∷ rest) n =
      λ i. if is_number n (lazy_send_alike line.what i) then Some (outbox_alike (row + 1) line.side rest i) else leave_alike (row + 1) rest n i

  side_alike : (e : Side) (lines : List Line) → side_rows (plain_schema s) 0 e lines ≡ side_rows s 0 e lines
  side_alike e lines = λ i. record {
    last = last_row_from 0 e lines;
    ended = has_ended e lines;
    farewell = side_row_from 0 e is_farewell lines;
    closing = side_row_from 0 e ends_channel lines;
    leave = outbox_alike 0 e lines i;
  }

  -- the rows that arrows, bars and items join
  all_alike : (lines : List Line) → rows_from (plain_schema s) 0 lines ≡ rows_from s 0 lines
  all_alike lines = λ i. record {
    arrivals = row_from 0 arrival lines;
    reply_arrivals = row_from 0 reply_arrival lines;
    departures = row_from 0 departure lines;
    reply_departures = row_from 0 reply_departure lines;
    returns = row_from 0 handler_return lines;
    leaves = λ n. leave_alike 0 lines n i;
    parent = side_alike side.Parent lines i;
    child = side_alike side.Child lines i;
  }

  label_alike : (verb : List ℕ) (n route : ℤ) (number : ℕ) (vs : Values) → request_label (plain_schema s) verb n route number vs ≡ request_label s verb n route number vs
  label_alike verb n route number vs = λ i. numbered verb n ++ route_text route ++ (codes " " ++ request_alike s number vs i)

  words_alike : (text : List ℕ) (w : What) → row_words (plain_schema s) text w ≡ row_words s text w
  words_alike text (what.Send n route number vs) = label_alike (codes "send ") n route number vs
  words_alike text (what.Call n transaction route number vs) = label_alike (codes "call ") n route number vs
  words_alike text (what.Take n route number vs) = label_alike (codes "take ") n route number vs
  words_alike text _ = refl

  line_alike : (before : List Line) (line : Line) → line_words (plain_schema s) before line ≡ line_words s before line
  line_alike before line =
      what_alike s (λ n. returns_named (plain_schema s) (message_of_number line.side before n)) (λ n. returns_named s (message_of_number line.side before n)) (λ n. named_alike s (message_of_number line.side before n)) line.what

  row_alike : (rows : HistoryRows) (count : ℕ) (before : List Line) (line : Line) → row_text (plain_schema s) rows count before line ≡ row_text s rows count before line
  row_alike rows count before line =
      (λ i. title (line_begin line ++ line_alike before line i) ++ (marks rows (place_of count before line.side) line.what ++ (label (plain_schema s) (place_of count before line.side) (line_alike before line i) line.what ++ codes "</g>\n")))
      ∙ (λ i. title (line_begin line ++ line_words s before line) ++ (marks rows (place_of count before line.side) line.what
      ++ (words (anchor line.side ++ tone line.what) (label_place line.side) (74 + 20 * length before) (cut (words_alike (line_words s before line) line.what i)) ++ codes "</g>\n")))

  rows_alike : (rows : HistoryRows) (count : ℕ) (before lines : List Line) → rows_text (plain_schema s) rows count before lines ≡ rows_text s rows count before lines
  rows_alike rows count before [] = refl
  rows_alike rows count before (line ∷ rest) = λ i. row_alike rows count before line i ++ rows_alike rows count (before ++ line ∷ []) rest i

  chart_alike : (lines : List Line) (spent : Option Side) → chart_text (plain_schema s) lines spent ≡ chart_text s lines spent
  chart_alike lines spent =
      (λ i. head (all_alike lines i) (length lines) ++ rows_text (plain_schema s) (all_alike lines i) (length lines) [] lines ++ foot (length lines) spent)
      ∙ (λ i. head (rows_from s 0 lines) (length lines) ++ rows_alike (rows_from s 0 lines) (length lines) [] lines i ++ foot (length lines) spent)

-- the picture under schemas that are the same up to boxes
pub charted_alike : (a b : Schema) → AreSchemasAlike a b → (lines : List Line) (spent : Option Side) → chart_text a lines spent ≡ chart_text b lines spent
charted_alike a b alike lines spent = sym (chart_alike a lines spent) ∙ (λ i. chart_text (alike i) lines spent) ∙ chart_alike b lines spent
