-- Pictures of histories look at no box of the values of lines.
use Rattle.std.proofs.Common.{◌≡◌, ◌∙◌, ℕ, ℤ, ◌+◌, ◌-◌, ◌*◌, ◌&&◌, ◌||◌, Bool, true, false, if◌then◌else◌, List, [], ◌∷◌, ◌++◌, map, length, Option, Some, None, is_some, cond, codes, refl, sym, ap}
use Rattle.std.proofs.Math.Path.{fun_ext}
use Rattle.std.proofs.lemmas.List.{length-map, map-append}
use Rattle.ipdl_base.specs.Lines.{same_side}
use Rattle.ipdl_base.specs.Plain.{plain_values}
use Rattle.ipdl_base.specs.Signatures.{params_of}
use Rattle.ipdl_base.specs.declared.kinds.Side.{Side}
use Rattle.ipdl_base.specs.declared.kinds.Side.TheVariants as side
use Rattle.ipdl_base.specs.declared.line.Line.{Line}
use Rattle.ipdl_base.specs.declared.line.What.{What}
use Rattle.ipdl_base.specs.declared.line.What.TheVariants as what
use Rattle.ipdl_base.specs.declared.schema.ParamRow.{ParamRow}
use Rattle.ipdl_base.specs.declared.schema.Schema.{Schema}
use Rattle.ipdl_base.specs.declared.value.Values.{Values}
use Rattle.value_types.specs.Laws.{BoxesSayNothing}
use Rattle.history.specs.Messages.{message_of_number}
use Rattle.history.specs.Text.{line_begin, message_text, numbered, request_text, returns_named, what_text}
use Rattle.history.specs.Words.{side_word}
use Rattle.end_parts.specs.PlainLines.{plain_line, plain_what}
use Rattle.line_laws.proofs.Texts.{effect-plain, message-plain, text-plain}
use Rattle.charts.specs.Chart.{anchor, chart_by, chart_text, foot, head, label, label_place, line_words, row_text, rows_text, title, tone}
use Rattle.charts.specs.Labels.{cut, request_label, route_text, row_words}
use Rattle.charts.specs.Marks.{marks, place_of}
use Rattle.charts.specs.Rows.{HistoryRows, arrival, begins_bar, brings_item, count_of, departure, empties_outbox, ends_bar, ends_channel, handler_return, has_ended, is_end, is_farewell, is_number, last_row_from, lazy_send, leave_from, outbox_row_from, reply_arrival, reply_departure, row_from, rows_from, side_row_from, side_rows}
use Rattle.charts.specs.Strokes.{words}
use Rattle.charts.specs.declared.marks.Place.{Place}
use Rattle.ipdl_top.proofs.Summed.{counts_plain}

-- what gives the same for the seven kinds of lines that have values, wherever their boxes are, gives the same for every line
blind : {A : Type 0} (f : What → A)
    → ((n route : ℤ) (number : ℕ) (vs : Values) → f (what.Send n route number (plain_values vs)) ≡ f (what.Send n route number vs))
    → ((n transaction route : ℤ) (number : ℕ) (vs : Values) → f (what.Call n transaction route number (plain_values vs)) ≡ f (what.Call n transaction route number vs))
    → ((n : ℤ) (vs : Values) → f (what.Resolve n (plain_values vs)) ≡ f (what.Resolve n vs))
    → ((n route : ℤ) (number : ℕ) (vs : Values) → f (what.Take n route number (plain_values vs)) ≡ f (what.Take n route number vs))
    → ((n : ℤ) (vs : Values) → f (what.ResumeOk n (plain_values vs)) ≡ f (what.ResumeOk n vs))
    → ((n : ℤ) (vs : Values) → f (what.AnswerOk n (plain_values vs)) ≡ f (what.AnswerOk n vs))
    → ((n : ℤ) (vs : Values) → f (what.Resolved n (plain_values vs)) ≡ f (what.Resolved n vs))
    → (w : What) → f (plain_what w) ≡ f w
blind f send call resolve take resume answer resolved (what.Send n route number vs) = send n route number vs
blind f send call resolve take resume answer resolved (what.Call n transaction route number vs) = call n transaction route number vs
blind f send call resolve take resume answer resolved (what.Resolve n vs) = resolve n vs
blind f send call resolve take resume answer resolved (what.Take n route number vs) = take n route number vs
blind f send call resolve take resume answer resolved (what.ResumeOk n vs) = resume n vs
blind f send call resolve take resume answer resolved (what.AnswerOk n vs) = answer n vs
blind f send call resolve take resume answer resolved (what.Resolved n vs) = resolved n vs
blind f send call resolve take resume answer resolved _ = refl

-- Rows

number_plain : (number : What → Option ℤ) → ((w : What) → number (plain_what w) ≡ number w) → (row : ℕ) (lines : List Line) (n : ℤ) → row_from row number (map plain_line lines) n ≡ row_from row number lines n
number_plain number same row [] n = refl
number_plain number same row (line ∷ rest) n = λ i. if is_number n (same line.what i) then Some row else number_plain number same (row + 1) rest n i

test_plain : (test : What → Bool) → ((w : What) → test (plain_what w) ≡ test w) → (row : ℕ) (s : Side) (lines : List Line) → side_row_from row s test (map plain_line lines) ≡ side_row_from row s test lines
test_plain test same row s [] = refl
test_plain test same row s (line ∷ rest) = λ i. if same_side line.side s && same line.what i then Some row else test_plain test same (row + 1) s rest i

last_plain : (row : ℕ) (s : Side) (lines : List Line) → last_row_from row s (map plain_line lines) ≡ last_row_from row s lines
last_plain row s [] = refl
last_plain row s (line ∷ rest) = λ i. if is_some (last_plain (row + 1) s rest i) then last_plain (row + 1) s rest i else (if same_side line.side s then Some row else None)

farewell_plain : (w : What) → is_farewell (plain_what w) ≡ is_farewell w
farewell_plain = blind is_farewell (λ n r m vs. refl) (λ n t r m vs. refl) (λ n vs. refl) (λ n r m vs. refl) (λ n vs. refl) (λ n vs. refl) (λ n vs. refl)

end_plain : (w : What) → is_end (plain_what w) ≡ is_end w
end_plain = blind is_end (λ n r m vs. refl) (λ n t r m vs. refl) (λ n vs. refl) (λ n r m vs. refl) (λ n vs. refl) (λ n vs. refl) (λ n vs. refl)

closing_plain : (w : What) → ends_channel (plain_what w) ≡ ends_channel w
closing_plain = blind ends_channel (λ n r m vs. refl) (λ n t r m vs. refl) (λ n vs. refl) (λ n r m vs. refl) (λ n vs. refl) (λ n vs. refl) (λ n vs. refl)

empties_plain : (schema : Schema) (w : What) → empties_outbox schema (plain_what w) ≡ empties_outbox schema w
empties_plain schema = blind (empties_outbox schema) (λ n r m vs. refl) (λ n t r m vs. refl) (λ n vs. refl) (λ n r m vs. refl) (λ n vs. refl) (λ n vs. refl) (λ n vs. refl)

lazy_plain : (schema : Schema) (w : What) → lazy_send schema (plain_what w) ≡ lazy_send schema w
lazy_plain schema = blind (lazy_send schema) (λ n r m vs. refl) (λ n t r m vs. refl) (λ n vs. refl) (λ n r m vs. refl) (λ n vs. refl) (λ n vs. refl) (λ n vs. refl)

ended_plain : (s : Side) (lines : List Line) → has_ended s (map plain_line lines) ≡ has_ended s lines
ended_plain s [] = refl
ended_plain s (line ∷ rest) = λ i. (same_side line.side s && end_plain line.what i) || ended_plain s rest i

outbox_plain : (schema : Schema) (row : ℕ) (s : Side) (lines : List Line) → outbox_row_from row schema s (map plain_line lines) ≡ outbox_row_from row schema s lines
outbox_plain schema row s [] = refl
outbox_plain schema row s (line ∷ rest) =
    λ i. if same_side line.side s && farewell_plain line.what i then None else (if same_side line.side s && empties_plain schema line.what i then Some row else outbox_plain schema (row + 1) s rest i)

leave_plain : (schema : Schema) (row : ℕ) (lines : List Line) (n : ℤ) → leave_from row schema (map plain_line lines) n ≡ leave_from row schema lines n
leave_plain schema row [] n = refl
leave_plain schema row (line ∷ rest) n =
    λ i. if is_number n (lazy_plain schema line.what i) then Some (outbox_plain schema (row + 1) line.side rest i) else leave_plain schema (row + 1) rest n i

side_plain : (schema : Schema) (s : Side) (lines : List Line) → side_rows schema 0 s (map plain_line lines) ≡ side_rows schema 0 s lines
side_plain schema s lines = λ i. record {
  last = last_plain 0 s lines i;
  ended = ended_plain s lines i;
  farewell = test_plain is_farewell farewell_plain 0 s lines i;
  closing = test_plain ends_channel closing_plain 0 s lines i;
  leave = outbox_plain schema 0 s lines i;
}

-- the rows that arrows, bars and items join
all_plain : (schema : Schema) (lines : List Line) → rows_from schema 0 (map plain_line lines) ≡ rows_from schema 0 lines
all_plain schema lines = λ i. record {
  arrivals = λ n. number_plain arrival (blind arrival (λ n r m vs. refl) (λ n t r m vs. refl) (λ n vs. refl) (λ n r m vs. refl) (λ n vs. refl) (λ n vs. refl) (λ n vs. refl)) 0 lines n i;
  reply_arrivals = λ n. number_plain reply_arrival (blind reply_arrival (λ n r m vs. refl) (λ n t r m vs. refl) (λ n vs. refl) (λ n r m vs. refl) (λ n vs. refl) (λ n vs. refl) (λ n vs. refl)) 0 lines n i;
  departures = λ n. number_plain departure (blind departure (λ n r m vs. refl) (λ n t r m vs. refl) (λ n vs. refl) (λ n r m vs. refl) (λ n vs. refl) (λ n vs. refl) (λ n vs. refl)) 0 lines n i;
  reply_departures = λ n. number_plain reply_departure (blind reply_departure (λ n r m vs. refl) (λ n t r m vs. refl) (λ n vs. refl) (λ n r m vs. refl) (λ n vs. refl) (λ n vs. refl) (λ n vs. refl)) 0 lines n i;
  returns = λ n. number_plain handler_return (blind handler_return (λ n r m vs. refl) (λ n t r m vs. refl) (λ n vs. refl) (λ n r m vs. refl) (λ n vs. refl) (λ n vs. refl) (λ n vs. refl)) 0 lines n i;
  leaves = λ n. leave_plain schema 0 lines n i;
  parent = side_plain schema side.Parent lines i;
  child = side_plain schema side.Child lines i;
}

-- Places

counted_plain : (test : What → Bool) → ((w : What) → test (plain_what w) ≡ test w) → (s : Side) (lines : List Line) → count_of test s (map plain_line lines) ≡ count_of test s lines
counted_plain test same s lines = counts_plain (λ (line : Line). same_side line.side s && test line.what) (λ (line : Line). λ i. same_side line.side s && same line.what i) lines

place_plain : (count : ℕ) (before : List Line) (s : Side) → place_of count (map plain_line before) s ≡ place_of count before s
place_plain count before s = λ i. record {
  side = s;
  row = length-map before plain_line i;
  count = count;
  depth =
      counted_plain begins_bar (blind begins_bar (λ n r m vs. refl) (λ n t r m vs. refl) (λ n vs. refl) (λ n r m vs. refl) (λ n vs. refl) (λ n vs. refl) (λ n vs. refl)) s before i
      - counted_plain ends_bar (blind ends_bar (λ n r m vs. refl) (λ n t r m vs. refl) (λ n vs. refl) (λ n r m vs. refl) (λ n vs. refl) (λ n vs. refl) (λ n vs. refl)) s before i;
  brought = counted_plain brings_item (blind brings_item (λ n r m vs. refl) (λ n t r m vs. refl) (λ n vs. refl) (λ n r m vs. refl) (λ n vs. refl) (λ n vs. refl) (λ n vs. refl)) s before i;
}

-- Words

tone_plain : (w : What) → tone (plain_what w) ≡ tone w
tone_plain = blind tone (λ n r m vs. refl) (λ n t r m vs. refl) (λ n vs. refl) (λ n r m vs. refl) (λ n vs. refl) (λ n vs. refl) (λ n vs. refl)

marks_plain : (rows : HistoryRows) (place : Place) (w : What) → marks rows place (plain_what w) ≡ marks rows place w
marks_plain rows place = blind (marks rows place) (λ n r m vs. refl) (λ n t r m vs. refl) (λ n vs. refl) (λ n r m vs. refl) (λ n vs. refl) (λ n vs. refl) (λ n vs. refl)

begin_plain : (line : Line) → line_begin (plain_line line) ≡ line_begin line
begin_plain line = λ i. if effect-plain line.what i then codes "  " else side_word line.side ++ codes " "

module _ (boxes : BoxesSayNothing) (schema : Schema) where
  request_plain : (number : ℕ) (vs : Values) → request_text schema number (plain_values vs) ≡ request_text schema number vs
  request_plain number vs = λ i. message_text schema number ++ (codes "(" ++ boxes.texts schema (params_of schema number) vs i ++ codes ")")

  label_plain : (verb : List ℕ) (n route : ℤ) (number : ℕ) (vs : Values) → request_label schema verb n route number (plain_values vs) ≡ request_label schema verb n route number vs
  label_plain verb n route number vs = ap (λ (text : List ℕ). numbered verb n ++ route_text route ++ (codes " " ++ text)) (request_plain number vs)

  words_plain : (text : List ℕ) (w : What) → row_words schema text (plain_what w) ≡ row_words schema text w
  words_plain text =
      blind (row_words schema text) (λ n r m vs. label_plain (codes "send ") n r m vs) (λ n t r m vs. label_plain (codes "call ") n r m vs) (λ n vs. refl) (λ n r m vs. label_plain (codes "take ") n r m vs) (λ n vs. refl) (λ n vs. refl) (λ n vs. refl)

  line_plain : (before : List Line) (line : Line) → line_words schema (map plain_line before) (plain_line line) ≡ line_words schema before line
  line_plain before line =
      text-plain boxes schema (λ n. returns_named schema (message_of_number line.side (map plain_line before) n)) line.what
      ∙ ap (λ (types : ℤ → List ParamRow). what_text schema types line.what) (fun_ext (λ n. ap (returns_named schema) (message-plain line.side before n)))

  labelled_plain : (place : Place) (text : List ℕ) (w : What) → label schema place text (plain_what w) ≡ label schema place text w
  labelled_plain place text w = λ i. words (anchor place.side ++ tone_plain w i) (label_place place.side) (74 + 20 * place.row) (cut (words_plain text w i))

  row_plain : (rows : HistoryRows) (count : ℕ) (before : List Line) (line : Line) → row_text schema rows count (map plain_line before) (plain_line line) ≡ row_text schema rows count before line
  row_plain rows count before line =
      (λ i. title (begin_plain line i ++ line_plain before line i)
      ++ (marks rows (place_plain count before line.side i) (plain_what line.what) ++ (label schema (place_plain count before line.side i) (line_plain before line i) (plain_what line.what) ++ codes "</g>\n")))
      ∙ (λ i. title (line_begin line ++ line_words schema before line)
      ++ (marks_plain rows (place_of count before line.side) line.what i ++ (labelled_plain (place_of count before line.side) (line_words schema before line) line.what i ++ codes "</g>\n")))

  rows_plain : (rows : HistoryRows) (count : ℕ) (before lines : List Line) → rows_text schema rows count (map plain_line before) (map plain_line lines) ≡ rows_text schema rows count before lines
  rows_plain rows count before [] = refl
  rows_plain rows count before (line ∷ rest) =
      ap (λ (text : List ℕ). text ++ rows_text schema rows count (map plain_line before ++ plain_line line ∷ []) (map plain_line rest)) (row_plain rows count before line)
      ∙ ap (λ (ls : List Line). row_text schema rows count before line ++ rows_text schema rows count ls (map plain_line rest)) (sym (map-append plain_line before (line ∷ [])))
      ∙ ap (λ (text : List ℕ). row_text schema rows count before line ++ text) (rows_plain rows count (before ++ line ∷ []) rest)

-- the picture of lines with every box at one place
pub charted_plain : BoxesSayNothing → (schema : Schema) (lines : List Line) (spent : Option Side) → chart_text schema (map plain_line lines) spent ≡ chart_text schema lines spent
charted_plain boxes schema lines spent =
    let rows : HistoryRows = rows_from schema 0 lines in
    ap (λ (all : HistoryRows). chart_by schema all (map plain_line lines) spent) (all_plain schema lines)
    ∙ ap (λ (count : ℕ). head rows count ++ rows_text schema rows count [] (map plain_line lines) ++ foot count spent) (length-map lines plain_line)
    ∙ ap (λ (text : List ℕ). head rows (length lines) ++ text ++ foot (length lines) spent) (rows_plain boxes schema rows (length lines) [] lines)
