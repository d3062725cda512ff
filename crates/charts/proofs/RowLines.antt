-- The rows of a picture are those of its lines.
use Rattle.std.proofs.Common.{◌≡◌, ℕ, suc, zero, List, [], ◌∷◌, ◌++◌, Some, refl, sym, ap, subst, append_assoc, slice_get, length}
use Rattle.std.specs.Prelude.{codes, take, None}
use Rattle.std.specs.List.{concat}
use Rattle.std.proofs.lemmas.List.{append-nil}
use Rattle.std.proofs.lemmas.Option.{same_Some}
use Rattle.ipdl_base.specs.declared.line.Line.{Line}
use Rattle.ipdl_base.specs.declared.schema.Schema.{Schema}
use Rattle.history.specs.Text.{line_begin}
use Rattle.charts.specs.Chart.{foot, head, label, line_words, row_text, rows_text}
use Rattle.charts.specs.Escapes.{shown}
use Rattle.charts.specs.Laws.{IsRow, RowsAreLines}
use Rattle.charts.specs.Marks.{marks, place_of}
use Rattle.charts.specs.Rows.{HistoryRows, rows_from}
use Rattle.charts.proofs.Contents.{beside}
use Rattle.charts.proofs.Drawn.{label_content, marks_content}

row_regrouped : (title drawn words close : List ℕ) → title ++ (drawn ++ (words ++ close)) ≡ title ++ (drawn ++ words) ++ close
row_regrouped title drawn words close = simp append_assoc

module _ (schema : Schema) (rows : HistoryRows) (count : ℕ) where
  -- the row of each line
  abbrev row_list : List Line → List Line → List (List ℕ)
  row_list before [] = []
  row_list before (line ∷ rest) = row_text schema rows count before line ∷ row_list (before ++ line ∷ []) rest

  -- one row for each line
  as_many : (before lines : List Line) → length (row_list before lines) ≡ length lines
  as_many before [] = refl
  as_many before (line ∷ rest) = ap suc (as_many (before ++ line ∷ []) rest)

  -- their texts, joined
  joined : (before lines : List Line) → rows_text schema rows count before lines ≡ concat (row_list before lines)
  joined before [] = refl
  joined before (line ∷ rest) = ap (row_text schema rows count before line ++◌) (joined (before ++ line ∷ []) rest)

  -- the row of a line
  is_row : (before : List Line) (line : Line) → IsRow schema before line (row_text schema rows count before line)
  is_row before line = record {
    title = line_begin line ++ line_words schema before line;
    drawn = marks rows (place_of count before line.side) line.what ++ label schema (place_of count before line.side) (line_words schema before line) line.what;
    is_title = refl;
    is_content = beside (marks_content rows (place_of count before line.side) line.what) (label_content schema (place_of count before line.side) (line_words schema before line) line.what);
    whole =
        row_regrouped (codes "<g><title>" ++ shown (line_begin line ++ line_words schema before line) ++ codes "</title>") (marks rows (place_of count before line.side) line.what)
        (label schema (place_of count before line.side) (line_words schema before line) line.what) (codes "</g>\n");
  }

  -- each row, in its place
  each_row : (before lines : List Line) (i : ℕ) (line : Line) (row : List ℕ) → slice_get lines i ≡ Some line → slice_get (row_list before lines) i ≡ Some row → IsRow schema (before ++ take i lines) line row
  each_row before [] i line row e f = let none : None ≡ Some line = e in cc
  each_row before (first ∷ rest) zero line row e f =
      subst (λ (b : List Line). IsRow schema b line row) (sym (append-nil before))
      (subst (λ (l : Line). IsRow schema before l row) (same_Some first line e) (subst (IsRow schema before first) (same_Some (row_text schema rows count before first) row f) (is_row before first)))
  each_row before (first ∷ rest) (suc i) line row e f = subst (λ (b : List Line). IsRow schema b line row) (append_assoc before (first ∷ []) (take i rest)) (each_row (before ++ first ∷ []) rest i line row e f)

-- the law of rows
pub rows_are_lines : RowsAreLines
rows_are_lines schema lines spent = record {
  rows = row_list schema (rows_from schema 0 lines) (length lines) [] lines;
  count = as_many schema (rows_from schema 0 lines) (length lines) [] lines;
  each = each_row schema (rows_from schema 0 lines) (length lines) [] lines;
  whole = ap (λ (t : List ℕ). head (rows_from schema 0 lines) (length lines) ++ t ++ foot (length lines) spent) (joined schema (rows_from schema 0 lines) (length lines) [] lines);
}
