-- What the pen knows after some lines.
use Rattle.std.proofs.Common.{◌≡◌, ◌∙◌, ℕ, ◌+◌, ◌<◌, ◌≤◌, ◌&&◌, Bool, List, [], ◌∷◌, ◌++◌, length, take, drop, get_or, ap, sym, subst, append_assoc, arith}
use Rattle.std.proofs.lemmas.List.{drop_more, take_more}
use Rattle.std.proofs.lemmas.List.Sums.{count_by-le-length}
use Rattle.ipdl_base.specs.Lines.{same_side}
use Rattle.ipdl_base.specs.declared.kinds.Side.{Side}
use Rattle.ipdl_base.specs.declared.kinds.Side.TheVariants as side
use Rattle.ipdl_base.specs.declared.line.Line.{Line}
use Rattle.ipdl_base.specs.declared.line.What.{What}
use Rattle.ipdl_base.specs.declared.schema.Schema.{Schema}
use Rattle.charts.specs.Chart.{row_text, rows_text}
use Rattle.charts.specs.Marks.{place_of}
use Rattle.charts.specs.Rows.{HistoryRows, begins_bar, brings_item, count_of, ends_bar}
use Rattle.charts.specs.Tallies.{AreBelow, place_by, tally_at, tally_of}
use Rattle.charts.specs.declared.chart.Pen.{Pen}
use Rattle.charts.specs.declared.tally.Tally.{Tally}

-- the place of a line is the one after the lines that the pen knows
pub place_known : (pen : Pen) (before : List Line) (count row : ℕ) (s : Side) → pen.parent ≡ tally_of side.Parent before → pen.child ≡ tally_of side.Child before
    → row ≡ length before → place_by count row (tally_at pen s) s ≡ place_of count before s
place_known pen before count row side.Parent parent child at = ap (λ (r : ℕ). place_by count r pen.parent side.Parent) at ∙ ap (λ (t : Tally). place_by count (length before) t side.Parent) parent
place_known pen before count row side.Child parent child at = ap (λ (r : ℕ). place_by count r pen.child side.Child) at ∙ ap (λ (t : Tally). place_by count (length before) t side.Child) child

-- one more row is written, and the rest is left
pub rows_more : (schema : Schema) (rows : HistoryRows) (count : ℕ) (lines : List Line) (i : ℕ) (line : Line) (out more whole : List ℕ) → i < length lines → line ≡ get_or lines i line
    → more ≡ out ++ row_text schema rows count (take i lines) line → out ++ rows_text schema rows count (take i lines) (drop i lines) ≡ whole
    → more ++ rows_text schema rows count (take (i + 1) lines) (drop (i + 1) lines) ≡ whole
rows_more schema rows count lines i line out more whole within is written before =
    let left : List Line = drop (i + 1) lines in
    let first : drop i lines ≡ line ∷ left = drop_more lines i line within ∙ ap (λ (l : Line). l ∷ left) (sym is) in
    let taken : take (i + 1) lines ≡ take i lines ++ line ∷ [] = take_more lines i line within ∙ ap (λ (l : Line). take i lines ++ l ∷ []) (sym is) in
    let rest : List ℕ = rows_text schema rows count (take i lines ++ line ∷ []) left in
    ap (λ (t : List Line). more ++ rows_text schema rows count t left) taken
    ∙ (ap (λ (m : List ℕ). m ++ rest) written
    ∙ (append_assoc out (row_text schema rows count (take i lines) line) rest
    ∙ (ap (λ (d : List Line). out ++ rows_text schema rows count (take i lines) d) (sym first) ∙ before)))

-- the counts of a side are below a number, if the lines are
pub below : (s : Side) (lines : List Line) (bound : ℕ) (tally : Tally) → tally ≡ tally_of s lines → length lines < bound → AreBelow bound tally
below s lines bound tally is short =
    let most : (test : What → Bool) → count_of test s lines < bound = λ (test : What → Bool). (let few : count_of test s lines ≤ length lines = count_by-le-length (λ (line : Line). same_side line.side s && test line.what) lines in omega arith) in
    subst (λ (t : Tally). AreBelow bound t) (sym is) (record { begun = most begins_bar; ended = most ends_bar; brought = most brings_item })
