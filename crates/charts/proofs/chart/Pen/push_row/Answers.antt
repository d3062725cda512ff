use Rattle.std.proofs.Common.{◌≡◌, ◌∙◌, ◌++◌, [], ◌∷◌, ℕ, List, ap}
use Rattle.ipdl_base.specs.declared.line.Line.{Line}
use Rattle.history.specs.Text.{line_begin}
use Rattle.charts.specs.Chart.{line_words, row_at}
use Rattle.charts.specs.Noted.{noted}
use Rattle.charts.specs.declared.marks.Place.{Place}
use Rattle.charts.proofs.Slices.{all_but_last, one_at_least}
use Rattle.charts.proofs.Tallied.{place_known}
use Rattle.charts.proofs.chart.Pen.push_row.Goals as goal

pub slice_bounds-text-count : goal.slice_bounds-text-count
slice_bounds-text-count c =
    let before : List Line = c.requires.known.0 in
    let line = c.args.line.now in
    let begin : List ℕ = line_begin line in
    let words : List ℕ = line_words c.args.schema.now before line in
    let newest : c.newest-text.result.now ≡ (begin ++ words) ++ 10 ∷ [] = c.newest-text.ensures ∙ c.in_ok-write.ensures.newest before c.requires.known.1.written in
    one_at_least c.newest-text.result.now (begin ++ words) 10 newest

pub push_row_of-requires-clause-begins : goal.push_row_of-requires-clause-begins
push_row_of-requires-clause-begins c =
    let before : List Line = c.requires.known.0 in
    let line = c.args.line.now in
    let begin : List ℕ = line_begin line in
    let words : List ℕ = line_words c.args.schema.now before line in
    let newest : c.newest-text.result.now ≡ (begin ++ words) ++ 10 ∷ [] = c.newest-text.ensures ∙ c.in_ok-write.ensures.newest before c.requires.known.1.written in
    (words, all_but_last c.newest-text.result.now (begin ++ words) 10 newest)

pub returns-clause-text : goal.returns-clause-text
returns-clause-text c before knows at =
    let line = c.args.line.now in
    let schema = c.args.schema.now in
    let begin : List ℕ = line_begin line in
    let words : List ℕ = line_words schema before line in
    let newest : c.newest-text.result.now ≡ (begin ++ words) ++ 10 ∷ [] = c.newest-text.ensures ∙ c.in_ok-write.ensures.newest before knows.written in
    c.in_ok-push_row_of.ensures words (all_but_last c.newest-text.result.now (begin ++ words) 10 newest)
    ∙ ap (λ (place : Place). c.args.out.now.items ++ row_at schema (noted c.args.rows.now) place line words)
    (c.place-place.ensures ∙ place_known c.args.self.now before c.args.count c.args.row line.side knows.parent knows.child at)
