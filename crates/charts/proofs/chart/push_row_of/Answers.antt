use Rattle.std.proofs.Common.{◌≡◌, ◌∙◌, ◌++◌, ◌-◌, ℕ, List, ap, drop, length, take, codes}
use Rattle.history.specs.Text.{line_begin}
use Rattle.charts.specs.Chart.{label, title}
use Rattle.charts.specs.Marks.{marks}
use Rattle.charts.specs.Noted.{noted}
use Rattle.history.proofs.Lines.{put_one}
use Rattle.charts.proofs.Pieces.{follows, joined}
use Rattle.charts.proofs.Slices.{rest_of}
use Rattle.charts.proofs.chart.push_row_of.Goals as goal

pub returns : goal.returns
returns c =
    let out = c.args.out.now.items in
    let schema = c.args.schema.now in
    let place = c.args.place in
    let what = c.args.line.now.what in
    let begin : List ℕ = line_begin c.args.line.now in
    let drawn : List ℕ = marks (noted c.args.rows.now) place what in
    let end : List ℕ = codes "</g>\n" in
    let last = c.extend_from_slice.new.self.items in
    let row : List ℕ → List ℕ → List ℕ = λ (text words : List ℕ). out ++ (title text ++ (drawn ++ (label schema place words what ++ end))) in
    let text = c.args.text.now in
    follows c.extend_from_slice.result
    (λ (is : last ≡ c.push_label.new.out.items ++ end) (words : List ℕ) (begins : text ≡ begin ++ words).
    let rest : List ℕ = take (length text - c.begin_length.result) (drop c.begin_length.result text) in
    let whole : last ≡ row text rest =
    joined out (title text) (drawn ++ (label schema place rest what ++ end)) c.push_title.new.out.items last c.in_ok-push_title.ensures
    (joined c.push_title.new.out.items drawn (label schema place rest what ++ end) c.push_marks.new.out.items last c.in_ok-push_marks.ensures
    (joined c.push_marks.new.out.items (label schema place rest what) end c.push_label.new.out.items last c.in_ok-push_label.ensures is)) in
    whole ∙ (ap (λ (t : List ℕ). row t rest) begins ∙ ap (row (begin ++ words)) (rest_of text begin words c.begin_length.result c.begin_length.ensures begins)))
    (put_one c.extend_from_slice.result c.push_label.new.out.items end last c.extend_from_slice.ensures.items)
