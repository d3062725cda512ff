use Rattle.std.proofs.Common.{◌≡◌, ◌∙◌, ◌+◌, ◌*◌, ◌++◌, ℕ, List, ap, sym, append_assoc, codes}
use Rattle.charts.specs.Chart.{ending_words}
use Rattle.charts.specs.Strokes.{words_begin}
use Rattle.history.proofs.Lines.{put_one}
use Rattle.charts.proofs.Pieces.{follows, joined}
use Rattle.charts.proofs.chart.push_foot.Goals as goal

pub returns : goal.returns
returns c =
    let out = c.args.out.now.items in
    let begin : List ℕ = words_begin (codes "text-anchor=\"middle\" font-size=\"16\"") 700 (110 + 20 * c.args.count) in
    let ending : List ℕ = ending_words c.args.spent in
    let close : List ℕ = codes "</text>" in
    let end : List ℕ = codes "\n</svg>\n" in
    let last = c.extend_from_slice-2.new.self.items in
    let second : c.extend_from_slice.new.self.items ≡ c.push_words_begin.new.out.items ++ ending = c.in_ok-extend_from_slice.ensures.items ∙ ap (λ (t : List ℕ). c.push_words_begin.new.out.items ++ t) c.ending_words.ensures in
    follows c.extend_from_slice-2.result
    (λ (is : last ≡ c.extend_from_slice.new.self.items ++ (close ++ end)).
    joined out begin (ending ++ (close ++ end)) c.push_words_begin.new.out.items last c.in_ok-push_words_begin.ensures
    (joined c.push_words_begin.new.out.items ending (close ++ end) c.extend_from_slice.new.self.items last second is)
    ∙ ap (λ (t : List ℕ). out ++ t) (sym (append_assoc (begin ++ ending) close end ∙ append_assoc begin ending (close ++ end))))
    (put_one c.extend_from_slice-2.result c.extend_from_slice.new.self.items (close ++ end) last c.extend_from_slice-2.ensures.items)
