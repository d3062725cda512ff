use Rattle.std.proofs.Common.{◌≡◌, ◌∙◌, ◌+◌, ◌-◌, ◌*◌, ◌++◌, ℕ, List, ap}
use Rattle.charts.specs.Marks.{fall_style}
use Rattle.charts.specs.Strokes.{lane, stroke}
use Rattle.charts.proofs.Pieces.{after, same}
use Rattle.charts.proofs.marks.push_cross.Goals as goal

pub returns : goal.returns
returns c =
    let place = c.args.place in
    let high : ℕ = 64 + 20 * place.row in
    let low : ℕ = 76 + 20 * place.row in
    let down : List ℕ = stroke fall_style (lane place.side - 6) high (lane place.side + 6) low in
    let up : List ℕ = stroke fall_style (lane place.side - 6) low (lane place.side + 6) high in
    let at_left : c.lane-left.result - 6 ≡ lane place.side - 6 = ap (λ (x : ℕ). x - 6) c.lane-left.ensures in
    let at_right : c.lane-right.result + 6 ≡ lane place.side + 6 = ap (λ (x : ℕ). x + 6) c.lane-right.ensures in
    let first : c.push_stroke.new.out.items ≡ c.args.out.now.items ++ down =
    c.in_ok-push_stroke.ensures ∙ ap (λ (t : List ℕ). c.args.out.now.items ++ t) (ap (λ (x : ℕ). stroke fall_style x high (c.lane-right.result + 6) low) at_left ∙ ap (λ (x : ℕ). stroke fall_style (lane place.side - 6) high x low) at_right) in
    after c.push_stroke-2.result c.args.out.now.items down up c.push_stroke.new.out.items c.push_stroke-2.new.out.items first
    (same c.push_stroke-2.result c.push_stroke.new.out.items c.push_stroke-2.new.out.items (stroke fall_style (c.lane-left.result - 6) low (c.lane-right.result + 6) high) up
    (ap (λ (x : ℕ). stroke fall_style x low (c.lane-right.result + 6) high) at_left ∙ ap (λ (x : ℕ). stroke fall_style (lane place.side - 6) low x high) at_right) c.push_stroke-2.ensures)
