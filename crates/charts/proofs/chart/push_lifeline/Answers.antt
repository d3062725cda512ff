use Rattle.std.proofs.Common.{◌≡◌, ◌∙◌, ◌++◌, [], ℕ, List, if◌then◌else◌, Bool, sym, ap, append-nil}
use Rattle.charts.specs.Chart.{cap, life_style}
use Rattle.charts.specs.Rows.{bottom}
use Rattle.charts.specs.Strokes.{height, lane, stroke}
use Rattle.charts.proofs.Pieces.{after, life_drawn, same}
use Rattle.charts.proofs.chart.push_lifeline.Goals as goal

pub returns-then-rows : goal.returns-then-rows
returns-then-rows c =
    let out = c.args.out.now.items in
    let end : ℕ = bottom c.args.rows c.args.count in
    let life : List ℕ = stroke life_style (lane c.args.side) 44 (lane c.args.side) (height end) in
    let first : c.push_stroke.new.out.items ≡ out ++ life = life_drawn out c.push_stroke.new.out.items c.args.side c.lane-x.result c.height-y.result c.bottom-bottom.result end c.lane-x.ensures c.height-y.ensures c.bottom-bottom.ensures c.in_ok-push_stroke.ensures in
    let marked : cap c.args.side c.bottom-bottom.result ≡ (if c.args.rows.ended then cap c.args.side end else []) = ap (cap c.args.side) c.bottom-bottom.ensures ∙ ap (λ (ended : Bool). if ended then cap c.args.side end else []) (sym c.if-rows.true) in
    after c.push_cap.result out life (if c.args.rows.ended then cap c.args.side end else []) c.push_stroke.new.out.items c.push_cap.new.out.items first
    (same c.push_cap.result c.push_stroke.new.out.items c.push_cap.new.out.items (cap c.args.side c.bottom-bottom.result) (if c.args.rows.ended then cap c.args.side end else []) marked c.push_cap.ensures)

pub returns-else-rows : goal.returns-else-rows
returns-else-rows c =
    let out = c.args.out.now.items in
    let end : ℕ = bottom c.args.rows c.args.count in
    let life : List ℕ = stroke life_style (lane c.args.side) 44 (lane c.args.side) (height end) in
    let first : c.push_stroke.new.out.items ≡ out ++ life = life_drawn out c.push_stroke.new.out.items c.args.side c.lane-x.result c.height-y.result c.bottom-bottom.result end c.lane-x.ensures c.height-y.ensures c.bottom-bottom.ensures c.in_ok-push_stroke.ensures in
    first ∙ ap (λ (t : List ℕ). out ++ t) (sym (append-nil life) ∙ ap (λ (ended : Bool). life ++ (if ended then cap c.args.side end else [])) (sym c.if-rows.false))
