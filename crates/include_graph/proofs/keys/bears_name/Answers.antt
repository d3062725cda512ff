use Rattle.std.proofs.Common.{◌≡◌, ◌+◌, length, ◌∙◌, ap, arith}
use Rattle.std.specs.Prelude.{codes}
use Rattle.ipdl_base.specs.Words.{short_name}
use Rattle.include_graph.specs.Keys.{is_same}
use Rattle.include_graph.proofs.Ends.{split_ends, no_front, turned}
use Rattle.include_graph.proofs.keys.bears_name.Goals as goal

pub returns-then-eq : goal.returns-then-eq
returns-then-eq c =
    let room : c.in-Some.n + 5 ≡ length c.args.key.now = omega (arith, c.in-Some.ensures) in
    let short = c.short_name-short.ensures in
    turned (split_ends c.args.key.now (short_name c.args.full.now) (codes ".ipdl") c.split_at.result.0.now c.split_at.result.1.now c.in-Some.n c.eq.result c.eq-then-eq.result room
    c.split_at.ensures.front c.split_at.ensures.back (c.eq.ensures ∙ ap (λ s. is_same c.split_at.result.0.now s) short) c.if-eq.true c.eq-then-eq.ensures)

pub returns-else-eq : goal.returns-else-eq
returns-else-eq c =
    let room : c.in-Some.n + 5 ≡ length c.args.key.now = omega (arith, c.in-Some.ensures) in
    let short = c.short_name-short.ensures in
    turned (no_front c.args.key.now (short_name c.args.full.now) (codes ".ipdl") c.split_at.result.0.now c.in-Some.n c.eq.result room
    c.split_at.ensures.front (c.eq.ensures ∙ ap (λ s. is_same c.split_at.result.0.now s) short) c.if-eq.false)
