use Rattle.std.proofs.Common.{sym, ◌∙◌}
use Rattle.std.specs.Prelude.{codes}
use Rattle.std.proofs.lemmas.Bool.{true≢false}
use Rattle.ipdl_base.proofs.Ends.{ends, has_ending}
use Rattle.include_graph.proofs.Ends.{of_kinds}
use Rattle.include_graph.proofs.keys.kind_of.Goals as goal

pub returns-then-ends_with : goal.returns-then-ends_with
returns-then-ends_with c = ends c.args.key.now (codes ".ipdlh") (sym c.ends_with.ensures.value ∙ c.if-ends_with.true)

pub returns-else-ends_with : goal.returns-else-ends_with
returns-else-ends_with c =
    of_kinds c.args.key.now c.requires
    (λ p. p)
    (λ h. absurd (true≢false (sym (has_ending c.args.key.now (codes ".ipdlh") h.0 h.1) ∙ (sym c.ends_with.ensures.value ∙ c.if-ends_with.false))))
