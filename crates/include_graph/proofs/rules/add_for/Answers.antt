use Rattle.std.proofs.Common.{sym, ◌∙◌}
use Rattle.std.proofs.lemmas.Result.{on_ok_weaker}
use Rattle.findings.proofs.Gathers.{Gains-like}
use Rattle.include_graph.proofs.rules.add_for.Goals as goal

pub returns-in-LeftOut : goal.returns-in-LeftOut
returns-in-LeftOut c = rw c.in-LeftOut.is c.add.ensures

pub returns-then-is_absent_at : goal.returns-then-is_absent_at
returns-then-is_absent_at c =
    rw c.in-File.is (on_ok_weaker c.add-then-is_absent_at.result (λ g. Gains-like _ _ _ _ g (λ f p. (sym c.is_absent_at.ensures ∙ c.if-is_absent_at.true, p)) (λ f p. p.1)) c.add-then-is_absent_at.ensures)
