use Rattle.std.proofs.Common.{sym, ◌∙◌, true≢false}
use Rattle.std.proofs.lemmas.Result.{on_ok_weaker}
use Rattle.findings.proofs.Gathers.{Gains-like}
use Rattle.include_graph.proofs.rules.add_of_name.Goals as goal

pub returns-else-bears_name : goal.returns-else-bears_name
returns-else-bears_name c =
    rw c.in-Some.is (on_ok_weaker c.add.result (λ g. Gains-like _ _ _ _ g (λ f p. (λ e. true≢false (sym (c.bears_name.ensures.1 (rw c.as_slice.ensures e)) ∙ c.if-bears_name.false), p)) (λ f p. p.1)) c.add.ensures)
