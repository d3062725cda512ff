use Rattle.std.proofs.lemmas.List.Filters.{dedup_is}
use Rattle.std.proofs.lemmas.List.Kept.{IsStrictlySortedBy-dedup, Contains-dedup, Contains-from_dedup}
use Rattle.std.proofs.lemmas.List.Sorted.{Contains-permutation, IsPermutation-sym}
use Rattle.std.proofs.lemmas.Map.Keys.{Less-from_sorted}
use Rattle.std.proofs.Common.{sym, ◌∙◌}
use Rattle.ipdl_base.specs.contracts.finding.FindingOrd.TheImpl.Laws.{matches_eq-law}
use Rattle.ipdl_base.specs.contracts.finding.FindingEq.TheImpl.Laws.{laws-law}
use Rattle.findings.specs.Order.{finding_cmp}
use Rattle.findings.proofs.Order.{finding_total, same_by_tie}
use Rattle.findings.proofs.report.sort_findings.Goals as goal

pub returns : goal.returns
returns c =
    let is = dedup_is _ _ _ c.dedup.ensures.filtered in
    let moved = c.sort_unstable.ensures.permutation in
    rw c.from_vec.ensures (record {
      ordered = λ i j d lt within. Less-from_sorted finding_cmp _ i j d (rw is (IsStrictlySortedBy-dedup finding_total matches_eq-law _ c.sort_unstable.ensures.sorted)) lt within;
      exact = λ f. (
        (λ h. Contains-permutation _ _ f (IsPermutation-sym _ _ moved) (Contains-from_dedup _ _ f (rw is at h))),
        (λ h. rw is (Contains-dedup laws-law (λ x y e. same_by_tie x y (sym (matches_eq-law x y) ∙ e)) _ f (Contains-permutation _ _ f moved h))),
      );
    })
