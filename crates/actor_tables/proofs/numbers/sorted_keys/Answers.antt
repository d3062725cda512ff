use Rattle.std.proofs.lemmas.List.Filters.{dedup_is}
use Rattle.std.proofs.lemmas.List.Kept.{IsStrictlySortedBy-dedup, Contains-dedup, Contains-from_dedup}
use Rattle.std.proofs.lemmas.List.Sorted.{Contains-permutation, IsPermutation-sym}
use Rattle.std.proofs.lemmas.Map.Keys.{Less-from_sorted}
use Rattle.std.proofs.Common.{sym, ◌∙◌}
use Rattle.actor_tables.specs.contracts.numbers.TypeKeyOrd.TheImpl.Laws.{matches_eq-law}
use Rattle.actor_tables.specs.contracts.numbers.TypeKeyEq.TheImpl.Laws.{laws-law}
use Rattle.actor_tables.specs.Numbered.{key_cmp}
use Rattle.actor_tables.proofs.TypeOrder.{key_total, same_by_tie}
use Rattle.actor_tables.proofs.numbers.sorted_keys.Goals as goal

pub returns-clause-ordered : goal.returns-clause-ordered
returns-clause-ordered c =
    let is = dedup_is _ _ _ c.dedup.ensures.filtered in
    λ i j d lt within. Less-from_sorted key_cmp _ i j d (rw is (IsStrictlySortedBy-dedup key_total matches_eq-law _ c.sort_unstable.ensures.sorted)) lt within

pub returns-clause-exact : goal.returns-clause-exact
returns-clause-exact c =
    let is = dedup_is _ _ _ c.dedup.ensures.filtered in
    let moved = c.sort_unstable.ensures.permutation in
    λ key. (
      (λ h. Contains-permutation _ _ key (IsPermutation-sym _ _ moved) (Contains-from_dedup _ _ key (rw is at h))),
      (λ h. rw is (Contains-dedup laws-law (λ x y e. same_by_tie x y (sym (matches_eq-law x y) ∙ e)) _ key (Contains-permutation _ _ key moved h))),
    )
