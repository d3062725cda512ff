-- Elements with keys, in the order of the keys.
use Rattle.report_existence.proofs.Lists.{bool_or_not}
use Rattle.std.proofs.Common.{◌≡◌, ◌⊎◌, List, Option, Some, IsSome, is_some, refl, sym, ap, ◌∙◌, inl, inr, true, Ordering, Less, Equal, Greater}
use Rattle.std.specs.Prelude.{◌↔◌}
use Rattle.std.specs.Cmp.{IsTotalOrder}
use Rattle.std.specs.List.{AllPairs, Contains}
use Rattle.std.specs.Ordering.{ordering_reverse}
use Rattle.std.proofs.lemmas.Option.{same_Some}
use Rattle.program_schema.proofs.Numberings.{some_of}
use Rattle.report_existence.proofs.Ordered.{IsOrder, in_order}
use Rattle.name_existence.proofs.Decisions.{of_list}

module _ {X K : Type 0} (key : X → Option K) (cmp : K × X → K × X → Ordering) where
  -- the key of one is before that of another
  abbrev HasKeyBefore : X → X → Type 0
  HasKeyBefore x y = (p q : K) → key x ≡ Some p → key y ≡ Some q → cmp (p, x) (q, y) ≡ Less

  before_by : (x y : X) (p q : K) → key x ≡ Some p → key y ≡ Some q → cmp (p, x) (q, y) ≡ Less → HasKeyBefore x y
  before_by x y p q at there less one other is that =
      ap (λ (k : K). cmp (k, x) (other, y)) (same_Some one p (sym is ∙ at)) ∙ ap (λ (k : K). cmp (p, x) (k, y)) (same_Some other q (sym that ∙ there)) ∙ less

module _ {X K : Type 0} (key : X → Option K) (cmp : K × X → K × X → Ordering) (total : IsTotalOrder cmp) (tied : (x y : X) (p q : K) → key x ≡ Some p → key y ≡ Some q → cmp (p, x) (q, y) ≡ Equal → x ≡ y) where
  compared_by : (x y : X) (p q : K) → key x ≡ Some p → key y ≡ Some q → (order : Ordering) → cmp (p, x) (q, y) ≡ order → HasKeyBefore key cmp x y ⊎ ((x ≡ y) ⊎ HasKeyBefore key cmp y x)
  compared_by x y p q at there Less is = inl (before_by key cmp x y p q at there is)
  compared_by x y p q at there Equal is = inr (inl (tied x y p q at there is))
  compared_by x y p q at there Greater is = inr (inr (before_by key cmp y x q p there at (total.antisymm (q, y) (p, x) ∙ ap ordering_reverse is)))

  key_order : IsOrder (λ x. IsSome (key x)) (HasKeyBefore key cmp)
  key_order = record {
    compared = λ x y some other. let p = some_of (key x) some in let q = some_of (key y) other in compared_by x y p.0 q.0 p.1 q.1 (cmp (p.0, x) (q.0, y)) refl;
    trans = λ x y z some middle last one two p r at there. let q = some_of (key y) middle in total.trans (p, x) (q.0, y) (r, z) (one p q.0 at q.1) (two q.0 r q.1 there);
  }

  -- all that have keys, which are among these, in the order of the keys
  pub in_key_order : (xs : List X) → ((x : X) → IsSome (key x) → Contains xs x) → (all : List X) × AllPairs (HasKeyBefore key cmp) all × ((x : X) → Contains all x ↔ IsSome (key x))
  in_key_order xs within =
      let listed = of_list (λ x. IsSome (key x)) (λ x. bool_or_not (is_some (key x)) true) xs within in
      let all = in_order key_order listed.0 (λ x h. (listed.1 x).0 h) in
      (all.0, all.1, λ x. (λ h. (listed.1 x).0 ((all.2 x).0 h), λ some. (all.2 x).1 ((listed.1 x).1 some)))
