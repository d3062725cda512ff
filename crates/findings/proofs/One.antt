-- Two lists in strict order with the same elements are the same.
use Rattle.std.proofs.Common.{◌≡◌, ◌+◌, List, [], ◌∷◌, ◌⊎◌, inl, inr, refl, sym, ◌∙◌, ap, subst, zero, suc, arith, Ordering, Less}
use Rattle.std.specs.Cmp.{IsTotalOrder}
use Rattle.std.specs.List.{Contains}
use Rattle.std.specs.List.Sorted.{IsStrictlySortedBy}
use Rattle.std.proofs.lemmas.Cmp.{tied_itself}
use Rattle.std.proofs.lemmas.List.Elements.{All-from_recursion, All-contains}
use Rattle.std.proofs.lemmas.Map.Keys.{sorted_head, sorted_tail, sorted_from_all_adjacent}
use Rattle.ipdl_base.specs.declared.finding.Finding.{Finding}
use Rattle.findings.specs.Order.{finding_cmp, IsIncreasing}
use Rattle.findings.specs.Laws.{OneReport}
use Rattle.findings.proofs.Order.{finding_total}

in_cases : {X : Type 0} (x : X) (xs : List X) (z : X) → Contains (x ∷ xs) z → (x ≡ z) ⊎ Contains xs z
in_cases x xs z (zero, lt, at) = inl at
in_cases x xs z (suc k, lt, at) = inr (k, omega arith, at)

in_first : {X : Type 0} (x : X) (xs : List X) → Contains (x ∷ xs) x
in_first x xs = (0, omega arith, refl)

in_more : {X : Type 0} (x : X) (xs : List X) (z : X) → Contains xs z → Contains (x ∷ xs) z
in_more x xs z (k, lt, at) = (suc k, omega arith, at)

none_in : {X : Type 0} (z : X) → ¬ Contains [] z
none_in z (k, lt, at) = omega arith

-- the first is below all others
below : {K : Type 0} (R : K → K → Ordering) (x : K) (xs : List K) (z : K) → IsStrictlySortedBy R (x ∷ xs) → Contains xs z → R x z ≡ Less
below R x xs z sorted h = All-contains (λ y. R x y ≡ Less) xs z (All-from_recursion (λ y. R x y ≡ Less) xs (sorted_head R x xs sorted)) h

never : {K : Type 0} {R : K → K → Ordering} (o : IsTotalOrder R) (x : K) → ¬ (R x x ≡ Less)
never o x h = let e = tied_itself o x in cc

heads : {K : Type 0} {R : K → K → Ordering} (o : IsTotalOrder R) (x : K) (xs : List K) (y : K) (ys : List K) → IsStrictlySortedBy R (x ∷ xs) → IsStrictlySortedBy R (y ∷ ys) → Contains (y ∷ ys) x → Contains (x ∷ xs) y → x ≡ y
heads {R = R} o x xs y ys p q there back = elim (in_cases y ys x there) [
  | inl e ↦ sym e
  | inr h ↦ elim (in_cases x xs y back) [
    | inl e ↦ e
    | inr k ↦ absurd (never o x (o.trans x y x (below R x xs y p k) (below R y ys x q h)))
  ]
]

tail : {K : Type 0} {R : K → K → Ordering} (o : IsTotalOrder R) (x : K) (xs : List K) (y : K) (ys : List K) → x ≡ y → IsStrictlySortedBy R (x ∷ xs) → (z : K) → Contains (y ∷ ys) z → Contains xs z → Contains ys z
tail {K = K} {R = R} o x xs y ys same p z there h = elim (in_cases y ys z there) [
  | inl e ↦ absurd (never o x (let P : K → Type 0 = λ w. R x w ≡ Less in subst P (sym (same ∙ e)) (below R x xs z p h)))
  | inr k ↦ k
]

same_lists : {K : Type 0} {R : K → K → Ordering} (o : IsTotalOrder R) (xs ys : List K) → IsStrictlySortedBy R xs → IsStrictlySortedBy R ys → ((z : K) → Contains xs z → Contains ys z) → ((z : K) → Contains ys z → Contains xs z) → xs ≡ ys
same_lists o [] [] p q to back = refl
same_lists o [] (y ∷ ys) p q to back = absurd (none_in y (back y (in_first y ys)))
same_lists o (x ∷ xs) [] p q to back = absurd (none_in x (to x (in_first x xs)))
same_lists {R = R} o (x ∷ xs) (y ∷ ys) p q to back =
    let first = heads o x xs y ys p q (to x (in_first x xs)) (back y (in_first y ys)) in
    let others = same_lists o xs ys (sorted_tail R x xs p) (sorted_tail R y ys q) (λ z h. tail o x xs y ys first p z (to z (in_more x xs z h)) h) (λ z h. tail o y ys x xs (sym first) q z (back z (in_more y ys z h)) h) in
    ap (λ z. z ∷ xs) first ∙ ap (λ zs. y ∷ zs) others

no_finding : Finding
no_finding = record { place = record { file = 0; line = 0; column = 0 }; rule = record { letter = 0; number = 0 } }

sorted_of : (xs : List Finding) → IsIncreasing xs → IsStrictlySortedBy finding_cmp xs
sorted_of xs ordered = sorted_from_all_adjacent finding_total xs no_finding (λ k lt. ordered k (k + 1) no_finding (omega arith) lt)

-- increasing lists with the same findings are the same
pub one_report : OneReport
one_report a b p q same = same_lists finding_total a b (sorted_of a p) (sorted_of b q) (λ f h. (same f).0 h) (λ f h. (same f).1 h)
