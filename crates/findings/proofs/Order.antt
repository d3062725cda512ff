-- The order of findings.
use Rattle.std.proofs.Common.{◌≡◌, ℕ, true, refl, ◌∙◌, ap, Ordering, Less, Equal, Greater}
use Rattle.std.specs.Cmp.{IsTotalOrder, Equal-is}
use Rattle.std.specs.FinMap.{nat_cmp-IsAntisymmetric}
use Rattle.std.specs.Ordering.{nat_cmp, ordering_then, eq_by_cmp}
use Rattle.std.proofs.lemmas.Cmp.{then_total, on_total, nat_cmp_total}
use Rattle.ipdl_base.specs.declared.finding.Finding.{Finding}
use Rattle.ipdl_base.specs.declared.finding.Place.{Place}
use Rattle.ipdl_base.specs.declared.finding.Rule.{Rule}
use Rattle.findings.specs.Order.{place_cmp, rule_cmp, finding_cmp}
use Rattle.findings.proofs.Same.{same_finding}

pub place_total : IsTotalOrder place_cmp
place_total = then_total (on_total (λ (p : Place). p.file) nat_cmp_total) (then_total (on_total (λ (p : Place). p.line) nat_cmp_total) (on_total (λ (p : Place). p.column) nat_cmp_total))

rule_total : IsTotalOrder rule_cmp
rule_total = then_total (on_total (λ (r : Rule). r.letter) nat_cmp_total) (on_total (λ (r : Rule). r.number) nat_cmp_total)

pub finding_total : IsTotalOrder finding_cmp
finding_total = then_total (on_total (λ (f : Finding). f.place) place_total) (on_total (λ (f : Finding). f.rule) rule_total)

pub both_equal : (a b : Ordering) → ordering_then a b ≡ Equal → (a ≡ Equal) × (b ≡ Equal)
both_equal Equal b h = (refl, h)
both_equal Less b h = absurd (let no : ⊥ = cc in no)
both_equal Greater b h = absurd (let no : ⊥ = cc in no)

place_at : ℕ → ℕ → ℕ → Place
place_at file line column = record { file = file; line = line; column = column }

rule_at : ℕ → ℕ → Rule
rule_at letter number = record { letter = letter; number = number }

pub same_place : (a b : Place) → place_cmp a b ≡ Equal → a ≡ b
unfolding place_at
same_place a b h =
    let one = both_equal (nat_cmp a.file b.file) _ h in
    let two = both_equal (nat_cmp a.line b.line) (nat_cmp a.column b.column) one.1 in
    ap (λ n. place_at n a.line a.column) (nat_cmp-IsAntisymmetric a.file b.file one.0) ∙ ap (λ n. place_at b.file n a.column) (nat_cmp-IsAntisymmetric a.line b.line two.0) ∙ ap (place_at b.file b.line) (nat_cmp-IsAntisymmetric a.column b.column two.1)

same_rule : (a b : Rule) → rule_cmp a b ≡ Equal → a ≡ b
unfolding rule_at
same_rule a b h =
    let one = both_equal (nat_cmp a.letter b.letter) (nat_cmp a.number b.number) h in
    ap (λ n. rule_at n a.number) (nat_cmp-IsAntisymmetric a.letter b.letter one.0) ∙ ap (rule_at b.letter) (nat_cmp-IsAntisymmetric a.number b.number one.1)

-- findings that tie are the same
same_where_tied : (a b : Finding) → finding_cmp a b ≡ Equal → a ≡ b
same_where_tied a b h =
    let one = both_equal (place_cmp a.place b.place) (rule_cmp a.rule b.rule) h in
    same_finding a b (same_place a.place b.place one.0) (same_rule a.rule b.rule one.1)

pub same_by_tie : (a b : Finding) → eq_by_cmp finding_cmp a b ≡ true → a ≡ b
same_by_tie a b h = same_where_tied a b ((Equal-is (finding_cmp a b)).0 h)
