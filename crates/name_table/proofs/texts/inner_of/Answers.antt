use Rattle.std.proofs.Common.{◌≡◌, ◌∙◌, ◌∷◌, ◌++◌, [], List, ℕ, Option, Some, None, sym, ap, length, take, drop, nat_eq, true, false, ◌-◌, ◌+◌, Bor}
use Rattle.std.specs.Prelude.{IfSome, IfNone, MatchOption}
use Rattle.std.specs.Cmp.Lexicographic.{pointwise}
use Rattle.ipdl_syntax.specs.Grammar.{whole_name}
use Rattle.name_table.proofs.FullNames.{front_not, front_is, last_is, whole_name-parts}
use Rattle.name_table.proofs.texts.inner_of.Goals as goal

whenever_none : {X : Type 0} (o : Option X) (Q : Type 0) → Q → IfNone o Q
whenever_none None Q q = q
whenever_none (Some x) Q q = tt

pub returns-in_err-strip_prefix-clause-none : goal.returns-in_err-strip_prefix-clause-none
returns-in_err-strip_prefix-clause-none c =
    whenever_none c.from_residual.result _ (λ inner e. front_not c.args.front.now c.args.whole.now c.in_err-strip_prefix.ensures.cases _ (e ∙ whole_name-parts c.args.front.now inner))

within : (whole front rest second : List ℕ) (last : Option (Bor (List ℕ)))
    → whole ≡ front ++ rest → rest ≡ 60 ∷ second
    → MatchOption last (pointwise nat_eq (drop (length second - 1) second) (62 ∷ []) ≡ false) (λ x. (pointwise nat_eq (drop (length second - 1) second) (62 ∷ []) ≡ true) × (x.now ≡ take (length second - 1) second) × (length x.now + 1 ≡ length second))
    → IfSome last (λ inner. whole ≡ whole_name front (Some inner.now))
within whole front rest second None e f h = tt
within whole front rest second (Some x) e f h =
    e ∙ ap (λ r. front ++ r) (f ∙ ap (λ s. 60 ∷ s) (last_is second 62 h.0 ∙ ap (λ s. s ++ 62 ∷ []) (sym h.1))) ∙ sym (whole_name-parts front x.now)

pub returns-clause-some : goal.returns-clause-some
returns-clause-some c =
    let one = c.in_ok-strip_prefix.ensures.cases in
    let two = c.in_ok-strip_prefix-2.ensures.cases in
    within c.args.whole.now c.args.front.now c.in_ok-strip_prefix.field-0.now c.in_ok-strip_prefix-2.field-0.now c.strip_suffix.result
    (front_is c.args.front.now c.args.whole.now one.0 ∙ ap (λ r. c.args.front.now ++ r) (sym one.1))
    (front_is (60 ∷ []) c.in_ok-strip_prefix.field-0.now two.0 ∙ ap (λ r. 60 ∷ r) (sym two.1))
    c.strip_suffix.ensures.cases
