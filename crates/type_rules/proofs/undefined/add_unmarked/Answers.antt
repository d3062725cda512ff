use Rattle.std.proofs.Common.{◌≡◌, ℕ, true, Some, [], ◌∷◌, ◌++◌, refl, sym, ap, ◌∙◌}
use Rattle.std.specs.Prelude.{slice_get}
use Rattle.std.proofs.lemmas.Bool.{true≢false}
use Rattle.std.proofs.lemmas.List.{take_all}
use Rattle.ipdl_base.specs.declared.finding.Place.{Place}
use Rattle.ipdl_base.specs.declared.finding.Finding.{Finding}
use Rattle.ipdl_base.specs.declared.finding.TheConstants.Rule as rule
use Rattle.type_rules.specs.Compounds.{told, place_of}
use Rattle.type_rules.specs.declared.compounds.Compound.{Compound}
use Rattle.type_rules.proofs.Gains.{Gains-at_turn}
use Rattle.type_rules.proofs.Unmarked.{Gains-unmarked, Gains-marked}
use Rattle.type_rules.proofs.undefined.add_unmarked.Goals as goal
use Rattle.type_rules.proofs.undefined.add_unmarked.Goals.{then-not-is_marked+in_ok-push, else-not-is_marked}

pub loop-number-preserved : goal.loop-number-preserved
loop-number-preserved c =
    let marks = c.args.marks.now in
    let k = c.loop-number.number in
    let x = c.index-all-number.result in
    let P : Finding → ℕ → Compound → Type 0 = λ f k c. (f.rule ≡ rule.UNDEFINED_TYPE) × (¬ (slice_get marks k ≡ Some true)) × (place_of (told c) ≡ f.place) in
    Gains-at_turn P c.args.all.now c.loop-number.number c.index-all-number.result _ _ _ c.loop-number-test.true c.index-all-number.is c.loop-number.invariant
    (elim c.if-not-is_marked.branch [
      | then-not-is_marked+in_ok-push w ↦
          Gains-unmarked rule.UNDEFINED_TYPE (place_of (told x)) (¬ (slice_get marks k ≡ Some true)) _ _ (λ h. true≢false (sym (c.is_marked.ensures.1 h) ∙ w.if-not-is_marked.true))
          (rw w.found-is (w.in_ok-push.ensures.items ∙ ap (λ (place : Place). c.loop-number.found.items ++ record { place = place; rule = rule.UNDEFINED_TYPE } ∷ []) w.place.ensures))
      | else-not-is_marked w ↦ Gains-marked rule.UNDEFINED_TYPE (place_of (told x)) (¬ (slice_get marks k ≡ Some true)) _ _ (λ h. h (c.is_marked.ensures.0 w.if-not-is_marked.false)) (rw w.found-is refl)
    ])

pub returns : goal.returns
returns c = rw (take_all c.loop-number.number c.args.all.now c.loop-number-test.false) at c.loop-number.invariant
