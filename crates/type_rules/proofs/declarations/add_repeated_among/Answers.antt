use Rattle.std.proofs.Common.{◌≡◌, get_or, refl, sym, ◌∙◌}
use Rattle.std.proofs.lemmas.Bool.{true≢false}
use Rattle.std.proofs.lemmas.List.{take_all}
use Rattle.ipdl_base.specs.declared.finding.Place.{Place}
use Rattle.ipdl_base.specs.declared.finding.TheConstants.Rule as rule
use Rattle.findings.proofs.Gains.{Adds-more}
use Rattle.type_rules.specs.declared.declarations.Declaration.{Declaration}
use Rattle.type_rules.specs.Firsts.{told, IsRepeatedAmong}
use Rattle.type_rules.proofs.Firsts.{blank}
use Rattle.type_rules.proofs.Placed.{Adds-found, Adds-quiet}
use Rattle.type_rules.proofs.declarations.add_repeated_among.Goals as goal
use Rattle.type_rules.proofs.declarations.add_repeated_among.Goals.{then-is_repeated+in_ok-push, else-is_repeated}

pub loop-declaration-preserved : goal.loop-declaration-preserved
loop-declaration-preserved c all any own =
    let these = c.args.these.now in
    let i = c.loop-declaration.declaration-index in
    let x = get_or these i blank in
    let h = c.is_repeated.ensures all any own in
    let P : Place → Declaration → Type 0 = λ place d. IsRepeatedAmong all (told d) × (d.place ≡ place) in
    Adds-more rule.REPEATED_DECLARATION P these i blank _ _ _ c.loop-declaration-test.true (c.loop-declaration.invariant all any own)
    (elim c.if-is_repeated.branch [
      | then-is_repeated+in_ok-push w ↦ Adds-found rule.REPEATED_DECLARATION x.place (IsRepeatedAmong all (told x)) _ _ (h.0 w.if-is_repeated.true) (rw w.found-is w.in_ok-push.ensures.items)
      | else-is_repeated w ↦ Adds-quiet rule.REPEATED_DECLARATION (λ place. P place x) _ _ (λ place g. true≢false (sym (h.1 g.0) ∙ w.if-is_repeated.false)) (rw w.found-is refl)
    ])

pub returns : goal.returns
returns c all any own = rw (take_all c.loop-declaration.declaration-index c.args.these.now c.loop-declaration-test.false) at (c.loop-declaration.invariant all any own)
