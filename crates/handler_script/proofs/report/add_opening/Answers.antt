use Rattle.std.proofs.Common.{◌≡◌, ◌∙◌, sym}
use Rattle.std.specs.Prelude.{IsTrue}
use Rattle.std.specs.Option.{option_map}
use Rattle.std.proofs.lemmas.Result.{on_ok_weaker}
use Rattle.ipdl_base.specs.declared.finding.Finding.{Finding}
use Rattle.ipdl_base.specs.declared.finding.TheConstants.Rule as rule
use Rattle.handler_script.specs.Broken.{is_misdirected, is_uncarried}
use Rattle.handler_script.specs.Contexts.{standing_in}
use Rattle.handler_script.proofs.Gathered.{gains_if, gains_or}
use Rattle.handler_script.proofs.report.add_opening.Goals as goal

pub returns : goal.returns
returns c =
    let b = option_map standing_in c.args.opened in
    let place = c.args.place in
    let D : Finding → Type 0 = λ f. (f.rule ≡ rule.WRONG_DIRECTION) × IsTrue (is_misdirected b) in
    let C : Finding → Type 0 = λ f. (f.rule ≡ rule.UNCARRIED_TYPE) × IsTrue (is_uncarried b) in
    on_ok_weaker c.add_if-2.result (λ last.
    gains_or place D C _ _ _ (gains_if rule.WRONG_DIRECTION place _ (IsTrue (is_misdirected b)) _ _ c.in_ok-add_if.ensures ((λ h. sym c.is_misdirected-misdirected.ensures ∙ h), (λ h. c.is_misdirected-misdirected.ensures ∙ h)))
    (gains_if rule.UNCARRIED_TYPE place c.is_uncarried-uncarried.result (IsTrue (is_uncarried b)) _ _ last ((λ h. sym c.is_uncarried-uncarried.ensures ∙ h), (λ h. c.is_uncarried-uncarried.ensures ∙ h)))) c.add_if-2.ensures
