use Rattle.std.proofs.Common.{◌≡◌, ◌++◌, ◌∷◌, [], refl, subst, sym, ap, ◌∙◌}
use Rattle.std.proofs.lemmas.Bool.{true≢false}
use Rattle.std.proofs.lemmas.List.{take_all}
use Rattle.ipdl_base.specs.declared.finding.Finding.{Finding}
use Rattle.ipdl_base.specs.declared.finding.Place.{Place}
use Rattle.findings.specs.Adds.{Adds}
use Rattle.findings.proofs.Gains.{Adds-more}
use Rattle.sync_list.specs.declared.list.Section.{Section}
use Rattle.sync_list.specs.Breaches.{rule_of, Breaks}
use Rattle.sync_list.specs.Broken.{section_place}
use Rattle.sync_list.proofs.Found.{Adds-found, Adds-quiet, Adds-at_none}
use Rattle.sync_list.proofs.report.add_breaches.Goals as goal
use Rattle.sync_list.proofs.report.add_breaches.Goals.{then-breaks+in_ok-push, else-breaks}

pub loop-section-init : goal.loop-section-init
loop-section-init c program knows counted = Adds-at_none (rule_of c.args.breach) (λ place (s : Section). Breaks c.args.breach program s × (section_place program s ≡ place)) c.args.found.now.items

pub loop-section-preserved : goal.loop-section-preserved
loop-section-preserved c program knows counted =
    let s = c.section-item.result in
    let rule = rule_of c.args.breach in
    let P : Place → Section → Type 0 = λ place s. Breaks c.args.breach program s × (section_place program s ≡ place) in
    let Q : Section → Type 0 = λ s. Adds rule (λ place. P place s) c.loop-section.found.items c.if-breaks.found.items in
    let told = c.breaks.ensures program knows in
    Adds-more rule P c.args.list.now c.loop-section.section-index s _ _ _ c.loop-section-test.true (c.loop-section.invariant program knows counted)
    (subst Q c.section-item.is
    (elim c.if-breaks.branch [
      | then-breaks+in_ok-push w ↦
          Adds-found rule (section_place program s) (Breaks c.args.breach program s) _ _ (told.0 w.if-breaks.true)
          (rw w.found-is (w.in_ok-push.ensures.items ∙ ap (λ (f : Finding). c.loop-section.found.items ++ f ∷ []) (rw (sym counted) w.at_section.ensures)))
      | else-breaks w ↦ Adds-quiet rule (λ place. P place s) _ _ (λ place h. true≢false (sym (told.1 h.0) ∙ w.if-breaks.false)) (rw w.found-is refl)
    ]))

pub returns : goal.returns
returns c program knows counted = rw (take_all c.loop-section.section-index c.args.list.now c.loop-section-test.false) at (c.loop-section.invariant program knows counted)
