use Rattle.std.proofs.Common.{◌≡◌, sym, ◌∙◌, refl}
use Rattle.std.proofs.lemmas.Bool.{true≢false}
use Rattle.std.proofs.lemmas.List.{take_all}
use Rattle.ipdl_syntax.specs.declared.tree.NameAt.{NameAt}
use Rattle.manager_rules.specs.Breaches.{rule_of, Breaks}
use Rattle.manager_rules.proofs.Gathered.{adds_first, adds_hit, adds_miss}
use Rattle.manager_rules.proofs.report.add_breaches.Goals as goal
use Rattle.manager_rules.proofs.report.add_breaches.Goals.{then-breaks+in_ok-push, else-breaks}

pub loop-name-init : goal.loop-name-init
loop-name-init c = adds_first (rule_of c.args.breach) (λ place n. Breaks c.args.breach c.args.known.now.program.now c.args.subject.now.file c.args.subject.now.protocol.now n × (n.place ≡ place)) c.args.found.now.items

pub loop-name-preserved : goal.loop-name-preserved
loop-name-preserved c =
    let n = c.name-item.result in
    let rule = rule_of c.args.breach in
    let P : NameAt → Type 0 = Breaks c.args.breach c.args.known.now.program.now c.args.subject.now.file c.args.subject.now.protocol.now in
    let names = c.names_of-names.result.now in
    elim c.if-breaks.branch [
      | then-breaks+in_ok-push w ↦
          adds_hit rule P (λ m. m.place) names c.loop-name.name-index n _ _ _ c.loop-name-test.true c.name-item.is (c.breaks.ensures.0 w.if-breaks.true)
          (rw w.found-is (rw w.rule.ensures at w.in_ok-push.ensures.items))
          c.loop-name.invariant
      | else-breaks w ↦ adds_miss rule P (λ m. m.place) names c.loop-name.name-index n _ _ _ c.loop-name-test.true c.name-item.is (λ h. true≢false (sym (c.breaks.ensures.1 h) ∙ w.if-breaks.false)) (rw w.found-is refl) c.loop-name.invariant
    ]

pub returns : goal.returns
returns c = rw (take_all c.loop-name.name-index c.names_of-names.result.now c.loop-name-test.false, c.names_of-names.ensures, c.side.ensures) at c.loop-name.invariant
