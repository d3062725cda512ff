use Rattle.std.proofs.Common.{ap, sym, ◌∙◌}
use Rattle.std.specs.Map.{lookup}
use Rattle.std.specs.Str.{bytes_eq}
use Rattle.std.proofs.lemmas.Bool.{true≢false}
use Rattle.std.proofs.lemmas.List.{take_all}
use Rattle.type_rules.proofs.Firsts.{blank, firsts_none, firsts_counted, firsts_left_out}
use Rattle.type_rules.proofs.declarations.firsts_of.Goals as goal
use Rattle.type_rules.proofs.declarations.firsts_of.Goals.{then-counts+in_ok-note, else-counts}

pub loop-declaration-init : goal.loop-declaration-init
loop-declaration-init c = firsts_none c.args.own _ (λ name. ap (lookup (λ k. bytes_eq name k.now)) c.in_ok-firsts.ensures.empty)

pub loop-declaration-preserved : goal.loop-declaration-preserved
loop-declaration-preserved c =
    let all = c.args.all.now in
    let l = c.loop-declaration in
    elim c.if-counts.branch [
      | then-counts+in_ok-note w ↦
          rw w.firsts-is (firsts_counted c.args.own all l.declaration-index blank l.firsts w.note.new.firsts c.loop-declaration-test.true l.invariant (c.counts.ensures.0 w.if-counts.true) w.in_ok-note.ensures)
      | else-counts w ↦
          firsts_left_out c.args.own all l.declaration-index blank l.firsts c.if-counts.firsts c.loop-declaration-test.true l.invariant (λ h. true≢false (sym (c.counts.ensures.1 h) ∙ w.if-counts.false)) w.firsts-is
    ]

pub returns : goal.returns
returns c = rw (take_all c.loop-declaration.declaration-index c.args.all.now c.loop-declaration-test.false) at c.loop-declaration.invariant
