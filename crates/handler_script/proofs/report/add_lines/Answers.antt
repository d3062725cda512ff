use Rattle.std.proofs.Common.{◌≡◌, ◌+◌, List, [], ◌∷◌, ◌++◌, take, drop, sym, ap, ◌∙◌, subst}
use Rattle.std.proofs.lemmas.List.{take_all, take_more}
use Rattle.ipdl_base.specs.declared.finding.Finding.{Finding}
use Rattle.ipdl_base.specs.declared.finding.Place.{Place}
use Rattle.findings.specs.Gains.{Gains}
use Rattle.findings.proofs.Gathers.{Gains-at_more}
use Rattle.script_reader.specs.declared.line.LineReading.{LineReading}
use Rattle.script_reader.specs.declared.statement.Statement.{Statement}
use Rattle.handler_script.specs.Blocks.{statements}
use Rattle.handler_script.specs.Broken.{line_place, LineBreaks, IsBrokenAt}
use Rattle.handler_script.specs.Knowing.{Knows}
use Rattle.handler_script.proofs.Built.{said_last}
use Rattle.handler_script.proofs.report.add_lines.Goals as goal

pub loop-i-preserved : goal.loop-i-preserved
loop-i-preserved c =
    let schema = c.args.schema.now in
    let readings = c.args.readings.now in
    let i = c.loop-i.i in
    let x = c.index-readings-i.result in
    let before = statements (take i readings) in
    let P : List Statement → Type 0 = λ ss. Knows schema ss c.in_ok-reached.reached in
    let QP : Place → Type 0 = λ p. Gains (λ f. (p ≡ f.place) × LineBreaks schema f.rule before x (statements (drop (i + 1) readings))) c.loop-i.found.items c.add_line.new.found.items in
    let QX : LineReading → Type 0 = λ y. Gains (λ f. (line_place (i + 1) ≡ f.place) × LineBreaks schema f.rule before y (statements (drop (i + 1) readings))) c.loop-i.found.items c.add_line.new.found.items in
    let QA : List LineReading → Type 0 = λ ls. Gains (λ f. (c.line_place-place.result ≡ f.place) × LineBreaks schema f.rule before x (statements ls)) c.loop-i.found.items c.add_line.new.found.items in
    let split : take (i + 1) readings ≡ take i readings ++ x ∷ [] = take_more readings i x c.loop-i-test.true ∙ ap (λ y. take i readings ++ y ∷ []) (sym c.index-readings-i.is) in
    record {
      knows = subst P (sym (ap statements split ∙ said_last (take i readings) x)) (c.in_ok-reached.ensures.knows before c.loop-i.invariant.knows);
      gains = Gains-at_more (λ (f : Finding). IsBrokenAt schema readings f) readings i x _ _ _ c.loop-i-test.true c.loop-i.invariant.gains
          (subst QX c.index-readings-i.is (subst QP c.line_place-place.ensures (subst QA c.lines_after-after.ensures (c.in_ok-reached.ensures.gains before c.loop-i.invariant.knows))));
    }

pub returns : goal.returns
returns c = rw (take_all c.loop-i.i c.args.readings.now c.loop-i-test.false) at c.loop-i.invariant.gains
