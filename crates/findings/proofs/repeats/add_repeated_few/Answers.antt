use Rattle.std.proofs.Common.{[], get_or, take, sym, ◌∙◌}
use Rattle.std.proofs.lemmas.Bool.{true≢false}
use Rattle.std.proofs.lemmas.List.{take_all}
use Rattle.findings.proofs.Repeated.{Given, among_decided, Adds-repeated, Adds-new}
use Rattle.findings.proofs.repeats.add_repeated_few.Goals as goal
use Rattle.findings.proofs.repeats.add_repeated_few.Goals.{then-is_among+in_ok-push, else-is_among}

pub loop-i-preserved : goal.loop-i-preserved
loop-i-preserved c =
    let i = c.loop-i.i in
    let names = c.args.names.now in
    let none : Given = (record { ref_ptr = (0, 0); now = [] }, record { file = 0; line = 0; column = 0 }) in
    let told = among_decided (take i names) (get_or names i none).0.now in
    elim c.if-is_among.branch [
      | then-is_among+in_ok-push w ↦ Adds-repeated c.args.rule names i _ _ _ _ c.loop-i-test.true (told.0 (sym c.is_among.ensures ∙ w.if-is_among.true)) (rw w.found-is w.in_ok-push.ensures.items) c.loop-i.invariant
      | else-is_among w ↦ rw w.found-is (Adds-new c.args.rule names i none _ _ c.loop-i-test.true (λ has. true≢false (sym (told.1 has) ∙ sym c.is_among.ensures ∙ w.if-is_among.false)) c.loop-i.invariant)
    ]

pub returns : goal.returns
returns c = rw (take_all c.loop-i.i c.args.names.now c.loop-i-test.false) at c.loop-i.invariant
