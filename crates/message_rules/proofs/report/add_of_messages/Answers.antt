use Rattle.std.proofs.Common.{subst}
use Rattle.std.proofs.lemmas.List.{take_all}
use Rattle.std.specs.List.{Any}
use Rattle.ipdl_syntax.specs.declared.program.Entry.{Entry}
use Rattle.findings.specs.Gains.{Gains}
use Rattle.findings.proofs.Gathers.{Gains-at_none, Gains-more, Gains-like}
use Rattle.message_rules.specs.Broken.{BrokenAt}
use Rattle.message_rules.proofs.Whole.{IsFoundAt, gathered_is_broken, broken_is_gathered}
use Rattle.message_rules.proofs.report.add_of_messages.Goals as goal

pub loop-entry-init : goal.loop-entry-init
loop-entry-init c = Gains-at_none (λ f e. IsFoundAt e f) c.args.found.now.items

pub loop-entry-preserved : goal.loop-entry-preserved
loop-entry-preserved c =
    let Q : Entry → Type 0 = λ e. Gains (IsFoundAt e) c.loop-entry.found.items c.add_of_entry.new.found.items in
    Gains-more (λ f e. IsFoundAt e f) c.args.program.now c.loop-entry.entry-index c.entry-item.result _ _ _ (rw c.as_slice-entry-items.ensures at c.loop-entry-test.true) c.loop-entry.invariant
    (subst Q (rw c.as_slice-entry-items.ensures at c.entry-item.is) c.in_ok-add_of_entry.ensures)

pub returns : goal.returns
returns c =
    let all = rw (take_all c.loop-entry.entry-index c.args.program.now (rw c.as_slice-entry-items.ensures at c.loop-entry-test.false)) at c.loop-entry.invariant in
    Gains-like (λ f. Any (λ e. IsFoundAt e f) c.args.program.now) (BrokenAt c.args.program.now) _ _ all
    (λ f h. gathered_is_broken c.args.program.now f h) (λ f h. broken_is_gathered c.args.program.now f h)
