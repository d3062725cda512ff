use Rattle.std.proofs.Common.{ap, List, length}
use Rattle.std.proofs.lemmas.Result.{on_ok_weaker}
use Rattle.ipdl_syntax.specs.declared.program.Entry.{Entry}
use Rattle.findings.proofs.Gathers.{Gains-then, Gains-rule}
use Rattle.sync_list.proofs.report.add_of_list.Goals as goal

pub returns : goal.returns
returns c =
    let program = c.args.program.now in
    let same = c.as_slice-program.ensures in
    let listed = c.as_slice-list.ensures in
    let known = rw same at c.in_ok-known.ensures in
    let number = ap (λ (es : List Entry). length es) same in
    let none = c.args.found.now.items in
    let one = c.add_unlisted.new.found.items in
    let two = c.add_breaches.new.found.items in
    let three = c.add_breaches-2.new.found.items in
    let four = c.add_breaches-3.new.found.items in
    on_ok_weaker c.add_breaches-3.result (λ last.
    Gains-then _ _ none one four (Gains-rule _ _ none one (rw (same, listed) at c.in_ok-add_unlisted.ensures))
    (Gains-then _ _ one two four (Gains-rule _ _ one two (rw listed at (c.in_ok-add_breaches.ensures program known number)))
    (Gains-then _ _ two three four (Gains-rule _ _ two three (rw listed at (c.in_ok-add_breaches-2.ensures program known number)))
    (Gains-rule _ _ three four (rw listed at (last program known number))))))
    c.add_breaches-3.ensures
