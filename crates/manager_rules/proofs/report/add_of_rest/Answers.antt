use Rattle.std.proofs.lemmas.Result.{on_ok_weaker}
use Rattle.ipdl_base.specs.declared.finding.TheConstants.Rule as rule
use Rattle.manager_rules.specs.InProtocol.{CycleIn, UndestroyedIn, UnmanagedIn, RepeatedIn}
use Rattle.manager_rules.proofs.Gathered.{gains_of, gains_both}
use Rattle.manager_rules.proofs.report.add_of_rest.Goals as goal

pub returns : goal.returns
returns c =
    let program = c.args.known.now.program.now in
    let file = c.args.subject.now.file in
    let p = c.args.subject.now.protocol.now in
    let first = c.args.found.now.items in
    let second = c.add_cycle.new.found.items in
    let third = c.add_undestroyed.new.found.items in
    let fourth = c.add_unmanaged.new.found.items in
    on_ok_weaker c.add_repeats.result
    (λ repeats.
    gains_both _ _ first second _
    (gains_of rule.MANAGER_CYCLE (CycleIn program file p) first second c.in_ok-add_cycle.ensures)
    (gains_both _ _ second third _
    (gains_of rule.MISSING_DESTRUCTOR (UndestroyedIn p) second third c.in_ok-add_undestroyed.ensures)
    (gains_both _ _ third fourth _
    (gains_of rule.UNMANAGED_CONSTRUCTOR (UnmanagedIn program file p p.messages) third fourth (rw c.as_slice.ensures at c.in_ok-add_unmanaged.ensures))
    (gains_of rule.REPEATED_NAME (RepeatedIn p) fourth _ repeats))))
    c.add_repeats.ensures
