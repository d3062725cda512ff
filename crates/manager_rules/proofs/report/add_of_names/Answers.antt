use Rattle.std.proofs.lemmas.Result.{on_ok_weaker}
use Rattle.ipdl_base.specs.declared.finding.TheConstants.Rule as rule
use Rattle.manager_rules.specs.declared.breach.ManagerBreach.TheVariants.{Unknown, Unanswered, Stronger, Unconstructed}
use Rattle.manager_rules.specs.declared.side.Relation.TheVariants.{Managers, Managed}
use Rattle.findings.proofs.Gains.{Adds-then}
use Rattle.manager_rules.specs.InProtocol.{BreaksAt, UnknownIn, UnansweredIn}
use Rattle.manager_rules.proofs.Gathered.{gains_of, gains_both}
use Rattle.manager_rules.proofs.report.add_of_names.Goals as goal

pub returns : goal.returns
returns c =
    let program = c.args.known.now.program.now in
    let file = c.args.subject.now.file in
    let p = c.args.subject.now.protocol.now in
    let first = c.args.found.now.items in
    let second = c.add_breaches-2.new.found.items in
    let third = c.add_breaches-4.new.found.items in
    let fourth = c.add_breaches-5.new.found.items in
    on_ok_weaker c.add_breaches-6.result
    (λ unconstructed.
    gains_both _ _ first second _
    (gains_of rule.UNKNOWN_PROTOCOL (UnknownIn program file p) first second (Adds-then rule.UNKNOWN_PROTOCOL (BreaksAt (Unknown Managers) program file p) (BreaksAt (Unknown Managed) program file p) first _ second c.in_ok-add_breaches.ensures c.in_ok-add_breaches-2.ensures))
    (gains_both _ _ second third _
    (gains_of rule.MANAGER_DISAGREEMENT (UnansweredIn program file p) second third (Adds-then rule.MANAGER_DISAGREEMENT (BreaksAt (Unanswered Managed) program file p) (BreaksAt (Unanswered Managers) program file p) second _ third c.in_ok-add_breaches-3.ensures c.in_ok-add_breaches-4.ensures))
    (gains_both _ _ third fourth _
    (gains_of rule.STRONGER_PROTOCOL (BreaksAt Stronger program file p) third fourth c.in_ok-add_breaches-5.ensures)
    (gains_of rule.MISSING_CONSTRUCTOR (BreaksAt Unconstructed program file p) fourth _ unconstructed))))
    c.add_breaches-6.ensures
