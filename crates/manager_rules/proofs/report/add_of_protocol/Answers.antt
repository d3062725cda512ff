use Rattle.std.proofs.lemmas.Result.{on_ok_weaker}
use Rattle.manager_rules.specs.InProtocol.{NamesBroken, RestBroken}
use Rattle.manager_rules.proofs.Gathered.{gains_both}
use Rattle.manager_rules.proofs.report.add_of_protocol.Goals as goal

pub returns : goal.returns
returns c =
    let program = c.args.known.now.program.now in
    let p = c.args.protocol.now in
    let subject = c.in_ok-subject.ensures in
    on_ok_weaker c.add_of_rest.result
    (λ rest.
    gains_both (NamesBroken program c.args.file p) (RestBroken program c.args.file p) c.args.found.now.items c.add_of_names.new.found.items _
    (rw (subject.file, subject.protocol) at c.in_ok-add_of_names.ensures)
    (rw (subject.file, subject.protocol) at rest))
    c.add_of_rest.ensures
