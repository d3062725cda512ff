use Rattle.std.proofs.lemmas.Bool.Decides.{Decides-not}
use Rattle.name_table.specs.Kinds.{strength_of_protocol, Converts}
use Rattle.manager_rules.proofs.Found.{with_told}
use Rattle.manager_rules.proofs.breach.is_stronger.Goals as goal

pub returns-in-Some : goal.returns-in-Some
returns-in-Some c =
    let program = c.args.known.now.program.now in
    let subject = c.args.subject.now in
    let found = c.in-Some.ensures.some in
    with_told (λ other m. ¬ Converts (strength_of_protocol subject.protocol.now) (strength_of_protocol m)) program subject.file c.args.name.now c.in-Some.field-0-0 c.in-Some.manager.now _ found.0 found.1
    (Decides-not c.converts_to.result (rw (c.of_protocol-strength.ensures, c.of_protocol.ensures) at c.converts_to.ensures))
