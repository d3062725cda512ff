use Rattle.std.proofs.lemmas.Bool.Decides.{Decides-not}
use Rattle.manager_rules.specs.Broken.{HasMessage}
use Rattle.manager_rules.proofs.Found.{with_told}
use Rattle.manager_rules.proofs.breach.is_unconstructed.Goals as goal

pub returns-in-Some : goal.returns-in-Some
returns-in-Some c =
    let program = c.args.known.now.program.now in
    let subject = c.args.subject.now in
    let found = c.in-Some.ensures.some in
    with_told (λ other q. ¬ HasMessage subject.protocol.now c.args.name.now) program subject.file c.args.name.now c.in-Some.field-0.0 c.in-Some.field-0.1.now _ found.0 found.1
    (Decides-not c.has_message.result (rw c.as_slice.ensures at c.has_message.ensures))
