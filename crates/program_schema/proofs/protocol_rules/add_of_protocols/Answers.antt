use Rattle.std.proofs.lemmas.Result.{on_ok_weaker}
use Rattle.findings.proofs.Gathers.{Gains-then}
use Rattle.manager_rules.specs.Broken as managers
use Rattle.message_rules.specs.Broken as messages
use Rattle.program_schema.proofs.protocol_rules.add_of_protocols.Goals as goal

pub returns : goal.returns
returns c =
    let program = c.args.program.now in
    on_ok_weaker c.add_of_messages.result (λ g. Gains-then (managers.BrokenAt program) (messages.BrokenAt program) _ _ _ c.in_ok-add_of_managers.ensures g) c.add_of_messages.ensures
