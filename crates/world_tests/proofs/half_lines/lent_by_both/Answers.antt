use Rattle.relay_runs.specs.RelaySteps.{opening_relay}
use Rattle.world_tests.proofs.half_lines.lent_by_both.Goals as goal

pub take_turns-ended-requires : goal.take_turns-ended-requires
take_turns-ended-requires c =
    let begun = c.into_halves-parent in
    let setting = c.in_ok-world.world.setting in
    record { setting = setting; state = opening_relay setting; apart = record { goes = begun.ensures.parent; faces = begun.ensures.child } }
