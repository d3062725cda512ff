use Rattle.std.proofs.Common.{◌≡◌, None, Some, ap, refl, sym}
use Rattle.script_steps.specs.Choices.{Setting}
use Rattle.world_core.specs.WorldView.{WorldView, opening_of}
use Rattle.explorer.proofs.Points.{at_state}
use Rattle.explorer.proofs.runner.Runner.begin.Goals as goal

pub returns-clause-runs : goal.returns-clause-runs
returns-clause-runs c =
    let setting : Setting = record { schema = c.args.schema.now; script = c.args.script.now; stop = None; limit = c.args.limit } in
    let opened : c.in_ok-world.world ≡ opening_of setting = c.in_ok-world.ensures.opened in
    record {
      is = record { given = record { sound = c.requires.sound; valid = c.requires.valid; small = c.requires.small; no_stop = refl }; about = ap (λ (w : WorldView). w.setting) opened };
      here = λ away. record { leads = sym (ap (λ (w : WorldView). Some (at_state w.state)) opened) };
    }
