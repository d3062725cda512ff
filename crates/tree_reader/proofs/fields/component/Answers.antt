use Rattle.std.proofs.Common.{◌∷◌, []}
use Rattle.tree_reader.specs.Ending as ending
use Rattle.tree_reader.specs.Machine.{typed}
use Rattle.tree_reader.specs.Reading.{Stops}
use Rattle.tree_reader.proofs.Turns.{thrown}
use Rattle.tree_reader.proofs.fields.component.Goals as goal

pub returns-in_err-spec-clause-stops : goal.returns-in_err-spec-clause-stops
returns-in_err-spec-clause-stops c =
    thrown c.from_residual.result c.in_err-spec.field-0.0 (Stops (typed 4 ending.Semicolon ∷ []) c.args.reader.now) c.from_residual.ensures.1 (c.in_err-spec.ensures.stops ending.Semicolon)
