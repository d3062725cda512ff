use Rattle.std.proofs.Common.{[], ◌∷◌}
use Rattle.tree_reader.specs.declared.symbol.Symbol.TheVariants.{Semicolon}
use Rattle.tree_reader.specs.Ending as ending
use Rattle.tree_reader.specs.Machine.{take, typed}
use Rattle.tree_reader.specs.Reading.{Stops}
use Rattle.tree_reader.proofs.Turns.{thrown, stops_before}
use Rattle.tree_reader.proofs.fields.field.Goals as goal

pub returns-in_err-spec-clause-stops : goal.returns-in_err-spec-clause-stops
returns-in_err-spec-clause-stops c =
    thrown c.from_residual.result c.in_err-spec.field-0.0 (Stops (typed 4 ending.Name ∷ take Semicolon ∷ []) c.args.reader.now) c.from_residual.ensures.1
    (stops_before (typed 4 ending.Name ∷ []) (take Semicolon ∷ []) c.args.reader.now c.in_err-spec.field-0.0 (c.in_err-spec.ensures.stops ending.Name))
