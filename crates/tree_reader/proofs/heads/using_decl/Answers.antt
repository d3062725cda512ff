use Rattle.std.proofs.Common.{[], ◌∷◌}
use Rattle.tree_reader.specs.Machine.{using_named}
use Rattle.tree_reader.specs.Reading.{Stops}
use Rattle.tree_reader.proofs.HeadForms.{file_forms, using_turn, using_stops}
use Rattle.tree_reader.proofs.Turns.{thrown, turns, stops_after}
use Rattle.tree_reader.proofs.heads.using_decl.Goals as goal

pub returns-in_err-name-clause-stops : goal.returns-in_err-name-clause-stops
returns-in_err-name-clause-stops c =
    thrown c.from_residual.result c.in_err-name.field-0.0 (Stops (using_named ∷ []) c.args.reader.now) c.from_residual.ensures.1
    (using_stops c.args.reader.now c.kind_word.new.reader c.in_err-name.field-0.0 c.kind_word.ensures.turns c.in_err-name.ensures.stops)

pub returns-in_err-from_file-clause-stops : goal.returns-in_err-from_file-clause-stops
returns-in_err-from_file-clause-stops c =
    let named = using_turn c.args.reader.now c.kind_word.new.reader c.name_with_argument.new.reader c.kind_word.ensures.turns c.in_ok-name.ensures.turns in
    thrown c.from_residual-in_err-from_file.result c.in_err-from_file.field-0.0 (Stops (using_named ∷ []) c.args.reader.now) c.from_residual-in_err-from_file.ensures.1
    (stops_after (using_named ∷ []) file_forms c.args.reader.now c.name_with_argument.new.reader c.in_err-from_file.field-0.0 named c.in_err-from_file.ensures.stops)

pub returns-clause-turns : goal.returns-clause-turns
returns-clause-turns c =
    let named = using_turn c.args.reader.now c.kind_word.new.reader c.name_with_argument.new.reader c.kind_word.ensures.turns c.in_ok-name.ensures.turns in
    turns (using_named ∷ []) file_forms [] c.args.reader.now c.name_with_argument.new.reader c.from_file.new.reader named c.in_ok-from_file.ensures.turns
