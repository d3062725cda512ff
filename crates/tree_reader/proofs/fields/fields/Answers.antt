use Rattle.std.proofs.Common.{[], ◌∷◌, List, length, ap, arith}
use Rattle.ipdl_base.specs.declared.token.Token.{Token}
use Rattle.tree_reader.specs.declared.symbol.Symbol.TheVariants.{Semicolon}
use Rattle.tree_reader.specs.Machine.{take, fielded}
use Rattle.tree_reader.specs.Reading.{Stops}
use Rattle.tree_reader.proofs.FieldForms.{fields_more, fields_closed, field_turned, field_stops, fields_turn}
use Rattle.tree_reader.proofs.Turns.{thrown, turns, stops_after}
use Rattle.tree_reader.proofs.fields.fields.Goals as goal

pub returns-in_err-field-clause-stops : goal.returns-in_err-field-clause-stops
returns-in_err-field-clause-stops c =
    let other = c.skips.ensures.not c.fields-test.true in
    thrown c.from_residual-in_err-field.result c.in_err-field.field-0.0 (Stops (fielded ∷ []) c.args.reader.now) c.from_residual-in_err-field.ensures.1
    (field_stops c.args.reader.now c.fields.reader c.skips.new.self c.in_err-field.field-0.0 other c.fields.invariant.turns c.in_err-field.ensures.stops)

pub fields-preserved : goal.fields-preserved
fields-preserved c =
    let other = c.skips.ensures.not c.fields-test.true in
    let same = ap (λ (x : List Token). length x) other.1 in
    record {
      read = λ more to rest. rw c.in_ok-push.ensures.items
          (fields_more c.in_ok-field.field-0 c.fields.all.items more c.args.reader.now c.fields.reader c.skips.new.self c.field.new.reader to other.1 c.in_ok-field.ensures.read rest c.fields.invariant.read);
      turns = field_turned c.args.reader.now c.fields.reader c.skips.new.self c.field.new.reader other c.fields.invariant.turns c.in_ok-field.ensures.turns;
      fewer = omega (arith, same, c.in_ok-field.ensures.less);
    }

pub returns-in_err-take-clause-stops : goal.returns-in_err-take-clause-stops
returns-in_err-take-clause-stops c =
    let brace = c.skips.ensures.yes c.fields-test.false in
    thrown c.from_residual-in_err-take.result c.in_err-take.field-0.0 (Stops (fielded ∷ []) c.args.reader.now) c.from_residual-in_err-take.ensures.1
    (stops_after (fielded ∷ []) (take Semicolon ∷ []) c.args.reader.now c.skips.new.self c.in_err-take.field-0.0 (fields_turn c.args.reader.now c.fields.reader c.skips.new.self brace c.fields.invariant.turns) c.in_err-take.ensures.stops)

pub returns-clause-read : goal.returns-clause-read
returns-clause-read c =
    rw c.from_vec.ensures
    (fields_closed c.fields.all.items c.args.reader.now c.fields.reader c.skips.new.self c.take.new.self (c.skips.ensures.yes c.fields-test.false) c.in_ok-take.ensures.read c.fields.invariant.read)

pub returns-clause-turns : goal.returns-clause-turns
returns-clause-turns c =
    let brace = c.skips.ensures.yes c.fields-test.false in
    turns (fielded ∷ []) (take Semicolon ∷ []) [] c.args.reader.now c.skips.new.self c.take.new.self (fields_turn c.args.reader.now c.fields.reader c.skips.new.self brace c.fields.invariant.turns) c.in_ok-take.ensures.turns
