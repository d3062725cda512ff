use Rattle.std.proofs.Common.{[], ◌∷◌, List, length, ap, arith}
use Rattle.ipdl_base.specs.declared.token.Token.{Token}
use Rattle.tree_reader.specs.declared.symbol.Symbol.TheVariants.{Semicolon}
use Rattle.tree_reader.specs.Ending as ending
use Rattle.tree_reader.specs.Machine.{Form, take, typed, componented}
use Rattle.tree_reader.specs.Reading.{Stops}
use Rattle.tree_reader.proofs.FieldForms.{components_more, components_closed, component_turned, component_stops, components_turn, more_is_some}
use Rattle.tree_reader.proofs.Turns.{thrown, turns, stops_after}
use Rattle.tree_reader.proofs.fields.components.Goals as goal

-- what is read after the `{` of a union
abbrev all_forms : List Form
all_forms = typed 4 ending.Semicolon ∷ componented ∷ []

pub returns-in_err-component-2-clause-stops : goal.returns-in_err-component-2-clause-stops
returns-in_err-component-2-clause-stops c =
    let other = c.skips.ensures.not c.components-test.true in
    thrown c.from_residual-in_err-component-2.result c.in_err-component-2.field-0.0 (Stops all_forms c.args.reader.now) c.from_residual-in_err-component-2.ensures.1
    (component_stops all_forms c.args.reader.now c.components.reader c.skips.new.self c.in_err-component-2.field-0.0 other c.components.invariant.turns c.in_err-component-2.ensures.stops)

pub components-preserved : goal.components-preserved
components-preserved c =
    let other = c.skips.ensures.not c.components-test.true in
    let same = ap (λ (x : List Token). length x) other.1 in
    record {
      read = λ more to rest. rw c.in_ok-push-2.ensures.items
          (components_more c.in_ok-component-2.field-0 c.components.all.items more c.args.reader.now c.components.reader c.skips.new.self c.component-in-components.new.reader to other.1 c.in_ok-component-2.ensures.read rest c.components.invariant.read);
      some = rw c.in_ok-push-2.ensures.items (more_is_some c.components.all.items c.in_ok-component-2.field-0);
      turns = component_turned all_forms c.args.reader.now c.components.reader c.skips.new.self c.component-in-components.new.reader other c.components.invariant.turns c.in_ok-component-2.ensures.turns;
      less = omega (arith, same, c.in_ok-component-2.ensures.less);
    }

pub returns-in_err-take-clause-stops : goal.returns-in_err-take-clause-stops
returns-in_err-take-clause-stops c =
    let brace = c.skips.ensures.yes c.components-test.false in
    thrown c.from_residual-in_err-take.result c.in_err-take.field-0.0 (Stops all_forms c.args.reader.now) c.from_residual-in_err-take.ensures.1
    (stops_after all_forms (take Semicolon ∷ []) c.args.reader.now c.skips.new.self c.in_err-take.field-0.0 (components_turn all_forms c.args.reader.now c.components.reader c.skips.new.self brace c.components.invariant.turns)
    c.in_err-take.ensures.stops)

pub returns-clause-read : goal.returns-clause-read
returns-clause-read c =
    rw c.from_vec.ensures
    (components_closed c.components.all.items c.args.reader.now c.components.reader c.skips.new.self c.take.new.self (c.skips.ensures.yes c.components-test.false) c.in_ok-take.ensures.read c.components.invariant.read)

pub returns-clause-turns : goal.returns-clause-turns
returns-clause-turns c =
    let brace = c.skips.ensures.yes c.components-test.false in
    turns all_forms (take Semicolon ∷ []) [] c.args.reader.now c.skips.new.self c.take.new.self (components_turn all_forms c.args.reader.now c.components.reader c.skips.new.self brace c.components.invariant.turns) c.in_ok-take.ensures.turns
