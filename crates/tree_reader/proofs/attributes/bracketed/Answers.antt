use Rattle.std.proofs.Common.{[], ◌∷◌, arith}
use Rattle.tree_reader.specs.Machine.{take, attributed, more_attributed}
use Rattle.tree_reader.specs.declared.symbol.Symbol.TheVariants.{CloseBracket}
use Rattle.tree_reader.proofs.AttributeForms.{next_goes_on, bracketed_read, next_turns, last_turns}
use Rattle.tree_reader.proofs.Turns.{fewer_of, turns, stops_after, stops_on}
use Rattle.tree_reader.proofs.attributes.bracketed.Goals as goal

pub returns-in_err-attribute-2-clause-stops : goal.returns-in_err-attribute-2-clause-stops
returns-in_err-attribute-2-clause-stops c =
    stops_on c.from_residual-in_err-attribute-2.result _ (attributed ∷ []) c.args.reader.now c.from_residual-in_err-attribute-2.ensures.1
    (stops_after (attributed ∷ []) (attributed ∷ []) c.args.reader.now c.skips.new.self c.in_err-attribute-2.field-0.0
    (next_turns c.args.reader.now c.attributes.reader c.skips.new.self c.attributes.invariant.turns (c.skips.ensures.yes c.attributes-test.true))
    c.in_err-attribute-2.ensures.stops)

pub attributes-preserved : goal.attributes-preserved
attributes-preserved c =
    let here = c.skips.ensures.yes c.attributes-test.true in
    record {
      read = next_goes_on _ _ _ _ _ _ _ c.in_ok-push-2.ensures.items here c.in_ok-attribute-2.ensures.read c.attributes.invariant.read;
      turns = turns (attributed ∷ []) (attributed ∷ []) (more_attributed ∷ []) c.args.reader.now c.skips.new.self c.attribute-in-attributes.new.reader
          (next_turns c.args.reader.now c.attributes.reader c.skips.new.self c.attributes.invariant.turns here)
          c.in_ok-attribute-2.ensures.turns;
      less = omega (arith, fewer_of _ _ _ here, c.in_ok-attribute-2.ensures.less);
    }

pub returns-in_err-take-clause-stops : goal.returns-in_err-take-clause-stops
returns-in_err-take-clause-stops c =
    let kept = c.skips.ensures.not c.attributes-test.false in
    stops_on c.from_residual-in_err-take.result _ (attributed ∷ []) c.args.reader.now c.from_residual-in_err-take.ensures.1
    (stops_after (attributed ∷ []) (take CloseBracket ∷ []) c.args.reader.now c.skips.new.self c.in_err-take.field-0.0
    (last_turns c.args.reader.now c.attributes.reader c.skips.new.self c.attributes.invariant.turns kept.0 kept.1)
    c.in_err-take.ensures.stops)

pub returns-clause-read : goal.returns-clause-read
returns-clause-read c =
    let kept = c.skips.ensures.not c.attributes-test.false in
    bracketed_read _ _ _ _ _ _ c.from_vec.ensures kept.1 c.in_ok-take.ensures.read c.attributes.invariant.read

pub returns-clause-turns : goal.returns-clause-turns
returns-clause-turns c =
    let kept = c.skips.ensures.not c.attributes-test.false in
    turns (attributed ∷ []) (take CloseBracket ∷ []) [] c.args.reader.now c.skips.new.self c.take.new.self
    (last_turns c.args.reader.now c.attributes.reader c.skips.new.self c.attributes.invariant.turns kept.0 kept.1)
    c.in_ok-take.ensures.turns
