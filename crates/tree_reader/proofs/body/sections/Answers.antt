use Rattle.std.proofs.Common.{rules, ◌≡◌, Some, None, [], ◌∷◌}
use Rattle.tree_reader.specs.declared.symbol.Symbol.TheVariants.{Colon}
use Rattle.tree_reader.specs.Symbols.{first_symbol}
use Rattle.tree_reader.specs.Machine.{Form, take, messaged}
use Rattle.tree_reader.specs.Reading.{Stops, IsSectioned, direction_of}
use Rattle.tree_reader.proofs.Turns.{thrown, stops_after, stops_before}
use Rattle.tree_reader.proofs.BodyTurns.{section_word, section_colon, more_sections, all_sections, sections_close}
use Rattle.tree_reader.proofs.body.sections.Goals as goal

pub returns-in_err-take-clause-stops : goal.returns-in_err-take-clause-stops
returns-in_err-take-clause-stops c =
    let is : direction_of (first_symbol c.sections.reader) ≡ Some c.in-Some.direction = search rules in
    thrown c.from_residual.result c.in_err-take.field-0.0 (λ e. (f : Form) → IsSectioned f c.args.reader.now → Stops (f ∷ []) c.args.reader.now e) c.from_residual.ensures.1
    (λ f may. stops_after (f ∷ []) (take Colon ∷ messaged c.in-Some.direction ∷ []) c.args.reader.now c.pass.new.self c.in_err-take.field-0.0
    (section_word c.in-Some.direction c.pass.result f c.args.reader.now c.sections.reader c.pass.new.self is (c.sections.invariant.goes f may) c.pass.ensures)
    (stops_before (take Colon ∷ []) (messaged c.in-Some.direction ∷ []) c.pass.new.self c.in_err-take.field-0.0 c.in_err-take.ensures.stops))

pub sections-preserved : goal.sections-preserved
sections-preserved c =
    let is : direction_of (first_symbol c.sections.reader) ≡ Some c.in-Some.direction = search rules in
    more_sections c.in-Some.direction c.pass.result c.sections.all.items c.section_messages.new.all.items c.args.reader.now c.sections.reader c.pass.new.self c.take.new.self c.section_messages.new.reader
    is c.sections.invariant c.pass.ensures c.in_ok-take.ensures.read c.in_ok-take.ensures.turns c.in_ok-section_messages.ensures.read c.in_ok-section_messages.ensures.ending c.in_ok-section_messages.ensures.turns c.in_ok-take.ensures.less c.in_ok-section_messages.ensures.fewer

pub returns-in_err-section_messages-clause-stops :
    goal.returns-in_err-section_messages-clause-stops
returns-in_err-section_messages-clause-stops c =
    let is : direction_of (first_symbol c.sections.reader) ≡ Some c.in-Some.direction = search rules in
    thrown c.from_residual-in_err-section_messages.result c.in_err-section_messages.field-0.0 (λ e. (f : Form) → IsSectioned f c.args.reader.now → Stops (f ∷ []) c.args.reader.now e) c.from_residual-in_err-section_messages.ensures.1
    (λ f may. stops_after (f ∷ []) (messaged c.in-Some.direction ∷ []) c.args.reader.now c.take.new.self c.in_err-section_messages.field-0.0
    (section_colon c.in-Some.direction c.pass.result f c.args.reader.now c.sections.reader c.pass.new.self c.take.new.self is (c.sections.invariant.goes f may) c.pass.ensures c.in_ok-take.ensures.turns)
    c.in_err-section_messages.ensures.stops)

pub returns-clause-read : goal.returns-clause-read
returns-clause-read c = all_sections c.sections.all.items c.args.reader.now c.sections.reader c.sections.invariant.read

pub returns-clause-turns : goal.returns-clause-turns
returns-clause-turns c =
    let is : direction_of (first_symbol c.sections.reader) ≡ None = search rules in
    λ f may. sections_close f c.args.reader.now c.sections.reader (c.sections.invariant.goes f may) is
