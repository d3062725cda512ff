use Rattle.std.proofs.Common.{rules, ◌≡◌, ◌≢◌, [], ◌∷◌}
use Rattle.tree_reader.specs.declared.symbol.Symbol.TheVariants.{Protocol, Word, Quoted}
use Rattle.tree_reader.specs.Machine.{include_named}
use Rattle.tree_reader.specs.Reading.{Stops}
use Rattle.tree_reader.specs.Symbols.{first_symbol}
use Rattle.tree_reader.proofs.Turns.{thrown}
use Rattle.tree_reader.proofs.HeadForms.{next_at, protocol_read, protocol_turn, protocol_stops, header_read, header_turn, quoted_read, quoted_turn, include_stops}
use Rattle.tree_reader.proofs.heads.included.Goals as goal

pub returns-in_err-name-in-Protocol-clause-stops : goal.returns-in_err-name-in-Protocol-clause-stops
returns-in_err-name-in-Protocol-clause-stops c =
    let is : first_symbol c.args.reader.now ≡ Protocol = search rules in
    let next = next_at (first_symbol c.args.reader.now) Protocol c.pass.result c.args.reader.now c.pass.new.self is c.pass.ensures in
    thrown c.from_residual.result c.in_err-name-in-Protocol.field-0.0 (Stops (include_named ∷ []) c.args.reader.now) c.from_residual.ensures.1
    (protocol_stops c.args.reader.now c.pass.new.self c.in_err-name-in-Protocol.field-0.0 next c.in_err-name-in-Protocol.ensures.stops)

pub returns-in_ok-name-in-Protocol-clause-read : goal.returns-in_ok-name-in-Protocol-clause-read
returns-in_ok-name-in-Protocol-clause-read c =
    let is : first_symbol c.args.reader.now ≡ Protocol = search rules in
    let next = next_at (first_symbol c.args.reader.now) Protocol c.pass.result c.args.reader.now c.pass.new.self is c.pass.ensures in
    protocol_read c.in_ok-name-in-Protocol.field-0.name c.in_ok-name-in-Protocol.field-0.place c.args.reader.now c.pass.new.self c.word.new.self next c.in_ok-name-in-Protocol.ensures.read

pub returns-in_ok-name-in-Protocol-clause-turns : goal.returns-in_ok-name-in-Protocol-clause-turns
returns-in_ok-name-in-Protocol-clause-turns c =
    let is : first_symbol c.args.reader.now ≡ Protocol = search rules in
    let next = next_at (first_symbol c.args.reader.now) Protocol c.pass.result c.args.reader.now c.pass.new.self is c.pass.ensures in
    protocol_turn c.args.reader.now c.pass.new.self c.word.new.self next c.in_ok-name-in-Protocol.ensures.turns

pub returns-in_ok-name-in-Word-clause-read : goal.returns-in_ok-name-in-Word-clause-read
returns-in_ok-name-in-Word-clause-read c =
    let is : first_symbol c.args.reader.now ≡ Word = search rules in
    header_read (first_symbol c.args.reader.now) c.in_ok-name-in-Word.field-0.name c.in_ok-name-in-Word.field-0.place c.args.reader.now c.text.new.self is c.in_ok-name-in-Word.ensures

pub returns-in_ok-name-in-Word-clause-turns : goal.returns-in_ok-name-in-Word-clause-turns
returns-in_ok-name-in-Word-clause-turns c =
    let is : first_symbol c.args.reader.now ≡ Word = search rules in
    header_turn (first_symbol c.args.reader.now) c.in_ok-name-in-Word.field-0.name c.in_ok-name-in-Word.field-0.place c.args.reader.now c.text.new.self is c.in_ok-name-in-Word.ensures

pub returns-in_ok-name-in-Quoted-clause-read : goal.returns-in_ok-name-in-Quoted-clause-read
returns-in_ok-name-in-Quoted-clause-read c =
    let is : first_symbol c.args.reader.now ≡ Quoted = search rules in
    quoted_read (first_symbol c.args.reader.now) c.in_ok-name-in-Quoted.field-0.name c.in_ok-name-in-Quoted.field-0.place c.args.reader.now c.text-in-Quoted.new.self is c.in_ok-name-in-Quoted.ensures

pub returns-in_ok-name-in-Quoted-clause-turns : goal.returns-in_ok-name-in-Quoted-clause-turns
returns-in_ok-name-in-Quoted-clause-turns c =
    let is : first_symbol c.args.reader.now ≡ Quoted = search rules in
    quoted_turn (first_symbol c.args.reader.now) c.in_ok-name-in-Quoted.field-0.name c.in_ok-name-in-Quoted.field-0.place c.args.reader.now c.text-in-Quoted.new.self is c.in_ok-name-in-Quoted.ensures

pub returns-in_default : goal.returns-in_default
returns-in_default c =
    let p : first_symbol c.args.reader.now ≢ Protocol = search rules in
    let w : first_symbol c.args.reader.now ≢ Word = search rules in
    let q : first_symbol c.args.reader.now ≢ Quoted = search rules in
    record { read = tt; turns = tt; stops = include_stops c.args.reader.now c.refusal.result p w q c.refusal.ensures; less = tt }
