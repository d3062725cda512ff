use Rattle.std.proofs.Common.{sym, ◌∙◌, arith}
use Rattle.tree_reader.proofs.TypeForms.{named_turns, unnamed_stops, base_stops_on, is_unique, unique_read, unique_turns, less_stops, inner_stops, greater_stops, other_stops, no_room_stops, type_read, type_turns, no_base_stops, no_suffixes_stops}
use Rattle.tree_reader.proofs.types.+type_spec.Goals as goal
use Rattle.tree_reader.proofs.types.+type_spec.Goals.{base-in_default-via-in-UniquePtr+else-room-gt0, base-in_default-via-in_default}

pub base-returns-in_err-name-in-Word-clause-stops : goal.base-returns-in_err-name-in-Word-clause-stops
base-returns-in_err-name-in-Word-clause-stops t c =
    base_stops_on c.from_residual.result _ c.args.room c.args.reader.now c.from_residual.ensures.1
    (unnamed_stops c.args.room c.args.reader.now c.in_err-name-in-Word.field-0.0 (sym c.in-Word.ensures) c.in_err-name-in-Word.ensures.stops)

pub base-returns-in_err-take-in-UniquePtr-clause-stops : goal.base-returns-in_err-take-in-UniquePtr-clause-stops
base-returns-in_err-take-in-UniquePtr-clause-stops t c =
    base_stops_on c.from_residual-in_err-take-in-UniquePtr.result _ c.args.room c.args.reader.now c.from_residual-in_err-take-in-UniquePtr.ensures.1
    (less_stops c.args.room c.pass-place.result c.args.reader.now c.pass-place.new.self c.in_err-take-in-UniquePtr.field-0.0
    (is_unique _ _ _ _ c.if-room-gt0.true c.in-UniquePtr.ensures c.pass-place.ensures)
    c.in_err-take-in-UniquePtr.ensures.stops)

pub base-returns-in_err-inner-in-UniquePtr-clause-stops : goal.base-returns-in_err-inner-in-UniquePtr-clause-stops
base-returns-in_err-inner-in-UniquePtr-clause-stops t c =
    base_stops_on c.from_residual-in_err-inner-in-UniquePtr.result _ c.args.room c.args.reader.now c.from_residual-in_err-inner-in-UniquePtr.ensures.1
    (inner_stops c.args.room c.pass-place.result c.args.reader.now c.pass-place.new.self c.take.new.self c.in_err-inner-in-UniquePtr.field-0.0
    (is_unique _ _ _ _ c.if-room-gt0.true c.in-UniquePtr.ensures c.pass-place.ensures)
    c.in_ok-take-in-UniquePtr.ensures.turns c.in_err-inner-in-UniquePtr.ensures.stops)

pub base-returns-in_err-take-in-UniquePtr-2-clause-stops : goal.base-returns-in_err-take-in-UniquePtr-2-clause-stops
base-returns-in_err-take-in-UniquePtr-2-clause-stops t c =
    base_stops_on c.from_residual-in_err-take-in-UniquePtr-2.result _ c.args.room c.args.reader.now c.from_residual-in_err-take-in-UniquePtr-2.ensures.1
    (greater_stops c.args.room c.pass-place.result c.args.reader.now c.pass-place.new.self c.take.new.self c.type_within.new.reader c.in_err-take-in-UniquePtr-2.field-0.0
    (is_unique _ _ _ _ c.if-room-gt0.true c.in-UniquePtr.ensures c.pass-place.ensures)
    c.in_ok-take-in-UniquePtr.ensures.turns c.in_ok-inner-in-UniquePtr.ensures.turns c.in_err-take-in-UniquePtr-2.ensures.stops)

pub base-returns-in_ok-name-in-Word-clause-turns : goal.base-returns-in_ok-name-in-Word-clause-turns
base-returns-in_ok-name-in-Word-clause-turns t c =
    named_turns c.args.room c.args.reader.now c.name_with_argument.new.reader (sym c.in-Word.ensures) c.in_ok-name-in-Word.ensures.turns

pub base-returns-in_ok-new-in-UniquePtr-clause-read : goal.base-returns-in_ok-new-in-UniquePtr-clause-read
base-returns-in_ok-new-in-UniquePtr-clause-read t c =
    unique_read c.args.room c.pass-place.result c.in_ok-new-in-UniquePtr.field-0.value c.in_ok-inner-in-UniquePtr.inner _ _ _ _ _
    (is_unique _ _ _ _ c.if-room-gt0.true c.in-UniquePtr.ensures c.pass-place.ensures)
    c.in_ok-new-in-UniquePtr.ensures.ok c.in_ok-take-in-UniquePtr.ensures.read c.in_ok-inner-in-UniquePtr.ensures.read c.in_ok-take-in-UniquePtr-2.ensures.read

pub base-returns-in_ok-new-in-UniquePtr-clause-turns : goal.base-returns-in_ok-new-in-UniquePtr-clause-turns
base-returns-in_ok-new-in-UniquePtr-clause-turns t c =
    unique_turns c.args.room c.pass-place.result c.args.reader.now c.pass-place.new.self c.take.new.self c.type_within.new.reader c.take-in-UniquePtr.new.self
    (is_unique _ _ _ _ c.if-room-gt0.true c.in-UniquePtr.ensures c.pass-place.ensures)
    c.in_ok-take-in-UniquePtr.ensures.turns c.in_ok-inner-in-UniquePtr.ensures.turns c.in_ok-take-in-UniquePtr-2.ensures.turns

pub base-returns-in_default-clause-stops : goal.base-returns-in_default-clause-stops
base-returns-in_default-clause-stops t c =
    elim c.in_default.branch [
      | base-in_default-via-in-UniquePtr+else-room-gt0 w ↦
          no_room_stops c.args.room c.args.reader.now c.refusal.result (omega arith) (sym w.in-UniquePtr.ensures) c.refusal.ensures
      | base-in_default-via-in_default w ↦
          other_stops c.args.room c.args.reader.now c.refusal.result (λ is. w.in_default.not-Word (c.symbol.ensures ∙ is)) (λ is. w.in_default.not-UniquePtr (c.symbol.ensures ∙ is)) c.refusal.ensures
    ]

pub type_within-returns-in_err-base-clause-stops : goal.type_within-returns-in_err-base-clause-stops
type_within-returns-in_err-base-clause-stops t c =
    no_base_stops c.from_residual.result _ c.skips-nullable.result c.args.room c.args.reader.now c.skips-nullable.new.self c.from_residual.ensures.1
    (record { passed = c.skips-nullable.ensures.yes; kept = c.skips-nullable.ensures.not })
    c.in_err-base.ensures.stops

pub type_within-returns-in_err-suffixes-clause-stops : goal.type_within-returns-in_err-suffixes-clause-stops
type_within-returns-in_err-suffixes-clause-stops t c =
    no_suffixes_stops c.from_residual-in_err-suffixes.result _ c.skips-nullable.result c.args.room c.args.reader.now c.skips-nullable.new.self c.base.new.reader c.from_residual-in_err-suffixes.ensures.1
    (record { passed = c.skips-nullable.ensures.yes; kept = c.skips-nullable.ensures.not })
    c.in_ok-base.ensures.turns c.in_err-suffixes.ensures.stops

pub type_within-returns-clause-read : goal.type_within-returns-clause-read
type_within-returns-clause-read t c =
    type_read c.skips-nullable.result _ _ _ _ _ _ _
    (record { passed = c.skips-nullable.ensures.yes; kept = c.skips-nullable.ensures.not })
    c.in_ok-base.ensures.read c.in_ok-suffixes.ensures.few c.in_ok-suffixes.ensures.read

pub type_within-returns-clause-turns : goal.type_within-returns-clause-turns
type_within-returns-clause-turns t c =
    type_turns c.skips-nullable.result c.args.room c.args.reader.now c.skips-nullable.new.self c.base.new.reader c.suffixes.new.reader
    (record { passed = c.skips-nullable.ensures.yes; kept = c.skips-nullable.ensures.not })
    c.in_ok-base.ensures.turns c.in_ok-suffixes.ensures.turns
