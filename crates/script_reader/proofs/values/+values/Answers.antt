use Rattle.std.proofs.Common.{sym}
use Rattle.script_reader.proofs.NoValues.{no_struct, no_array, no_union, no_held, no_atom, no_listed_value, no_listed_more, no_more_comma, no_more_value, no_more_more}
use Rattle.script_reader.proofs.Refused.{refuses_on, refuses_as}
use Rattle.script_reader.proofs.values.+values.Goals as goal

pub listed-returns-in_err-first-clause-stops : goal.listed-returns-in_err-first-clause-stops
listed-returns-in_err-first-clause-stops t c =
    refuses_on _ _ _ _ c.from_residual.ensures.1
    (no_listed_value c.args.close c.closing.result c.args.reader.now c.skips.new.self c.closing.ensures (c.skips.ensures.not c.if-skips.false) (c.skips.ensures.kept c.if-skips.false))
    c.in_err-first.ensures.stops

pub listed-returns-in_err-rest-clause-stops : goal.listed-returns-in_err-rest-clause-stops
listed-returns-in_err-rest-clause-stops t c =
    refuses_on _ _ _ _ c.from_residual-in_err-rest.ensures.1
    (no_listed_more c.args.close c.closing.result c.args.reader.now c.skips.new.self c.value.new.reader c.in_ok-first.first.value c.closing.ensures (c.skips.ensures.not c.if-skips.false) (c.skips.ensures.kept c.if-skips.false) c.in_ok-first.ensures.read)
    c.in_err-rest.ensures.stops

pub more-returns-in_err-mark-clause-stops : goal.more-returns-in_err-mark-clause-stops
more-returns-in_err-mark-clause-stops t c =
    refuses_on _ _ _ _ c.from_residual.ensures.1
    (no_more_comma c.args.close c.closing.result c.args.reader.now c.skips.new.self c.closing.ensures (c.skips.ensures.not c.if-skips.false) (c.skips.ensures.kept c.if-skips.false))
    c.in_err-mark.ensures.stops

pub more-returns-in_err-first-clause-stops : goal.more-returns-in_err-first-clause-stops
more-returns-in_err-first-clause-stops t c =
    refuses_on _ _ _ _ c.from_residual-in_err-first.ensures.1
    (no_more_value c.args.close c.closing.result c.args.reader.now c.skips.new.self c.mark.new.self c.closing.ensures (c.skips.ensures.not c.if-skips.false) (c.skips.ensures.kept c.if-skips.false) c.in_ok-mark.ensures.read)
    c.in_err-first.ensures.stops

pub more-returns-in_err-rest-clause-stops : goal.more-returns-in_err-rest-clause-stops
more-returns-in_err-rest-clause-stops t c =
    refuses_on _ _ _ _ c.from_residual-in_err-rest.ensures.1
    (no_more_more c.args.close c.closing.result c.args.reader.now c.skips.new.self c.mark.new.self c.value.new.reader c.in_ok-first.first.value c.closing.ensures (c.skips.ensures.not c.if-skips.false) (c.skips.ensures.kept c.if-skips.false) c.in_ok-mark.ensures.read c.in_ok-first.ensures.read)
    c.in_err-rest.ensures.stops

pub value-returns-in_err-fields-in-Struct-clause-stops : goal.value-returns-in_err-fields-in-Struct-clause-stops
value-returns-in_err-fields-in-Struct-clause-stops t c =
    refuses_on _ _ _ _ c.from_residual.ensures.1 (no_struct c.args.reader.now c.pass.new.self (sym c.in-Struct.ensures) c.pass.ensures) c.in_err-fields-in-Struct.ensures.stops

pub value-returns-in_err-elements-in-Array-clause-stops : goal.value-returns-in_err-elements-in-Array-clause-stops
value-returns-in_err-elements-in-Array-clause-stops t c =
    refuses_on _ _ _ _ c.from_residual-in_err-elements-in-Array.ensures.1 (no_array c.args.reader.now c.pass-in-Array.new.self (sym c.in-Array.ensures) c.pass-in-Array.ensures) c.in_err-elements-in-Array.ensures.stops

pub value-returns-in_err-held-in-Union-clause-stops : goal.value-returns-in_err-held-in-Union-clause-stops
value-returns-in_err-held-in-Union-clause-stops t c =
    refuses_on _ _ _ _ c.from_residual-in_err-held-in-Union.ensures.1 (no_union c.args.reader.now c.pass-in-Union.new.self c.in-Union.index (sym c.in-Union.ensures) c.pass-in-Union.ensures) c.in_err-held-in-Union.ensures.stops

pub value-returns-in_err-held-in-Held-clause-stops : goal.value-returns-in_err-held-in-Held-clause-stops
value-returns-in_err-held-in-Held-clause-stops t c =
    refuses_on _ _ _ _ c.from_residual-in_err-held-in-Held.ensures.1 (no_held c.args.reader.now c.pass-in-Held.new.self (sym c.in-Held.ensures) c.pass-in-Held.ensures) c.in_err-held-in-Held.ensures.stops

pub value-returns-in-Atom-clause-stops : goal.value-returns-in-Atom-clause-stops
value-returns-in-Atom-clause-stops t c = refuses_as _ _ c.atom.result (no_atom c.args.reader.now (sym c.in-Atom.ensures)) c.atom.ensures.stops
