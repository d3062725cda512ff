use Rattle.std.proofs.Common.{◌-◌, length, Option, refl, subst, arith}
use Rattle.ipdl_syntax.specs.declared.tree.Suffix.{Suffix}
use Rattle.tree_reader.specs.Reading.{MaySuffix}
use Rattle.tree_reader.proofs.TypeForms.{suffixes_read, ended_turns, full_turns, suffix_stops}
use Rattle.tree_reader.proofs.types.suffixes.Goals as goal

pub returns-in_err-found-clause-stops : goal.returns-in_err-found-clause-stops
returns-in_err-found-clause-stops c =
    suffix_stops c.from_residual.result _ (length c.suffixes.all.items) c.args.reader.now c.suffixes.reader c.from_residual.ensures.1 (omega arith)
    c.suffixes.invariant.turns c.in_err-found.ensures.stops

pub returns-in-None-clause-read : goal.returns-in-None-clause-read
returns-in-None-clause-read c =
    let found = subst (λ (o : Option Suffix). MaySuffix o c.suffixes.reader c.suffix.new.reader) c.in-None.is c.in_ok-found.ensures.read in
    suffixes_read _ _ _ _ _ c.from_vec.ensures found.0 c.suffixes.invariant.read

pub returns-in-None-clause-turns : goal.returns-in-None-clause-turns
returns-in-None-clause-turns c =
    let found = subst (λ (o : Option Suffix). MaySuffix o c.suffixes.reader c.suffix.new.reader) c.in-None.is c.in_ok-found.ensures.read in
    ended_turns (4 - length c.suffixes.all.items) c.args.reader.now c.suffixes.reader c.suffix.new.reader found c.suffixes.invariant.turns

pub returns-clause-read : goal.returns-clause-read
returns-clause-read c = suffixes_read _ _ _ _ _ c.from_vec-2.ensures refl c.suffixes.invariant.read

pub returns-clause-turns : goal.returns-clause-turns
returns-clause-turns c =
    full_turns (4 - length c.suffixes.all.items) c.args.reader.now c.suffixes.reader (omega arith) c.suffixes.invariant.turns
