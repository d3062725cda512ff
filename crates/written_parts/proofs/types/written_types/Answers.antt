use Rattle.std.proofs.Common.{ℕ}
use Rattle.std.proofs.lemmas.List.{take_all}
use Rattle.ipdl_syntax.specs.declared.program.Entry.{Entry}
use Rattle.written_parts.specs.Types.{types_of_unit}
use Rattle.written_parts.proofs.Appending.{numbered_turn}
use Rattle.written_parts.proofs.types.written_types.Goals as goal

pub loop-file-preserved : goal.loop-file-preserved
loop-file-preserved c =
    numbered_turn (λ (e : ℕ × Entry). types_of_unit e.0 e.1.unit) c.args.program.now c.loop-file.file c.index-program-file.result _ _ c.loop-file-test.true c.index-program-file.is c.loop-file.invariant c.in_ok-add_unit.ensures

pub returns : goal.returns
returns c = rw (take_all c.loop-file.file c.args.program.now c.loop-file-test.false) at c.loop-file.invariant
