use Rattle.std.proofs.Common.{take, option_map}
use Rattle.name_table.specs.Candidates.{IsCandidate, AreOne, IsBuiltinOrEndpoint}
use Rattle.name_table.specs.Finds.{Finds}
use Rattle.name_table.proofs.Counting.{Tally}
use Rattle.name_table.proofs.names.Names.with_row.Given as goal

abbrev pub invariant-loop-id : goal.invariant-loop-id
invariant-loop-id l =
    Tally (Finds l.self l.file l.text (option_map (λ inner. inner.now) l.argument)) (λ d. IsBuiltinOrEndpoint d × Finds l.self l.file l.text (option_map (λ inner. inner.now) l.argument) d)
    (IsCandidate l.self l.file l.text (option_map (λ inner. inner.now) l.argument)) (AreOne l.self) (take l.id-index l.row) l.found
