use Rattle.std.proofs.Common.{arith, ◌≡◌, ◌≤◌, List, length, option_map, rules}
use Rattle.name_table.specs.Candidates.{IsCandidate, AreOne, IsBuiltinOrEndpoint}
use Rattle.name_table.specs.Finds.{Finds}
use Rattle.name_table.proofs.Counting.{counted, tally_start, found_covered, found_once}
use Rattle.name_table.proofs.names.Names.with_declared.Goals as goal

pub returns-then-is_empty : goal.returns-then-is_empty
returns-then-is_empty c =
    let program = c.args.self.now in
    let argument = option_map (λ inner. inner.now) c.args.argument in
    let F = Finds program c.args.file c.args.text.now argument in
    let row = c.row-row.result.now in
    let zero : length row ≡ 0 = search (rules, c.is_empty.ensures, c.if-is_empty.true) in
    let none : length row ≤ 0 = omega (arith, zero) in
    counted F (λ d. IsBuiltinOrEndpoint d × F d) (IsCandidate program c.args.file c.args.text.now argument) (AreOne program) row _ 0 c.args.first c.row-row.ensures none
    (found_covered program c.args.file c.args.text.now argument) (found_once program c.args.file c.args.text.now argument)
    (tally_start F (λ d. IsBuiltinOrEndpoint d × F d) (IsCandidate program c.args.file c.args.text.now argument) (AreOne program) c.args.first (λ d h. h.1) c.requires)
