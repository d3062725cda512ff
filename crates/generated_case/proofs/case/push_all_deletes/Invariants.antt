use Rattle.std.proofs.Common.{◌≡◌, ◌++◌, string_bytes}
use Rattle.std.specs.List.{flat_map}
use Rattle.generated_case.specs.Texts.{delete_line, numbers_to}
use Rattle.generated_case.proofs.case.push_all_deletes.Given as goal

-- the lines of the actors so far are there
abbrev pub invariant-loop-index : goal.invariant-loop-index
invariant-loop-index l = string_bytes l.script ≡ string_bytes l.initial.script ++ flat_map delete_line (numbers_to l.index)
