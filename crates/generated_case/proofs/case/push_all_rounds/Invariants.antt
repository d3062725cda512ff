use Rattle.std.proofs.Common.{◌≡◌, ◌++◌, string_bytes}
use Rattle.std.specs.List.{flat_map}
use Rattle.generated_case.specs.Texts.{numbers_to, round_lines}
use Rattle.generated_case.proofs.case.push_all_rounds.Given as goal

-- the lines of the rounds so far are there
abbrev pub invariant-loop-index : goal.invariant-loop-index
invariant-loop-index l = string_bytes l.script ≡ string_bytes l.initial.script ++ flat_map (round_lines l.rounds l.actors) (numbers_to l.index)
