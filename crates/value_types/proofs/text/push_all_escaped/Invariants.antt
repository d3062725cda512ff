use Rattle.std.proofs.Common.{◌≡◌, ◌++◌, drop}
use Rattle.std.specs.List.{flat_map}
use Rattle.value_types.specs.ValueText.{escaped}
use Rattle.value_types.proofs.text.push_all_escaped.Given as goal

-- what is written, followed by the text of what is left, is the whole
abbrev pub invariant-loop-byte : goal.invariant-loop-byte
invariant-loop-byte l =
    l.out.items ++ flat_map escaped (drop l.byte-index l.bytes) ≡ l.fn.out.items ++ flat_map escaped l.bytes
