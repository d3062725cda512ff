use Rattle.std.proofs.Common.{◌≡◌, ◌++◌, drop}
use Rattle.std.specs.List.{flat_map}
use Rattle.charts.specs.Escapes.{xml_byte}
use Rattle.charts.proofs.escapes.push_shown.Given as goal

-- what is written, followed by what is left, is the whole
abbrev pub invariant-loop-byte : goal.invariant-loop-byte
invariant-loop-byte l =
    l.out.items ++ flat_map (xml_byte l.wide) (drop l.byte-index l.text) ≡ l.fn.out.items ++ flat_map (xml_byte l.wide) l.text
