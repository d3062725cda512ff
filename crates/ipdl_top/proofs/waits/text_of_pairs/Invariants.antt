use Rattle.std.proofs.Common.{◌≡◌, take}
use Rattle.ipdl_top.specs.Waits.{waits_text}
use Rattle.ipdl_top.proofs.waits.text_of_pairs.Given as goal

abbrev pub invariant-loop-pair : goal.invariant-loop-pair
invariant-loop-pair l = l.out.items ≡ waits_text l.schema (take l.pair-index l.pairs)
