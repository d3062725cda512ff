use Rattle.std.proofs.Common.{◌≡◌, take}
use Rattle.name_table.specs.Finds.{FindsAsProtocol}
use Rattle.name_table.proofs.Counting.{Tally}
use Rattle.name_table.proofs.names.Names.protocols.Given as goal

abbrev pub invariant-loop-id : goal.invariant-loop-id
invariant-loop-id l = Tally (FindsAsProtocol l.self l.file l.text) (λ d. ⊥) (FindsAsProtocol l.self l.file l.text) (λ a d. a ≡ d) (take l.id-index l.id-items) l.found
