use Rattle.std.proofs.Common.{◌≡◌, take}
use Rattle.std.specs.List.{Any}
use Rattle.sync_list.specs.Sets.{same_pair, KeysAre}
use Rattle.sync_list.proofs.names.listed.Given as goal

-- the set has the names of the sections so far
abbrev pub invariant-loop-section : goal.invariant-loop-section
invariant-loop-section l = KeysAre same_pair l.names (λ pair. Any (λ s. (s.protocol ≡ pair.0.now) × (s.message ≡ pair.1.now)) (take l.section-index l.list))
