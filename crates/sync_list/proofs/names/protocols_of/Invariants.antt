use Rattle.std.proofs.Common.{◌≡◌, take}
use Rattle.std.specs.Prelude.{IsSomeAnd}
use Rattle.std.specs.List.{Any}
use Rattle.ipdl_base.specs.Words.{short_name}
use Rattle.sync_list.specs.Sets.{same_name, KeysAre}
use Rattle.sync_list.proofs.names.protocols_of.Given as goal

-- the set has the protocols so far
abbrev pub invariant-loop-entry : goal.invariant-loop-entry
invariant-loop-entry l = KeysAre same_name l.names (λ name. Any (λ e. IsSomeAnd e.unit.protocol (λ p. short_name p.full ≡ name.now)) (take l.entry-index l.program))
