use Rattle.std.proofs.Common.{◌≡◌, take}
use Rattle.std.specs.List.{Any}
use Rattle.sync_list.specs.Sets.{same_pair, AddsKeys}
use Rattle.sync_list.proofs.names.add_messages.Given as goal

-- the set has gained the messages of these semantics so far
abbrev pub invariant-loop-message : goal.invariant-loop-message
invariant-loop-message l = AddsKeys same_pair l.fn.names l.names (λ pair. Any (λ m. (l.protocol ≡ pair.0.now) × ((m.semantics ≡ l.semantics) × (m.name ≡ pair.1.now))) (take l.message-index l.messages))
