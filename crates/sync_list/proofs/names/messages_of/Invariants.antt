use Rattle.std.proofs.Common.{take}
use Rattle.sync_list.specs.Broken.{HasMessage}
use Rattle.sync_list.specs.Sets.{same_pair, KeysAre}
use Rattle.sync_list.proofs.names.messages_of.Given as goal

-- the set has the messages of these semantics of the protocols so far
abbrev pub invariant-loop-entry : goal.invariant-loop-entry
invariant-loop-entry l = KeysAre same_pair l.names (λ pair. HasMessage l.semantics (take l.entry-index l.program) pair.0.now pair.1.now)
