use Rattle.std.proofs.Common.{take}
use Rattle.wait_report.specs.Least.{IsMessageOf, MessagesLook}
use Rattle.wait_report.proofs.rounds.look_at_protocols.Given as goal

-- the messages of the protocols so far were looked at
abbrev pub invariant-loop-protocol : goal.invariant-loop-protocol
invariant-loop-protocol l = MessagesLook l.schema l.types (λ seen. IsMessageOf (take l.protocol-index l.protocols) seen) l.fn.built.items l.built.items l.changed
