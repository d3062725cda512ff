use Rattle.std.proofs.Common.{take}
use Rattle.std.specs.List.{Contains}
use Rattle.wait_report.specs.Least.{MessagesLook}
use Rattle.wait_report.proofs.rounds.look_at_messages.Given as goal

-- the messages so far were looked at
abbrev pub invariant-loop-row : goal.invariant-loop-row
invariant-loop-row l = MessagesLook l.schema l.types (λ seen. Contains (take l.row-index l.rows) seen) l.fn.built.items l.built.items l.changed
