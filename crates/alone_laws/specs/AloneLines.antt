-- The law of one end, line by line: what it requires of a line, given the lines before it and the delivered packets.
use Rattle.std.specs.Prelude.{◌≡◌, ◌⊎◌, ℕ, IsTrue, List, Some}
use Rattle.ipdl_base.specs.declared.kinds.Reason.TheVariants as reason
use Rattle.ipdl_base.specs.declared.kinds.Side.{Side}
use Rattle.ipdl_base.specs.declared.line.Line.{Line}
use Rattle.ipdl_base.specs.declared.line.What.{What}
use Rattle.ipdl_base.specs.declared.line.What.TheVariants as what
use Rattle.ipdl_base.specs.declared.schema.Schema.{Schema}
use Rattle.nesting_core.specs.declared.frame.Answer.TheVariants as answer
use Rattle.channel_model.specs.Ends.{Packet}
use Rattle.history_reading.specs.Numbers.{has}
use Rattle.history_reading.specs.SentPacket.{Request, request_of}
use Rattle.law_statements.specs.Packets.{failed, sent}
use Rattle.law_statements.specs.Said.{said_by}
use Rattle.law_statements.specs.Settled.{IsPending}
use Rattle.alone_laws.specs.Alone.{HasReason}
use Rattle.alone_laws.specs.Received.{HasReceived}

-- what is settled is pending and was received, or has its cause; the same holds for a call that continues
abbrev pub LineIsAlone : Schema → ℕ → Side → List Packet → List Line → What → List Line → Type 0
LineIsAlone schema top end packets before (what.Resolved n values) following =
    (r : Request) × IsPending schema (said_by end before) n r × HasReceived schema top (said_by end before) packets r.seq r.number (answer.Ok values)
LineIsAlone schema top end packets before (what.Rejected n why) following = (r : Request) × IsPending schema (said_by end before) n r × HasReason schema top end before following packets r why
LineIsAlone schema top end packets before (what.ResumeOk n values) following =
    (r : Request) × (request_of (sent schema (said_by end before)) n ≡ Some r) × HasReceived schema top (said_by end before) packets n r.number (answer.Ok values)
LineIsAlone schema top end packets before (what.ResumeFault n why) following =
    ((r : Request) × (request_of (sent schema (said_by end before)) n ≡ Some r) × HasReceived schema top (said_by end before) packets n r.number (answer.Fault why))
    ⊎ ((why ≡ reason.ChannelClosed) × IsTrue (has (failed (said_by end before)) n))
LineIsAlone schema top end packets before _ following = Unit {0}
