-- What the code asks of replies.
use Rattle.std.specs.Prelude.{Bool}
use Rattle.ipdl_base.specs.declared.schema.Schema.{Schema}
use Rattle.law_checks.specs.declared.replies.ReplyTest.{ReplyTest}
use Rattle.law_checks.specs.declared.replies.ReplyTest.TheVariants as asked
use Rattle.history_reading.specs.EndReading.{EndReading}
use Rattle.history_reading.specs.Settled.{is_rejected, is_resolved_missing, is_resolved_with}
use Rattle.history_reading.specs.SentPacket.{ReplyContent}
use Rattle.history_reading.specs.Waits.{is_fault, is_ok_missing, is_ok_with}

abbrev pub is_asked : Schema → EndReading → ReplyTest → ReplyContent → Bool
is_asked schema own (asked.Fault reason) = is_fault reason
is_asked schema own asked.Rejected = is_rejected
is_asked schema own (asked.OkWith types values) = is_ok_with schema own types.now values.now
is_asked schema own (asked.OkMissing types) = is_ok_missing schema own types.now
is_asked schema own (asked.ResolvedWith types values) = is_resolved_with schema own types.now values.now
is_asked schema own (asked.ResolvedMissing types) = is_resolved_missing schema own types.now
