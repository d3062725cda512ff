-- What is taken, by the lines of its end alone: it was delivered, and is taken for the first time.
use Rattle.std.specs.Prelude.{Bool, true}
use Rattle.ipdl_base.specs.declared.line.What.{What}
use Rattle.ipdl_base.specs.declared.line.What.TheVariants as what
use Rattle.history_reading.specs.EndReading.{EndReading}
use Rattle.history_reading.specs.Prefix.{is_there, is_reply_there}

-- a line that takes or drops a request, or takes a reply, finds it among what has arrived
abbrev pub there_line : EndReading → EndReading → What → Bool
there_line own others (what.Take n route number values) = is_there own n
there_line own others (what.Drop n route number id) = is_there own n
there_line own others (what.TakeReply n) = is_reply_there own n
there_line own others _ = true
