use Rattle.std.proofs.Common.{length}
use Rattle.end_parts.proofs.stack_entries.+keep_copy.Given as goal

abbrev pub decreases-keep_copy : goal.decreases-keep_copy
decreases-keep_copy l = length l.details.now
