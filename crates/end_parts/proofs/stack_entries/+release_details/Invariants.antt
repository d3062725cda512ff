use Rattle.std.proofs.Common.{length}
use Rattle.end_parts.proofs.stack_entries.+release_details.Given as goal

abbrev pub decreases-release_details : goal.decreases-release_details
decreases-release_details l = length l.details.now
