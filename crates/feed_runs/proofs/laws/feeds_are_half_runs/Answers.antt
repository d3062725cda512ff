use Rattle.feed_runs.proofs.FeedRuns as law
use Rattle.feed_runs.proofs.laws.feeds_are_half_runs.Goals as goal

pub returns : goal.returns
returns c = law.feeds_are_half_runs
