use Rattle.feed_runs.proofs.FeedRuns as law
use Rattle.feed_runs.proofs.laws.feeds_have_one_result.Goals as goal

pub returns : goal.returns
returns c = law.feeds_have_one_result
