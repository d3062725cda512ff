use Rattle.transcripts.proofs.FirstLines.{fed-first, unfed-first}
use Rattle.transcripts.proofs.line.first_line_len.Goals as goal

pub returns-then-before-text : goal.returns-then-before-text
returns-then-before-text c = fed-first c.args.text.now c.before_feed-before.result c.before_feed-before.ensures.len c.if-before-text.true

pub returns-else-before-text : goal.returns-else-before-text
returns-else-before-text c = unfed-first c.args.text.now c.before_feed-before.result c.requires c.before_feed-before.ensures.len c.before_feed-before.ensures.within c.if-before-text.false
