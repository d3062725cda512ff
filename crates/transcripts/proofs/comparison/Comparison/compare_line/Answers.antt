use Rattle.std.proofs.Common.{[], ◌∷◌, ◌++◌, subst, sym, ◌∙◌}
use Rattle.history.specs.Written.{HasWritten}
use Rattle.transcripts.proofs.Comparing.{compared-alike, passed-more, within-more}
use Rattle.transcripts.proofs.comparison.Comparison.compare_line.Goals as goal

pub returns-then-are_same-clause-within : goal.returns-then-are_same-clause-within
returns-then-are_same-clause-within c =
    within-more c.args.self.now c.pass.new.self c.args.line.now c.split_line.result.1.now c.requires.within c.pass.ensures.left c.pass.ensures.lines c.pass.ensures.events c.split_line.ensures.shorter

pub returns-then-are_same-clause-compared : goal.returns-then-are_same-clause-compared
returns-then-are_same-clause-compared c before passed =
    compared-alike c.args.schema.now before c.args.line.now c.args.self.now c.pass.new.self c.split_line.result.0.now c.split_line.result.1.now c.newest.result.now c.pass.ensures.left c.pass.ensures.lines
    (passed-more before c.args.line.now c.args.self.now c.pass.new.self
    (subst (HasWritten (before ++ c.args.line.now ∷ [])) (sym c.pass.ensures.writer) (c.in_ok-write.ensures.written before passed.written)) passed c.pass.ensures.lines c.pass.ensures.events
    (within-more c.args.self.now c.pass.new.self c.args.line.now c.split_line.result.1.now c.requires.within c.pass.ensures.left c.pass.ensures.lines c.pass.ensures.events c.split_line.ensures.shorter))
    c.split_line.ensures.lines (c.newest.ensures ∙ c.in_ok-write.ensures.newest before passed.written) ((c.are_same.ensures).0 c.if-are_same.true)
