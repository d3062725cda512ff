use Rattle.std.proofs.Common.{List, take}
use Rattle.ipdl_base.specs.declared.line.Line.{Line}
use Rattle.transcripts.specs.declared.comparison.LineMatch.TheVariants as alike
use Rattle.transcripts.specs.Compared.{HasCompared, HasPassed, IsWithin}
use Rattle.transcripts.proofs.comparison.Comparison.compare.Given as goal

-- the lines so far are alike
abbrev pub invariant-loop-line : goal.invariant-loop-line
invariant-loop-line l = record {
  within : IsWithin l.self;
  alike : (before : List Line) → HasPassed before l.initial.self → HasCompared l.schema before (take l.line-index l.lines) l.initial.self alike.All l.self;
}
