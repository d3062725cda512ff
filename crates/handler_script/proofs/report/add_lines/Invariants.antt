use Rattle.std.proofs.Common.{take}
use Rattle.findings.specs.Gains.{Gains, AtSome}
use Rattle.handler_script.specs.Blocks.{statements}
use Rattle.handler_script.specs.Broken.{IsBrokenAt}
use Rattle.handler_script.specs.Knowing.{Knows}
use Rattle.handler_script.proofs.report.add_lines.Given as goal

-- what is known after the lines so far, and what they broke is found
abbrev pub invariant-loop-i : goal.invariant-loop-i
invariant-loop-i l = record {
  knows : Knows l.schema (statements (take l.i l.readings)) l.reached;
  gains : Gains (λ f. AtSome (IsBrokenAt l.schema l.readings f) (take l.i l.readings)) l.fn.found.items l.found.items;
}
