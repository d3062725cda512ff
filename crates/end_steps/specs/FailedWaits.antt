-- Waits that fail, with their lines.
use Rattle.std.specs.Prelude.{◌≡◌, ℤ, ◌+◌, List, ◌++◌, filter, map, length}
use Rattle.ipdl_base.specs.declared.kinds.Side.{Side}
use Rattle.ipdl_base.specs.declared.line.What.TheVariants as what
use Rattle.nesting_core.specs.Frames.{head_of, is_unanswered}
use Rattle.channel_model.specs.Deliveries.{with_failed_wait}
use Rattle.channel_model.specs.Ends.{StackEntry}
use Rattle.channel_model.specs.Outputs.{line_at}
use Rattle.end_parts.specs.OutputView.{OutputView}
use Rattle.end_parts.specs.StackDetails.{frames_in}

-- the numbers of the waits of a stack that have no answer, innermost first
abbrev pub unanswered_in : List StackEntry → List ℤ
unanswered_in stack = map (λ frame. (head_of frame).seq) (filter is_unanswered (frames_in stack))

-- All waits without an answer fail, each with its line.
pub record HasFailed (side : Side) (stack : List StackEntry) (out : OutputView) (stack' : List StackEntry) (out' : OutputView) : Type 0 where
  pub failed : stack' ≡ map with_failed_wait stack
  pub said : out' ≡ record out { lines = out.lines ++ map (line_at side) (map what.Fails (unanswered_in stack)); line_spare = out'.line_spare }
  pub spare : out'.line_spare + length (unanswered_in stack) ≡ out.line_spare
