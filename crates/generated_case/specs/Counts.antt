-- How the lines of a history are counted.
use Rattle.std.specs.Prelude.{ℕ, ◌+◌, ◌<◌, ◌&&◌, not, Bool, true, false, if◌then◌else◌, List}
use Rattle.std.specs.List.{count_by}
use Rattle.ipdl_base.specs.Lines.{is_effect, same_side}
use Rattle.ipdl_base.specs.declared.kinds.Side.{Side}
use Rattle.ipdl_base.specs.declared.kinds.Side.TheVariants as side
use Rattle.ipdl_base.specs.declared.line.Line.{Line}
use Rattle.ipdl_base.specs.declared.line.What.{What}
use Rattle.ipdl_base.specs.declared.line.What.TheVariants as what
use Rattle.generated_case.specs.declared.counts.Counts.{Counts}

-- whether a line is an event of a side
abbrev pub is_step_of : Side → Line → Bool
is_step_of side line = same_side line.side side && not (is_effect line.what)

-- whether a line takes a request, drops one, replaces one, settles a promise, builds an actor, or destroys one
abbrev pub is_taken : What → Bool
is_taken (what.Take n route message values) = true
is_taken _ = false

abbrev pub is_dropped : What → Bool
is_dropped (what.Drop n route message id) = true
is_dropped _ = false

abbrev pub is_replaced : What → Bool
is_replaced (what.Replaced n) = true
is_replaced _ = false

abbrev pub is_settled : What → Bool
is_settled (what.Resolved n values) = true
is_settled (what.Rejected n reason) = true
is_settled _ = false

abbrev pub is_built : What → Bool
is_built (what.Built id protocol) = true
is_built _ = false

abbrev pub is_fallen : What → Bool
is_fallen (what.Fall id destroy) = true
is_fallen _ = false

-- how many lines are of each kind
abbrev pub counts_of : List Line → Counts
counts_of lines = record {
  parent_steps = count_by (is_step_of side.Parent) lines;
  child_steps = count_by (is_step_of side.Child) lines;
  taken = count_by (λ line. is_taken line.what) lines;
  dropped = count_by (λ line. is_dropped line.what) lines;
  replaced = count_by (λ line. is_replaced line.what) lines;
  settled = count_by (λ line. is_settled line.what) lines;
  built = count_by (λ line. is_built line.what) lines;
  fallen = count_by (λ line. is_fallen line.what) lines;
}

-- 1 if the test holds, and 0 if not
abbrev pub one_if : Bool → ℕ
one_if holds = if holds then 1 else 0

-- the counts with one more line
abbrev pub counts_with : Counts → Line → Counts
counts_with counts line = record {
  parent_steps = counts.parent_steps + one_if (is_step_of side.Parent line);
  child_steps = counts.child_steps + one_if (is_step_of side.Child line);
  taken = counts.taken + one_if (is_taken line.what);
  dropped = counts.dropped + one_if (is_dropped line.what);
  replaced = counts.replaced + one_if (is_replaced line.what);
  settled = counts.settled + one_if (is_settled line.what);
  built = counts.built + one_if (is_built line.what);
  fallen = counts.fallen + one_if (is_fallen line.what);
}

-- each count is below this number
pub record AreBelow (bound : ℕ) (counts : Counts) : Type 0 where
  pub parent_steps : counts.parent_steps < bound
  pub child_steps : counts.child_steps < bound
  pub taken : counts.taken < bound
  pub dropped : counts.dropped < bound
  pub replaced : counts.replaced < bound
  pub settled : counts.settled < bound
  pub built : counts.built < bound
  pub fallen : counts.fallen < bound
