-- How many lines an end owes: those that its closing, its death and its waits will print, whatever memory there is.
use Rattle.std.specs.Prelude.{ℕ, ◌+◌, List, [], ◌∷◌, length, Some, None}
use Rattle.ipdl_base.specs.declared.kinds.EndState.{EndState}
use Rattle.ipdl_base.specs.declared.kinds.EndState.TheVariants.{Open, Draining, Closed, Dead}
use Rattle.nesting_core.specs.declared.frame.StackFrame.{StackFrame}
use Rattle.nesting_core.specs.declared.frame.StackFrame.TheVariants.{Dispatch, Wait}
use Rattle.channel_model.specs.Ends.{End, StackEntry}
use Rattle.end_parts.specs.PromiseRequests.{pending_in}

-- the lines of its own: that of its closing, and that of its death
abbrev pub own_lines : EndState → ℕ
own_lines Open = 2
own_lines Draining = 1
own_lines Closed = 1
own_lines Dead = 0

-- a wait fails and its call resumes, or the call only resumes
abbrev pub wait_lines : StackFrame → ℕ
wait_lines (Dispatch head) = 0
wait_lines (Wait head None) = 2
wait_lines (Wait head (Some a)) = 1

-- the lines of the waits of a stack
abbrev pub waits_in : List StackEntry → ℕ
waits_in [] = 0
waits_in (entry ∷ entries) = wait_lines entry.frame + waits_in entries

-- besides those, a line for each actor that falls and each promise that is rejected, and one for the outbox that is
-- flushed, for which a line for each request in it is more than enough
unfoldable pub room : End → ℕ
room e = own_lines e.state + (length e.actors + pending_in e.promises) + (waits_in e.stack + length e.outbox)
