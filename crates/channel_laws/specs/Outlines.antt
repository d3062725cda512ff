-- What the reading of an end's lines shows of its state, its stack and its constructors.
use Rattle.std.specs.Prelude.{◌≡◌, ℕ, ℤ, Bool, true, false, List, map, Some, None}
use Rattle.std.specs.List.{AllByRecursion}
use Rattle.ipdl_base.specs.declared.kinds.EndState.{EndState}
use Rattle.ipdl_base.specs.declared.kinds.EndState.TheVariants.{Open, Draining, Closed, Dead}
use Rattle.nesting_core.specs.declared.frame.StackFrame.{StackFrame}
use Rattle.nesting_core.specs.declared.frame.StackFrame.TheVariants.{Dispatch, Wait}
use Rattle.history_reading.specs.declared.parts.CallFrame.{CallFrame}
use Rattle.history_reading.specs.declared.parts.CallFrame.TheVariants as frame
use Rattle.history_reading.specs.EndReading.{EndReading}
use Rattle.channel_model.specs.Ends.{End, StackEntry}
use Rattle.channel_model.specs.States.{IsOrdinary}

-- whether the end of the channel was sent or received, by the state of an end; a dead end may have either
abbrev pub Ended : EndState → Bool → Type 0
Ended Open ended = ended ≡ false
Ended Draining ended = ended ≡ true
Ended Closed ended = ended ≡ true
Ended Dead ended = Unit {0}

-- whether an end has closed, by its state; a dead end may have closed or not
abbrev pub Over : EndState → Bool → Type 0
Over Open over = over ≡ false
Over Draining over = over ≡ false
Over Closed over = over ≡ true
Over Dead over = Unit {0}

-- a frame as lines show it, without the place of its line
abbrev pub shown : StackFrame → ℤ → ℕ → CallFrame
shown (Dispatch head) route number = frame.Dispatch (record { seq = head.seq; route = route; number = number })
shown (Wait head None) route number = frame.Unanswered (record { seq = head.seq; transaction = head.transaction; number = number; place = 0 })
shown (Wait head (Some answer)) route number = frame.Answered (record { seq = head.seq; transaction = head.transaction; number = number; place = 0 })

abbrev pub shown_entry : StackEntry → CallFrame
shown_entry entry = shown entry.frame entry.route entry.number

-- a frame that is read, without the place of its line
abbrev pub placeless : CallFrame → CallFrame
placeless (frame.Dispatch d) = frame.Dispatch d
placeless (frame.Unanswered c) = frame.Unanswered (record c { place = 0 })
placeless (frame.Answered c) = frame.Answered (record c { place = 0 })

-- What is read: an end's state, whether it has ended and closed, its stack, and the number of actors that it has
-- made.
pub record Outline : Type 0 where
  pub state : EndState
  pub ended : Bool
  pub over : Bool
  pub stack : List CallFrame
  pub made : ℕ

abbrev pub outline : EndReading → Outline
outline own = record { state = own.state; ended = own.ended; over = own.over; stack = map placeless own.stack; made = own.made }

-- What is read is the outline of the end; and at an open end no item that has arrived is a farewell.
pub record HasOutline (e : End) (read : Outline) : Type 0 where
  pub state : read.state ≡ e.state
  pub ended : Ended e.state read.ended
  pub over : Over e.state read.over
  pub stack : read.stack ≡ map shown_entry e.stack
  pub made : read.made ≡ e.constructors_sent
  pub ordinary : e.state ≡ Open → AllByRecursion IsOrdinary e.arrived
