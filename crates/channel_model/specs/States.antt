-- What the state of an end requires of all else that it keeps.
use Rattle.std.specs.Prelude.{◌≡◌, Bool, true, false, List, [], ◌∷◌, ◌++◌}
use Rattle.std.specs.List.{AllByRecursion}
use Rattle.ipdl_base.specs.declared.message.Body.{Body}
use Rattle.ipdl_base.specs.declared.message.Body.TheVariants.{Request, Reply, Fault, Goodbye}
use Rattle.nesting_core.specs.declared.frame.StackFrame.{StackFrame}
use Rattle.nesting_core.specs.Frames.{is_unanswered}
use Rattle.pending_queue.specs.declared.item.Item.{Item}
use Rattle.pending_queue.specs.declared.item.Item.TheVariants as item
use Rattle.promise_table.specs.Promises.{is_pending}
use Rattle.ipdl_base.specs.declared.kinds.EndState.{EndState}
use Rattle.ipdl_base.specs.declared.kinds.EndState.TheVariants.{Open, Draining, Closed, Dead}
use Rattle.channel_model.specs.Ends.{End, PromiseEntry}
use Rattle.channel_model.specs.Outputs.{is_open, is_closed, is_dead_end}
use Rattle.channel_model.specs.Sends.{frames_of}

abbrev pub is_goodbye : Body → Bool
is_goodbye (Request vs) = false
is_goodbye (Reply vs) = false
is_goodbye (Fault reason) = false
is_goodbye Goodbye = true

-- whether an item is the last that the other end sends: a goodbye, or the mark of its death
abbrev pub is_farewell : Item → Bool
is_farewell (item.Message m sync level) = is_goodbye m.body
is_farewell item.Broken = true

abbrev pub IsOrdinary : Item → Type 0
IsOrdinary item = is_farewell item ≡ false

-- What may have arrived at an end of a state. At an open end nothing is a farewell, at a draining end only the last
-- item is one, and at an end that is closed or dead nothing is left.
abbrev pub HasArrived : EndState → List Item → Type 0
HasArrived Open items = AllByRecursion IsOrdinary items
HasArrived Draining items = (front : List Item) × ((last : Item) × ((items ≡ front ++ last ∷ []) × (AllByRecursion IsOrdinary front × (is_farewell last ≡ true))))
HasArrived Closed items = items ≡ []
HasArrived Dead items = items ≡ []

-- a frame is not an unanswered wait
abbrev pub IsAnswered : StackFrame → Type 0
IsAnswered frame = is_unanswered frame ≡ false

abbrev pub IsSettled : PromiseEntry → Type 0
IsSettled entry = is_pending entry.promise ≡ false

-- An end that is not open has an empty outbox and no unanswered wait. At a closed end no actor lives, and each
-- promise is settled. A dead end has no frame.
pub record IsInState (e : End) : Type 0 where
  pub arrived : HasArrived e.state e.arrived
  pub outbox : is_open e.state ≡ false → e.outbox ≡ []
  pub waits : is_open e.state ≡ false → AllByRecursion IsAnswered (frames_of e)
  pub nobody : is_closed e.state ≡ true → e.actors ≡ []
  pub settled : is_closed e.state ≡ true → AllByRecursion IsSettled e.promises
  pub stack : is_dead_end e.state ≡ true → e.stack ≡ []
