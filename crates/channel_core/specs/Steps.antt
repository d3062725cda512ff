-- The step that a call makes, and when a call may be made.
use Rattle.std.specs.Prelude.{◌≡◌, ℕ, true, List, [], Option, Some}
use Rattle.std.specs.List.{AllByRecursion}
use Rattle.ipdl_base.specs.declared.schema.MessageRow.{MessageRow}
use Rattle.ipdl_base.specs.declared.value.Values.{Values}
use Rattle.channel_model.specs.Answers.{answered_row, may_answer}
use Rattle.channel_model.specs.Ends.{StackEntry}
use Rattle.channel_model.specs.Ends as model
use Rattle.channel_model.specs.Events.{Event, Answering}
use Rattle.channel_model.specs.Numbers.{request_row}
use Rattle.channel_model.specs.Outputs.{Output}
use Rattle.channel_model.specs.Returns.{dispatch_on_top, may_return}
use Rattle.channel_model.specs.Sends.{may_send}
use Rattle.channel_model.specs.Steps.{step}
use Rattle.channel_core.specs.EndView.{EndView, IsFramed, following}

-- An end is that after the step of an event, where the link toward it carries these packets; and each packet that the
-- step puts onto the other link has a frame.
pub record IsStepBy (before : EndView) (link : List model.Packet) (event : Event) (after : EndView) : Type 0 where
  pub output : Output
  pub is_step : step before.schema before.end link event ≡ Some output
  pub is_after : after ≡ following before output
  pub framed : AllByRecursion (IsFramed before.schema) output.packets

-- the same of an event that takes nothing from the link
abbrev pub IsStep : EndView → Event → EndView → Type 0
IsStep before event after = IsStepBy before [] event after

-- A request of the message of a number may be sent, with these values and, for a constructor, a name.
pub record MaySend (seen : EndView) (number : ℕ) (vs : Values) (name : Option (List ℕ)) : Type 0 where
  pub row : MessageRow
  pub found : request_row seen.schema number ≡ Some row
  pub may : may_send seen.schema seen.end row vs name ≡ true

-- A request may be answered by these values, or by none.
pub record MayAnswer (seen : EndView) (by : Answering) (vs : Option Values) : Type 0 where
  pub row : MessageRow
  pub found : answered_row seen.schema seen.end by ≡ Some row
  pub may : may_answer seen.schema seen.end row vs ≡ true

-- The handler on top may return these values, or none.
pub record MayReturn (seen : EndView) (vs : Option Values) : Type 0 where
  pub entry : StackEntry
  pub on_top : dispatch_on_top seen.end.stack ≡ Some entry
  pub row : MessageRow
  pub found : request_row seen.schema entry.number ≡ Some row
  pub may : may_return seen.schema row vs ≡ true
