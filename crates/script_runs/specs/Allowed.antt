-- Whether an event may be tried at an end: what makes it possible there, case by case.
use Rattle.std.specs.Prelude.{◌≡◌, true, Some}
use Rattle.ipdl_base.specs.declared.schema.MessageRow.{MessageRow}
use Rattle.ipdl_base.specs.declared.schema.Schema.{Schema}
use Rattle.pending_queue.specs.declared.item.Item.{Item}
use Rattle.channel_model.specs.Acts.{may_die}
use Rattle.channel_model.specs.Answers.{answered_row, may_answer, may_keep}
use Rattle.channel_model.specs.Ends.{End, StackEntry}
use Rattle.channel_model.specs.Events.{Event}
use Rattle.channel_model.specs.Events as event
use Rattle.channel_model.specs.Numbers.{request_row}
use Rattle.channel_model.specs.Outputs.{is_open}
use Rattle.channel_model.specs.Returns.{AnsweredWait, dispatch_on_top, may_return, answered_wait_on_top, may_flush}
use Rattle.channel_model.specs.Sends.{may_act, may_send}
use Rattle.channel_model.specs.Takes.{taken_next}

-- An event may be tried at an end. (For a delivery, this only means that the end is open.)
abbrev pub IsAllowed : Schema → End → Event → Type 0
IsAllowed schema e (event.send route number vs name) = (row : MessageRow) × (request_row schema number ≡ Some row) × (may_send schema e row vs name ≡ true)
IsAllowed schema e (event.answer by vs) = (row : MessageRow) × (answered_row schema e by ≡ Some row) × (may_answer schema e row vs ≡ true)
IsAllowed schema e (event.keep seq name) = may_keep e seq ≡ true
IsAllowed schema e (event.name name id) = may_act e ≡ true
IsAllowed schema e event.close = may_act e ≡ true
IsAllowed schema e event.die = may_die e ≡ true
IsAllowed schema e event.deliver = is_open e.state ≡ true
IsAllowed schema e event.take = (item : Item) × (taken_next e ≡ Some item)
IsAllowed schema e (event.return vs) = (entry : StackEntry) × (row : MessageRow) × (dispatch_on_top e.stack ≡ Some entry) × (request_row schema entry.number ≡ Some row) × (may_return schema row vs ≡ true)
IsAllowed schema e event.resume = (wait : AnsweredWait) × (row : MessageRow) × (answered_wait_on_top e.stack ≡ Some wait) × (request_row schema wait.number ≡ Some row)
IsAllowed schema e event.flush = may_flush e ≡ true
