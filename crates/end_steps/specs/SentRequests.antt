-- What a request leaves at its sender.
use Rattle.std.specs.Prelude.{if◌then◌else◌, List, [], ◌∷◌, ◌++◌}
use Rattle.ipdl_base.specs.declared.message.Body.{Body}
use Rattle.ipdl_base.specs.declared.message.Body.TheVariants.{Request, Reply, Fault, Goodbye}
use Rattle.ipdl_base.specs.declared.message.Message.{Message}
use Rattle.ipdl_base.specs.declared.schema.MessageRow.{MessageRow}
use Rattle.ipdl_base.specs.declared.value.Values.{Values}
use Rattle.ipdl_base.specs.declared.value.Values.TheVariants.{Nothing}
use Rattle.promise_table.specs.Promises as promises
use Rattle.channel_model.specs.Ends.{StackEntry, PromiseEntry}
use Rattle.channel_model.specs.Numbers.{is_sync_row, makes_promise}
use Rattle.channel_model.specs.Sends.{wait_for}

-- the values that a request carries; none of any other message
abbrev pub values_carried : Body → Values
values_carried (Request vs) = vs
values_carried (Reply vs) = Nothing
values_carried (Fault reason) = Nothing
values_carried Goodbye = Nothing

-- the stack after a request: a sync one leaves its wait
abbrev pub stack_after : MessageRow → Message → List StackEntry → List StackEntry
stack_after row m stack = if is_sync_row row then wait_for row m ∷ stack else stack

-- the promises after a request: an async one with returns leaves its promise
abbrev pub promises_after : MessageRow → Message → List PromiseEntry → List PromiseEntry
promises_after row m entries = if makes_promise row then entries ++ record { promise = promises.made m.seq m.route; number = m.number } ∷ [] else entries
