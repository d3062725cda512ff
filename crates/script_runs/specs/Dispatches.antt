-- The dispatches of an end, and those that it has after a step.
use Rattle.std.specs.Prelude.{List, [], filter, drop, Option, Some, None, option_and_then}
use Rattle.std.specs.List.{cons_option}
use Rattle.std.specs.Option.{option_map_or}
use Rattle.ipdl_base.specs.declared.message.Body.{Body}
use Rattle.ipdl_base.specs.declared.message.Body.TheVariants.{Request}
use Rattle.ipdl_base.specs.declared.message.Message.{Message}
use Rattle.ipdl_base.specs.declared.schema.MessageRow.{MessageRow}
use Rattle.ipdl_base.specs.declared.schema.Schema.{Schema}
use Rattle.ipdl_base.specs.declared.value.Values.{Values}
use Rattle.ipdl_base.specs.Sound.{message_of}
use Rattle.nesting_core.specs.Frames.{is_dispatch}
use Rattle.pending_queue.specs.declared.item.Item.{Item}
use Rattle.pending_queue.specs.declared.item.Item.TheVariants as item
use Rattle.channel_model.specs.Answers.{released, answered_row, answer_refusal}
use Rattle.channel_model.specs.Ends.{End, StackEntry}
use Rattle.channel_model.specs.Events.{Event, handled}
use Rattle.channel_model.specs.Events as event
use Rattle.channel_model.specs.Takes.{taken_next, dropped_for, dispatch_of}

-- the dispatches of a stack, the innermost first
abbrev pub dispatches : List StackEntry → List StackEntry
dispatches stack = filter (λ entry. is_dispatch entry.frame) stack

-- the dispatch of a request that is taken, if it is not dropped
abbrev pub request_dispatch : Schema → End → Message → Values → MessageRow → Option StackEntry
request_dispatch schema e m vs row = option_map_or (λ id. None) (dropped_for schema e row m vs) (Some (dispatch_of row m))

abbrev pub body_dispatch : Schema → End → Message → Body → Option StackEntry
body_dispatch schema e m (Request vs) = option_and_then (request_dispatch schema e m vs) (message_of schema m.number)
body_dispatch schema e m _ = None

abbrev pub item_dispatch : Schema → End → Item → Option StackEntry
item_dispatch schema e (item.Message m sync level) = body_dispatch schema e m m.body
item_dispatch schema e item.Broken = None

-- the dispatches after an event: a take may add one, a return removes one, a death removes all, and a resolver that is used
-- or kept is gone
abbrev pub dispatches_after : Schema → End → Event → List StackEntry
dispatches_after schema e (event.answer (handled seq) vs) =
    option_map_or (λ cause. dispatches e.stack) (option_and_then (λ row. answer_refusal schema e row (handled seq) vs) (answered_row schema e (handled seq))) (released seq (dispatches e.stack))
dispatches_after schema e (event.keep seq name) = released seq (dispatches e.stack)
dispatches_after schema e event.die = []
dispatches_after schema e event.take = cons_option (option_and_then (item_dispatch schema e) (taken_next e)) (dispatches e.stack)
dispatches_after schema e (event.return vs) = drop 1 (dispatches e.stack)
dispatches_after schema e _ = dispatches e.stack
