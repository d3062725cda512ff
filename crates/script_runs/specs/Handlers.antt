-- The handlers that run at an end: by its stack, and by the lines of its side.
use Rattle.std.specs.Prelude.{◌≡◌, Bool, true, false, List, [], take, slice_get, Some}
use Rattle.std.specs.List.{list_any}
use Rattle.std.specs.Option.{option_map_or}
use Rattle.handler_script.specs.declared.action.Action.{Action}
use Rattle.handler_script.specs.declared.script.Script.{Script}
use Rattle.handler_script.specs.ScriptOf.{blocks_for}
use Rattle.handler_script.specs.Valid.{answers_handled}
use Rattle.ipdl_base.specs.declared.kinds.Side.{Side}
use Rattle.ipdl_base.specs.declared.schema.MessageRow.{MessageRow}
use Rattle.ipdl_base.specs.declared.schema.Schema.{Schema}
use Rattle.nesting_core.specs.Frames.{head_of}
use Rattle.value_types.specs.Fits.{IsLivingId, IsMadeBy}
use Rattle.value_types.specs.HasType.{HaveTypes}
use Rattle.channel_model.specs.Answers.{handled_resolver, resolver_in}
use Rattle.channel_model.specs.Ends.{End, StackEntry}
use Rattle.channel_model.specs.Numbers.{makes_promise, request_row}
use Rattle.script_steps.specs.NextEvent.{block_for}
use Rattle.script_steps.specs.Progress.{HandledRequest}

-- a dispatch is that of a request: it has its number and its message
abbrev pub IsDispatchOf : StackEntry → HandledRequest → Type 0
IsDispatchOf entry request = ((head_of entry.frame).seq ≡ request.seq) × (entry.number ≡ request.number)

-- the actions of the block that serves a request
abbrev pub actions_for : Script → Side → HandledRequest → List Action
actions_for script side request = option_map_or (λ block. block.actions) (slice_get (blocks_for script side (Some request.number)) (block_for script side request)) []

-- whether one of the acts that a handler has done answers its request, or keeps its resolver
abbrev pub has_answered : Script → Side → HandledRequest → Bool
has_answered script side request = list_any answers_handled (take request.acts (actions_for script side request))

-- What holds of a request whose handler runs: its values have the types of its message's parameters. The actor that it made
-- is the one that its constructor built, or 0 if it is not a constructor. Its actor is not null. If its message makes a
-- promise and no act of the handler has answered, the dispatch has its resolver. A resolver in a dispatch is found by the
-- request's number.
pub record IsHandlerOf (schema : Schema) (script : Script) (side : Side) (e : End) (entry : StackEntry) (request : HandledRequest) : Type 0 where
  pub is_dispatch : IsDispatchOf entry request
  pub row : MessageRow
  pub found : request_row schema request.number ≡ Some row
  pub given : HaveTypes schema row.params request.given
  pub made : IsMadeBy row.kind request.made
  pub route : IsLivingId entry.route
  pub unused : makes_promise row ≡ true → has_answered script side request ≡ false → entry.resolves ≡ true
  pub resolver : entry.resolves ≡ true → handled_resolver e request.seq ≡ Some (resolver_in entry)
