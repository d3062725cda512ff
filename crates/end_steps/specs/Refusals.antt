-- Why an end does not send a request or an answer, by what decides it.
use Rattle.std.specs.Prelude.{ℕ, ℤ, pos, Bool, not, if◌then◌else◌, is_some, List, Option, Some, None}
use Rattle.actor_tree.specs.declared.actor.Actor.{Actor}
use Rattle.ipdl_base.specs.declared.kinds.SendRefusal.{SendRefusal}
use Rattle.ipdl_base.specs.declared.kinds.SendRefusal.TheVariants as refusal
use Rattle.ipdl_base.specs.declared.message.Body.{Body}
use Rattle.ipdl_base.specs.declared.message.Body.TheVariants.{Request, Reply, Fault, Goodbye}
use Rattle.ipdl_base.specs.declared.message.Message.{Message}
use Rattle.ipdl_base.specs.declared.schema.MessageRow.{MessageRow}
use Rattle.ipdl_base.specs.declared.schema.Schema.{Schema}
use Rattle.ipdl_base.specs.declared.value.Values.{Values}
use Rattle.ipdl_base.specs.Signatures.{returns_of_row}
use Rattle.nesting_core.specs.declared.frame.StackFrame.{StackFrame}
use Rattle.nesting_core.specs.Refusals.{refusal_of}
use Rattle.channel_model.specs.Numbers.{protocol_of, is_sync_row}
use Rattle.channel_model.specs.Sends.{value_refusal, is_too_large}
use Rattle.channel_model.specs.ValueActors.{lives_as, has_dead}

-- why a stack of these frames refuses a request of a message
abbrev pub stack_refusal_by : List StackFrame → MessageRow → Option SendRefusal
stack_refusal_by frames row = refusal_of frames (record { sync = is_sync_row row; level = row.level })

-- a request as far as its refusal goes, which its numbers do not decide
abbrev pub request_without_numbers : ℕ → ℤ → Values → Message
request_without_numbers number route vs = record { route = route; number = number; seq = pos 0; transaction = pos 0; made = pos 0; body = Request vs }

-- why a request is refused, by whether its end is open, its actors and its frames
abbrev pub send_refusal_by : Bool → Schema → List Actor → List StackFrame → MessageRow → Message → Values → Option SendRefusal
send_refusal_by is_open schema actors frames row m vs =
    if not is_open then Some refusal.Closed else
    (if not (lives_as actors (protocol_of row.number) m.route) then Some refusal.DeadActor else
    (if is_some (stack_refusal_by frames row) then stack_refusal_by frames row else
    value_refusal (is_too_large schema m) (has_dead schema actors row.params vs)))

-- why a reply is refused: only by its values, if it has any
abbrev pub reply_refusal_by : Schema → List Actor → MessageRow → Message → Body → Option SendRefusal
reply_refusal_by schema actors row m (Reply vs) = value_refusal (is_too_large schema m) (has_dead schema actors (returns_of_row row) vs)
reply_refusal_by schema actors row m (Request vs) = None
reply_refusal_by schema actors row m (Fault reason) = None
reply_refusal_by schema actors row m Goodbye = None

-- why an answer is refused, by whether its end is open and by the reply that would be sent, if a resolver is there
abbrev pub answer_refusal_by : Bool → Schema → List Actor → MessageRow → Option Message → Option SendRefusal
answer_refusal_by is_open schema actors row None = if not is_open then Some refusal.Closed else Some refusal.DeadActor
answer_refusal_by is_open schema actors row (Some m) = if not is_open then Some refusal.Closed else reply_refusal_by schema actors row m m.body
