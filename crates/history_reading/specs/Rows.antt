-- The properties of a request, by the message of its number.
use Rattle.std.specs.Prelude.{ℕ, ◌==◌, ℤ, pos, Bool, true, false, ◌&&◌, not, if◌then◌else◌, is_some, List, [], Option, Some, None, unwrap_or}
use Rattle.std.specs.Option.{option_map_or}
use Rattle.ipdl_base.specs.declared.schema.Kind.{Kind}
use Rattle.ipdl_base.specs.declared.schema.Kind.TheVariants.{Normal, Constructor, Delete}
use Rattle.ipdl_base.specs.declared.schema.MessageRow.{MessageRow}
use Rattle.ipdl_base.specs.declared.schema.ParamRow.{ParamRow}
use Rattle.ipdl_base.specs.declared.schema.Schema.{Schema}
use Rattle.ipdl_base.specs.Sound.{is_sync, message_of}
use Rattle.history_reading.specs.declared.parts.Cause.{Cause}
use Rattle.history_reading.specs.declared.parts.Cause.TheVariants as cause

-- whether a number is that of the request of a message
abbrev pub is_request_number : Schema → ℕ → Bool
is_request_number schema number = option_map_or (λ row. row.number == number) (message_of schema number) false

-- a message whose sender waits for its reply
abbrev pub is_sync_row : MessageRow → Bool
is_sync_row row = is_sync row.semantics

abbrev pub is_sync_number : Schema → ℕ → Bool
is_sync_number schema number = option_map_or is_sync_row (message_of schema number) false

-- an async message with returns: its sender has a promise
abbrev pub wants_row : MessageRow → Bool
wants_row row = not (is_sync_row row) && is_some row.returns

abbrev pub wants_number : Schema → ℕ → Bool
wants_number schema number = option_map_or wants_row (message_of schema number) false

abbrev pub constructs : Kind → Bool
constructs Normal = false
constructs (Constructor p) = true
constructs Delete = false

abbrev pub is_constructor : Schema → ℕ → Bool
is_constructor schema number = option_map_or (λ row. constructs row.kind) (message_of schema number) false

-- the actor of a destructor's message falls with all below it, and no other does
abbrev pub kind_cause : Kind → ℤ → Cause
kind_cause Normal route = cause.Nobody
kind_cause (Constructor p) route = cause.Nobody
kind_cause Delete route = cause.Delete route

abbrev pub delete_cause : Schema → ℕ → ℤ → Cause
delete_cause schema number route = option_map_or (λ row. kind_cause row.kind route) (message_of schema number) cause.Nobody
