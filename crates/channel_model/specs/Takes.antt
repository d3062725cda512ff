-- How an end takes arrived items.
use Rattle.std.specs.Prelude.{ℤ, pos, Bool, true, false, ◌&&◌, ◌||◌, if◌then◌else◌, List, ◌∷◌, find, map, Option, Some, None, unwrap_or}
use Rattle.std.specs.Option.{option_map_or}
use Rattle.ipdl_base.specs.declared.line.What.{What}
use Rattle.ipdl_base.specs.declared.line.What.TheVariants as what
use Rattle.ipdl_base.specs.declared.kinds.Destroy.TheVariants.{NormalShutdown, AbnormalShutdown}
use Rattle.ipdl_base.specs.declared.kinds.Reason.TheVariants.{ActorDestroyed}
use Rattle.ipdl_base.specs.declared.message.Body.{Body}
use Rattle.ipdl_base.specs.declared.message.Body.TheVariants.{Request, Reply, Fault, Goodbye}
use Rattle.ipdl_base.specs.declared.message.Message.{Message}
use Rattle.ipdl_base.specs.declared.schema.MessageRow.{MessageRow}
use Rattle.ipdl_base.specs.declared.schema.Schema.{Schema}
use Rattle.ipdl_base.specs.declared.value.Values.{Values}
use Rattle.nesting_core.specs.declared.frame.Answer.{Answer}
use Rattle.nesting_core.specs.declared.frame.Answer.TheVariants as answer
use Rattle.nesting_core.specs.declared.frame.StackFrame.TheVariants.{Dispatch}
use Rattle.nesting_core.specs.declared.frame.StackTop.{StackTop}
use Rattle.nesting_core.specs.declared.frame.StackTop.TheVariants as top
use Rattle.nesting_core.specs.Deferral.{awaited_level, inner_transaction}
use Rattle.nesting_core.specs.Top.{top_of}
use Rattle.pending_queue.specs.declared.deferral_context.DeferralContext.{DeferralContext}
use Rattle.pending_queue.specs.declared.item.Item.{Item}
use Rattle.pending_queue.specs.declared.item.Item.TheVariants as item
use Rattle.pending_queue.specs.DeferralContext.{is_free, without_first}
use Rattle.promise_table.specs.declared.promise.Outcome.{Outcome}
use Rattle.promise_table.specs.declared.promise.Outcome.TheVariants.{Resolved, Rejected}
use Rattle.promise_table.specs.Promises.{has_number, is_pending, settled}
use Rattle.ipdl_base.specs.declared.kinds.EndState.{EndState}
use Rattle.ipdl_base.specs.declared.kinds.EndState.TheVariants.{Open, Draining, Closed, Dead}
use Rattle.channel_model.specs.Deliveries.{by_row}
use Rattle.channel_model.specs.Ends.{End, StackEntry, PromiseEntry}
use Rattle.channel_model.specs.Falls.{closed}
use Rattle.channel_model.specs.Numbers.{protocol_of, is_sync_row, makes_promise}
use Rattle.channel_model.specs.Outputs.{Change, ◌▷◌, unchanged, when, on_end, line, answered, request_answered}
use Rattle.channel_model.specs.Sends.{frames_of, constructs}
use Rattle.channel_model.specs.ValueActors.{lives_as, missing, nulled, received}

-- what an end waits for, which decides what it defers
abbrev pub deferral_context_of : End → DeferralContext
deferral_context_of e = record { side = e.side; level = awaited_level (frames_of e); transaction = unwrap_or (inner_transaction (frames_of e)) (pos 0) }

-- the oldest item that is not deferred
abbrev pub first_free : End → Option Item
first_free e = find (is_free (deferral_context_of e)) e.arrived

abbrev pub takes_in_state : EndState → Bool
takes_in_state Open = true
takes_in_state Draining = true
takes_in_state Closed = false
takes_in_state Dead = false

abbrev pub takes_under : StackTop → Bool
takes_under top.Empty = true
takes_under (top.Dispatch head) = false
takes_under (top.Unanswered head) = true
takes_under (top.Answered head) = false

-- the item that an end takes next, if it may take one
abbrev pub taken_next : End → Option Item
taken_next e = if takes_in_state e.state && takes_under (top_of (frames_of e)) then first_free e else None

-- an answer as the outcome of a promise
abbrev pub outcome_of : Answer → Outcome
outcome_of (answer.Ok vs) = Resolved vs
outcome_of (answer.Fault reason) = Rejected reason

abbrev pub settle_line : ℤ → Outcome → What
settle_line seq (Resolved vs) = what.Resolved seq vs
settle_line seq (Rejected reason) = what.Rejected seq reason

-- whether the promise of a number waits for its outcome
abbrev pub is_awaited : ℤ → List PromiseEntry → Bool
is_awaited seq promises = option_map_or (λ entry. is_pending entry.promise) (find (λ entry. has_number seq entry.promise) promises) false

abbrev pub settled_entry : ℤ → Outcome → PromiseEntry → PromiseEntry
settled_entry seq outcome entry = record entry { promise = settled seq outcome entry.promise }

-- a promise gets its outcome
abbrev pub settles : ℤ → Outcome → Change
settles seq outcome =
    on_end (λ e. record e { promises = map (settled_entry seq outcome) e.promises })
    ▷ line (settle_line seq outcome)

-- a reply settles its promise, or comes too late
abbrev pub reply_taken : Schema → Message → Answer → MessageRow → Change
reply_taken schema m a row output =
    when (is_awaited m.seq output.end.promises) (settles m.seq (outcome_of (received schema output.end.actors row a))) output

-- the id for which a request is dropped: the actor that it went to, or the first missing one of its values
abbrev pub dropped_for : Schema → End → MessageRow → Message → Values → Option ℤ
dropped_for schema e row m vs = if lives_as e.actors (protocol_of m.number) m.route then missing schema e.actors row.params vs else Some m.route

abbrev pub dropped : MessageRow → Message → ℤ → Change
dropped row m id =
    line (what.Drop m.seq m.route m.number id)
    ▷ when (is_sync_row row || makes_promise row) (answered (request_answered m) (answer.Fault ActorDestroyed))

-- the dispatch of a request
abbrev pub dispatch_of : MessageRow → Message → StackEntry
dispatch_of row m = record { frame = Dispatch (record { sync = is_sync_row row; level = row.level; seq = m.seq; transaction = m.transaction }); route = m.route; number = m.number; resolves = makes_promise row }

-- a request is handled, with null in the place of dead actors
abbrev pub handled : MessageRow → Message → Values → Change
handled row m vs =
    line (what.Take m.seq m.route m.number vs)
    ▷ on_end (λ e. record e { stack = dispatch_of row m ∷ e.stack })
    ▷ constructs m.made m.route row.kind

abbrev pub dropped_or_handled : Option ℤ → MessageRow → Message → Values → Change
dropped_or_handled None row m vs = handled row m vs
dropped_or_handled (Some id) row m vs = dropped row m id

abbrev pub request_taken : Schema → Message → Values → MessageRow → Change
request_taken schema m vs row output =
    dropped_or_handled (dropped_for schema output.end row m vs) row m (nulled schema output.end.actors row.params vs) output

-- a request of a message that is not in the schema would be dropped, for the actor that it went to
abbrev pub body_taken : Schema → Message → Body → Change
body_taken schema m (Request vs) = by_row schema m (request_taken schema m vs) (line (what.Drop m.seq m.route m.number m.route))
body_taken schema m (Reply vs) = line (what.TakeReply m.seq) ▷ by_row schema m (reply_taken schema m (answer.Ok vs)) unchanged
body_taken schema m (Fault reason) = line (what.TakeReply m.seq) ▷ by_row schema m (reply_taken schema m (answer.Fault reason)) unchanged
body_taken schema m Goodbye = line what.ShutNormal ▷ closed NormalShutdown

abbrev pub item_taken : Schema → Item → Change
item_taken schema (item.Message m sync level) = body_taken schema m m.body
item_taken schema item.Broken = line what.ShutAbnormal ▷ closed AbnormalShutdown

-- an item is taken
abbrev pub take : Schema → Item → Change
take schema taken = on_end (λ e. record e { arrived = without_first (is_free (deferral_context_of e)) e.arrived }) ▷ item_taken schema taken
