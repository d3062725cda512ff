-- Sends.
use Rattle.std.specs.Prelude.{ℕ, ◌+◌, nat_lt, ℤ, pos, Bool, true, false, not, ◌&&◌, ◌||◌, if◌then◌else◌, List, [], ◌∷◌, ◌++◌, map, Option, Some, None, is_none, is_some}
use Rattle.ipdl_base.specs.declared.line.What.{What}
use Rattle.ipdl_base.specs.declared.line.What.TheVariants as what
use Rattle.ipdl_base.specs.declared.kinds.SendRefusal.{SendRefusal}
use Rattle.ipdl_base.specs.declared.kinds.SendRefusal.TheVariants as refusal
use Rattle.ipdl_base.specs.declared.message.Body.TheVariants.{Request}
use Rattle.ipdl_base.specs.declared.message.Message.{Message}
use Rattle.ipdl_base.specs.declared.schema.Kind.{Kind}
use Rattle.ipdl_base.specs.declared.schema.Kind.TheVariants.{Normal, Constructor, Delete}
use Rattle.ipdl_base.specs.declared.schema.MessageRow.{MessageRow}
use Rattle.ipdl_base.specs.declared.schema.Schema.{Schema}
use Rattle.ipdl_base.specs.declared.value.Values.{Values}
use Rattle.nesting_core.specs.declared.frame.StackFrame.{StackFrame}
use Rattle.nesting_core.specs.declared.frame.StackFrame.TheVariants.{Wait}
use Rattle.nesting_core.specs.declared.frame.StackTop.{StackTop}
use Rattle.nesting_core.specs.declared.frame.StackTop.TheVariants as top
use Rattle.nesting_core.specs.Deferral.{transaction_of}
use Rattle.nesting_core.specs.Refusals.{refusal_of}
use Rattle.nesting_core.specs.Top.{top_of}
use Rattle.promise_table.specs.Promises as promises
use Rattle.value_types.specs.declared.layout.TheConstants.{NEW}
use Rattle.value_types.specs.Sizes.{payload_size}
use Rattle.channel_model.specs.Ends.{End, StackEntry, message, actor}
use Rattle.channel_model.specs.Falls.{deletes}
use Rattle.channel_model.specs.Names.{renamed}
use Rattle.ipdl_base.specs.Sides.{sends}
use Rattle.channel_model.specs.Numbers.{seq_of, id_of, protocol_of, is_sync_row, makes_promise, is_constructor, counting}
use Rattle.channel_model.specs.Outputs.{Change, ◌▷◌, unchanged, when, on_end, line, put, is_open, is_dead_end}
use Rattle.channel_model.specs.Typed.{have_types}
use Rattle.channel_model.specs.ValueActors.{lives_as, has_dead}

-- the frames of an end
abbrev pub frames_of : End → List StackFrame
frames_of e = map (λ entry. entry.frame) e.stack

abbrev pub is_wait_on_top : StackTop → Bool
is_wait_on_top top.Empty = false
is_wait_on_top (top.Dispatch head) = false
is_wait_on_top (top.Unanswered head) = true
is_wait_on_top (top.Answered head) = true

-- whether an end may act: it has not died, and the top of its stack, if any, is a dispatch
abbrev pub may_act : End → Bool
may_act e = not (is_dead_end e.state) && not (is_wait_on_top (top_of (frames_of e)))

abbrev pub next_seq : End → ℤ
next_seq e = seq_of e.side (e.sent + 1)

-- the id of the actor that a request of this kind makes, or 0
abbrev pub next_made : End → Kind → ℤ
next_made e kind = if is_constructor kind then id_of e.side (e.constructors_sent + 1) else pos 0

-- a sync request has a transaction, an async one has 0
abbrev pub next_transaction : End → MessageRow → ℤ
next_transaction e row = if is_sync_row row then transaction_of (frames_of e) (next_seq e) else pos 0

-- the request that an end would send
abbrev pub request_of : End → MessageRow → ℤ → Values → Message
request_of e row route vs = record { route = route; number = row.number; seq = next_seq e; transaction = next_transaction e row; made = next_made e row.kind; body = Request vs }

abbrev pub is_too_large : Schema → Message → Bool
is_too_large schema m = nat_lt NEW.most_payload (payload_size NEW schema m)

-- whether an end may try to send this
abbrev pub may_send : Schema → End → MessageRow → Values → Option (List ℕ) → Bool
may_send schema e row vs name =
    may_act e && (row.carried && (sends e.side row.direction && (have_types schema row.params vs && (is_none name || is_constructor row.kind))))

-- why the stack refuses a send
abbrev pub stack_refusal : End → MessageRow → Option SendRefusal
stack_refusal e row = refusal_of (frames_of e) (record { sync = is_sync_row row; level = row.level })

-- why the values of a message are not sent
abbrev pub value_refusal : Bool → Bool → Option SendRefusal
value_refusal large dead = if large then Some refusal.TooLarge else (if dead then Some refusal.DeadValue else None)

-- why the values of a send are refused
abbrev pub send_value_refusal : Schema → End → MessageRow → ℤ → Values → Option SendRefusal
send_value_refusal schema e row route vs = value_refusal (is_too_large schema (request_of e row route vs)) (has_dead schema e.actors row.params vs)

-- why a send is refused: the first cause that applies
abbrev pub send_refusal : Schema → End → MessageRow → ℤ → Values → Option SendRefusal
send_refusal schema e row route vs =
    if not (is_open e.state) then Some refusal.Closed else
    (if not (lives_as e.actors (protocol_of row.number) route) then Some refusal.DeadActor else
    (if is_some (stack_refusal e row) then stack_refusal e row else
    send_value_refusal schema e row route vs))

abbrev pub send_line : MessageRow → Message → Values → What
send_line row m vs = if is_sync_row row then what.Call m.seq m.transaction m.route m.number vs else what.Send m.seq m.route m.number vs

-- a lazy request goes last into the outbox, any other on the link
abbrev pub posted_by : Bool → Message → Change
posted_by true m = on_end (λ e. record e { outbox = e.outbox ++ m ∷ [] })
posted_by false m = put (message m)

abbrev pub posted : MessageRow → Message → Change
posted row m = posted_by row.lazy m

-- the wait for the reply to a sync request, without an answer
abbrev pub wait_for : MessageRow → Message → StackEntry
wait_for row m = record { frame = Wait (record { sync = true; level = row.level; seq = m.seq; transaction = m.transaction }) None; route = m.route; number = m.number; resolves = false }

-- what a request adds at its sender: a sync one a wait, an async one with returns a promise
abbrev pub awaits_reply : MessageRow → Message → Change
awaits_reply row m =
    when (is_sync_row row) (on_end (λ e. record e { stack = wait_for row m ∷ e.stack }))
    ▷ when (makes_promise row) (on_end (λ e. record e { promises = e.promises ++ record { promise = promises.made m.seq m.route; number = m.number } ∷ [] }))

-- an actor is built under another
abbrev pub built : ℤ → ℕ → ℤ → Change
built id protocol manager = on_end (λ e. record e { actors = e.actors ++ record { id = id; protocol = protocol; manager = manager } ∷ [] }) ▷ line (what.Built id protocol)

-- a constructor builds its actor under the actor that it goes to
abbrev pub constructs : ℤ → ℤ → Kind → Change
constructs id route Normal = unchanged
constructs id route (Constructor protocol) = built id protocol route
constructs id route Delete = unchanged

-- the new actor gets the name that was given
abbrev pub names_actor : ℤ → Option (List ℕ) → Change
names_actor id None = unchanged
names_actor id (Some name) = renamed name (Some (actor id))

-- what the sending of a request does
abbrev pub sent : MessageRow → Message → Values → Option (List ℕ) → Change
sent row m vs name =
    line (send_line row m vs)
    ▷ on_end (λ e. record e { sent = e.sent + 1; constructors_sent = counting row.kind e.constructors_sent })
    ▷ posted row m
    ▷ awaits_reply row m
    ▷ names_actor m.made name
    ▷ constructs m.made m.route row.kind
    ▷ deletes m.route row.kind

abbrev pub sent_unless : Option SendRefusal → MessageRow → Message → Values → Option (List ℕ) → Change
sent_unless None row m vs name = sent row m vs name
sent_unless (Some cause) row m vs name = line (what.RefusedSend cause row.number)

-- a send, or its refusal
abbrev pub send : Schema → End → MessageRow → ℤ → Values → Option (List ℕ) → Change
send schema e row route vs name = sent_unless (send_refusal schema e row route vs) row (request_of e row route vs) vs name
