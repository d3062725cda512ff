-- Answers to async requests, by resolve and reject, and resolvers that are kept under names.
use Rattle.std.specs.Prelude.{ℕ, ◌==◌, ℤ, Bool, true, false, not, ◌&&◌, if◌then◌else◌, List, map, find, Option, Some, None, is_some, option_map, option_and_then}
use Rattle.std.specs.Option.{option_map_or}
use Rattle.std.specs.Ordering.{int_eq}
use Rattle.ipdl_base.specs.declared.line.What.{What}
use Rattle.ipdl_base.specs.declared.line.What.TheVariants as what
use Rattle.ipdl_base.specs.Signatures.{returns_of_row}
use Rattle.ipdl_base.specs.declared.kinds.Reason.TheVariants.{HandlerRejected}
use Rattle.ipdl_base.specs.declared.kinds.SendRefusal.{SendRefusal}
use Rattle.ipdl_base.specs.declared.kinds.SendRefusal.TheVariants as refusal
use Rattle.ipdl_base.specs.declared.message.Body.{Body}
use Rattle.ipdl_base.specs.declared.message.Body.TheVariants.{Reply, Fault}
use Rattle.ipdl_base.specs.declared.schema.MessageRow.{MessageRow}
use Rattle.ipdl_base.specs.declared.schema.Schema.{Schema}
use Rattle.ipdl_base.specs.declared.value.Values.{Values}
use Rattle.nesting_core.specs.Frames.{head_of, is_dispatch}
use Rattle.channel_model.specs.Ends.{End, StackEntry, Resolver, NameContent, actor, resolver, message}
use Rattle.channel_model.specs.Events.{Answering, handled, kept}
use Rattle.channel_model.specs.Names.{held_by_name, renamed, without_name}
use Rattle.channel_model.specs.Numbers.{makes_promise, request_row}
use Rattle.channel_model.specs.Outputs.{Change, ◌▷◌, on_end, line, put, resolver_answered, reply_to, is_open, is_closed}
use Rattle.channel_model.specs.Sends.{may_act, is_too_large, value_refusal}
use Rattle.channel_model.specs.Typed.{have_types}
use Rattle.channel_model.specs.ValueActors.{has_dead}

-- whether a frame is the dispatch of the request of this number, with its resolver
abbrev pub has_resolver : ℤ → StackEntry → Bool
has_resolver seq entry = is_dispatch entry.frame && (entry.resolves && int_eq (head_of entry.frame).seq seq)

abbrev pub resolver_in : StackEntry → Resolver
resolver_in entry = record { seq = (head_of entry.frame).seq; route = entry.route; number = entry.number }

-- the resolver of the request of this number, if its handler runs and it has one
abbrev pub handled_resolver : End → ℤ → Option Resolver
handled_resolver e seq = option_map resolver_in (find (has_resolver seq) e.stack)

-- the resolver in the content of a name, if it is of a request of this message
abbrev pub resolver_of : ℕ → NameContent → Option Resolver
resolver_of number (actor id) = None
resolver_of number (resolver r) = if r.number == number then Some r else None

-- the resolver that an answer uses
abbrev pub resolver_used : End → Answering → Option Resolver
resolver_used e (handled seq) = handled_resolver e seq
resolver_used e (kept name number) = option_and_then (resolver_of number) (held_by_name name e.names)

-- the message whose request is answered: for a handler, the message of its resolver; for a name, a message that makes
-- promises
abbrev pub answered_row : Schema → End → Answering → Option MessageRow
answered_row schema e (handled seq) = option_and_then (λ r. request_row schema r.number) (handled_resolver e seq)
answered_row schema e (kept name number) = option_and_then (λ row. if makes_promise row then Some row else None) (request_row schema number)

abbrev pub have_return_types : Schema → MessageRow → Option Values → Bool
have_return_types schema row vs = option_map_or (λ vs. have_types schema (returns_of_row row) vs) vs true

-- whether an end may try to answer with these values, or with a rejection
abbrev pub may_answer : Schema → End → MessageRow → Option Values → Bool
may_answer schema e row vs = may_act e && have_return_types schema row vs

abbrev pub answer_body : Option Values → Body
answer_body None = Fault HandlerRejected
answer_body (Some vs) = Reply vs

abbrev pub is_reply_too_large : Schema → Resolver → Values → Bool
is_reply_too_large schema r vs = is_too_large schema (reply_to (resolver_answered r) (Reply vs))

-- why values are not sent by a resolver, or that there is no resolver
abbrev pub resolver_refusal : Schema → End → MessageRow → Option Values → Option Resolver → Option SendRefusal
resolver_refusal schema e row vs None = Some refusal.DeadActor
resolver_refusal schema e row None (Some r) = None
resolver_refusal schema e row (Some vs) (Some r) = value_refusal (is_reply_too_large schema r vs) (has_dead schema e.actors (returns_of_row row) vs)

-- why an answer is refused: the first cause that applies
abbrev pub answer_refusal : Schema → End → MessageRow → Answering → Option Values → Option SendRefusal
answer_refusal schema e row by vs = if not (is_open e.state) then Some refusal.Closed else resolver_refusal schema e row vs (resolver_used e by)

abbrev pub refused_line : SendRefusal → Option Values → What
refused_line cause None = what.RefusedReject cause
refused_line cause (Some vs) = what.RefusedResolve cause

abbrev pub answering_line : ℤ → Option Values → What
answering_line seq None = what.Reject seq
answering_line seq (Some vs) = what.Resolve seq vs

-- the stack after the resolver of the request of this number is used or kept
abbrev pub released : ℤ → List StackEntry → List StackEntry
released seq stack = map (λ (entry : StackEntry). if has_resolver seq entry then record entry { resolves = false } else entry) stack

abbrev pub without_resolver : Answering → End → End
without_resolver (handled seq) e = record e { stack = released seq e.stack }
without_resolver (kept name number) e = record e { names = without_name name e.names }

-- what an answer does
abbrev pub resolved : Answering → Option Values → Resolver → Change
resolved by vs r = line (answering_line r.seq vs) ▷ on_end (without_resolver by) ▷ put (message (reply_to (resolver_answered r) (answer_body vs)))

-- an answer, unless it is refused or has no resolver
abbrev pub answered_unless : Option SendRefusal → Answering → Option Values → Option Resolver → Change
answered_unless (Some cause) by vs r = line (refused_line cause vs)
answered_unless None by vs None = line (refused_line refusal.DeadActor vs)
answered_unless None by vs (Some r) = resolved by vs r

-- an answer, or its refusal
abbrev pub answer : Schema → End → MessageRow → Answering → Option Values → Change
answer schema e row by vs = answered_unless (answer_refusal schema e row by vs) by vs (resolver_used e by)

-- whether an end may keep the resolver of this request
abbrev pub may_keep : End → ℤ → Bool
may_keep e seq = may_act e && is_some (handled_resolver e seq)

-- what a name keeps of a resolver: at a closed end, nothing
abbrev pub kept_by : End → Resolver → Option NameContent
kept_by e r = if is_closed e.state then None else Some (resolver r)

-- a resolver is kept under a name
abbrev pub keep : End → ℤ → List ℕ → Change
keep e seq name =
    line (what.Keep seq name)
    ▷ on_end (λ e. record e { stack = released seq e.stack })
    ▷ renamed name (option_and_then (kept_by e) (handled_resolver e seq))
