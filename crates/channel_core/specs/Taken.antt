-- What a take answers.
use Rattle.std.specs.Prelude.{◌≡◌, if◌then◌else◌, Option, Some, None}
use Rattle.std.specs.Option.{option_map_or}
use Rattle.ipdl_base.specs.declared.message.Body.{Body}
use Rattle.ipdl_base.specs.declared.message.Body.TheVariants.{Request, Reply, Fault, Goodbye}
use Rattle.ipdl_base.specs.declared.message.Message.{Message}
use Rattle.ipdl_base.specs.declared.schema.MessageRow.{MessageRow}
use Rattle.ipdl_base.specs.declared.value.Values.{Values}
use Rattle.ipdl_base.specs.Plain.{plain_values}
use Rattle.ipdl_base.specs.Sound.{message_of}
use Rattle.pending_queue.specs.declared.item.Item.{Item}
use Rattle.pending_queue.specs.declared.item.Item.TheVariants as item
use Rattle.channel_model.specs.Ends.{Resolver}
use Rattle.channel_model.specs.Events as event
use Rattle.channel_model.specs.Numbers.{makes_promise}
use Rattle.channel_model.specs.Takes.{taken_next, dropped_for}
use Rattle.channel_model.specs.ValueActors.{nulled}
use Rattle.channel_core.specs.declared.answers.Handling.{Handling}
use Rattle.channel_core.specs.declared.answers.TakeAnswer.{TakeAnswer}
use Rattle.channel_core.specs.declared.answers.TakeAnswer.TheVariants as answer
use Rattle.channel_core.specs.EndView.{EndView}
use Rattle.channel_core.specs.Steps.{IsStep}

-- What a take does: it handles a request of a message with these values, drops one, settles a promise, shuts the end,
-- or there is nothing to take.
pub data TakeKind : Type 0 where
  handle : Message → MessageRow → Values → TakeKind
  drop : TakeKind
  settle : TakeKind
  shut : TakeKind
  nothing : TakeKind

-- a request is dropped for a dead actor, or handled with null for the dead actors of its values
abbrev pub request_kind : EndView → Message → Values → MessageRow → TakeKind
request_kind seen m vs row = option_map_or (λ id. drop) (dropped_for seen.schema seen.end row m vs) (handle m row (nulled seen.schema seen.end.actors row.params vs))

abbrev pub body_kind : EndView → Message → Body → TakeKind
body_kind seen m (Request vs) = option_map_or (request_kind seen m vs) (message_of seen.schema m.number) drop
body_kind seen m (Reply vs) = settle
body_kind seen m (Fault reason) = settle
body_kind seen m Goodbye = shut

abbrev pub item_kind : EndView → Item → TakeKind
item_kind seen (item.Message m sync level) = body_kind seen m m.body
item_kind seen item.Broken = shut

-- what a take does at an end
unfoldable pub kind_of : EndView → TakeKind
kind_of seen = option_map_or (item_kind seen) (taken_next seen.end) nothing

-- the resolver for a request, where its message is async with returns
abbrev pub resolver_for : Message → MessageRow → Option Resolver
resolver_for m row = if makes_promise row then Some (record { seq = m.seq; route = m.route; number = m.number }) else None

-- What is handled is this request, with these values.
pub record IsHandling (m : Message) (row : MessageRow) (vs : Values) (h : Handling) : Type 0 where
  pub route : h.route ≡ m.route
  pub number : h.number ≡ m.number
  pub seq : h.seq ≡ m.seq
  pub made : h.made ≡ m.made
  pub values : plain_values h.values ≡ vs
  pub resolver : h.resolver ≡ resolver_for m row

-- the result is what was done
abbrev pub IsKindOf : TakeKind → TakeAnswer → Type 0
IsKindOf (handle m row vs) (answer.Handle h) = IsHandling m row vs h
IsKindOf drop answer.Dropped = Unit {0}
IsKindOf settle answer.Settled = Unit {0}
IsKindOf shut answer.Shut = Unit {0}
IsKindOf nothing answer.Nothing = Unit {0}
IsKindOf _ _ = ⊥

abbrev pub TakeGives : EndView → TakeAnswer → EndView → Type 0
TakeGives before answer.NoMemory after = after ≡ before
TakeGives before answer.Nothing after = (kind_of before ≡ nothing) × (after ≡ before)
TakeGives before other after = IsKindOf (kind_of before) other × IsStep before event.take after
