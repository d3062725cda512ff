-- What an end takes next.
use Rattle.std.specs.Prelude.{◌≡◌, ℕ, ℤ, Bool, if◌then◌else◌, Option, Some, None, option_map}
use Rattle.actor_tree.specs.declared.actor.Actor.{Actor}
use Rattle.ipdl_base.specs.declared.kinds.Destroy.{Destroy}
use Rattle.ipdl_base.specs.declared.kinds.Destroy.TheVariants.{NormalShutdown, AbnormalShutdown}
use Rattle.ipdl_base.specs.declared.kinds.Level.{Level}
use Rattle.ipdl_base.specs.declared.line.What.{What}
use Rattle.ipdl_base.specs.declared.line.What.TheVariants as what
use Rattle.ipdl_base.specs.declared.message.Body.{Body}
use Rattle.ipdl_base.specs.declared.message.Body.TheVariants.{Request, Reply, Fault, Goodbye}
use Rattle.ipdl_base.specs.declared.message.Message.{Message}
use Rattle.ipdl_base.specs.declared.schema.MessageRow.{MessageRow}
use Rattle.ipdl_base.specs.declared.value.Values.{Values}
use Rattle.ipdl_base.specs.Plain.{plain_values}
use Rattle.pending_queue.specs.declared.item.Item.{Item}
use Rattle.pending_queue.specs.declared.item.Item.TheVariants as item
use Rattle.channel_model.specs.Ends.{Resolver}
use Rattle.channel_model.specs.Numbers.{makes_promise}
use Rattle.channel_model.specs.Outputs.{is_open}
use Rattle.channel_model.specs.Takes.{taken_next}
use Rattle.end_steps.specs.declared.answer_packet.AnswerPacket.{AnswerPacket}
use Rattle.end_steps.specs.AnswerPackets.{IsAnswering}
use Rattle.end_steps.specs.RequestPlans.{IsDrop, IsHandled}
use Rattle.channel_core.specs.declared.end.taking.Farewell.{Farewell}
use Rattle.channel_core.specs.declared.end.taking.Farewell.TheVariants as farewell
use Rattle.channel_core.specs.declared.end.taking.ItemKind.{ItemKind}
use Rattle.channel_core.specs.declared.end.taking.ItemKind.TheVariants as kind
use Rattle.channel_core.specs.EndView.{EndView}

-- what a body makes of an item
abbrev pub kind_of_body : Body → ItemKind
kind_of_body (Request vs) = kind.Request
kind_of_body (Reply vs) = kind.Reply
kind_of_body (Fault reason) = kind.Reply
kind_of_body Goodbye = kind.Farewell farewell.Goodbye

-- what an item is
abbrev pub kind_of_item : Item → ItemKind
kind_of_item (item.Message m sync level) = kind_of_body m.body
kind_of_item item.Broken = kind.Farewell farewell.Mark

-- what the item is that an end takes next, if it may take one
abbrev pub next_kind : EndView → Option ItemKind
next_kind seen = option_map kind_of_item (taken_next seen.end)

-- A message is what an end takes next.
pub record IsNextMessage (seen : EndView) (m : Message) : Type 0 where
  pub sync : Bool
  pub level : Level
  pub next : taken_next seen.end ≡ Some (item.Message m sync level)

-- The next item is a request that is dropped for an actor, with the answer that it is owed.
pub record IsNextDrop (seen : EndView) (id : ℤ) (packet : Option AnswerPacket) : Type 0 where
  pub m : Message
  pub is_next : IsNextMessage seen m
  pub drop : IsDrop seen.schema (is_open seen.end.state) seen.end.actors m id packet

-- The next item is a request that is handled, with these values, and builds this actor.
pub record IsNextHandling (seen : EndView) (shown : Values) (built : Option Actor) : Type 0 where
  pub m : Message
  pub is_next : IsNextMessage seen m
  pub handled : IsHandled seen.schema seen.end.actors m shown built

-- the values of a reply, if it has any
abbrev pub values_in : Body → Option Values
values_in (Request vs) = None
values_in (Reply vs) = Some vs
values_in (Fault reason) = None
values_in Goodbye = None

-- The next item is a reply, with a second copy of its values.
pub record IsNextReply (seen : EndView) (copy : Option Values) : Type 0 where
  pub m : Message
  pub is_next : IsNextMessage seen m
  pub answers : IsAnswering m.body
  pub copied : option_map plain_values copy ≡ values_in m.body

-- the line of a farewell that is taken, and the reason for which the end closes then
abbrev pub farewell_line : Farewell → What
farewell_line farewell.Goodbye = what.ShutNormal
farewell_line farewell.Mark = what.ShutAbnormal

abbrev pub farewell_reason : Farewell → Destroy
farewell_reason farewell.Goodbye = NormalShutdown
farewell_reason farewell.Mark = AbnormalShutdown

-- the resolver of a request of a message, where that is async with returns
abbrev pub resolver_by : MessageRow → ℤ → ℤ → ℕ → Option Resolver
resolver_by row seq route number = if makes_promise row then Some (record { seq = seq; route = route; number = number }) else None
