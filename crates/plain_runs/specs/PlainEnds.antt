-- What an end keeps, what happens there and what a step makes, where every box of its values lies at one place: each is the
-- same as its plain form.
use Rattle.std.specs.Prelude.{◌≡◌, List, map, option_map}
use Rattle.std.specs.List.{AllByRecursion}
use Rattle.ipdl_base.specs.declared.line.Line.{Line}
use Rattle.ipdl_base.specs.declared.message.Message.{Message}
use Rattle.ipdl_base.specs.Plain.{plain_message, plain_values}
use Rattle.nesting_core.specs.Plain.{plain_frame}
use Rattle.pending_queue.specs.declared.item.Item.{Item}
use Rattle.pending_queue.specs.Plain.{plain_item}
use Rattle.promise_table.specs.Plain.{plain_promise}
use Rattle.channel_model.specs.Ends.{End, Packet, PromiseEntry, StackEntry, mark, message}
use Rattle.channel_model.specs.Events.{Event}
use Rattle.channel_model.specs.Events as event
use Rattle.channel_model.specs.Outputs.{Output}
use Rattle.end_parts.specs.PlainLines.{plain_line}

-- a message is plain, and a packet that carries one
abbrev pub IsPlainMessage : Message → Type 0
IsPlainMessage m = plain_message m ≡ m

abbrev pub IsPlainPacket : Packet → Type 0
IsPlainPacket (message m) = IsPlainMessage m
IsPlainPacket mark = Unit {0}

-- what has arrived is plain
abbrev pub IsPlainItem : Item → Type 0
IsPlainItem item = plain_item item ≡ item

-- the answer of a wait is plain, if it has come
abbrev pub IsPlainEntry : StackEntry → Type 0
IsPlainEntry entry = plain_frame entry.frame ≡ entry.frame

-- the outcome of a promise is plain, if it has one
abbrev pub IsPlainPromise : PromiseEntry → Type 0
IsPlainPromise entry = plain_promise entry.promise ≡ entry.promise

-- lines are plain
abbrev pub ArePlainLines : List Line → Type 0
ArePlainLines lines = map plain_line lines ≡ lines

-- the values of an event are plain, if it has any
abbrev pub IsPlainEvent : Event → Type 0
IsPlainEvent (event.send route number vs name) = plain_values vs ≡ vs
IsPlainEvent (event.answer by vs) = option_map plain_values vs ≡ vs
IsPlainEvent (event.return vs) = option_map plain_values vs ≡ vs
IsPlainEvent _ = Unit {0}

-- All that an end keeps is plain.
pub record IsPlainEnd (e : End) : Type 0 where
  pub arrived : AllByRecursion IsPlainItem e.arrived
  pub stack : AllByRecursion IsPlainEntry e.stack
  pub promises : AllByRecursion IsPlainPromise e.promises
  pub outbox : AllByRecursion IsPlainMessage e.outbox

-- All that a step makes is plain: the end, the lines and the packets.
pub record IsPlainOutput (output : Output) : Type 0 where
  pub end : IsPlainEnd output.end
  pub lines : ArePlainLines output.lines
  pub packets : AllByRecursion IsPlainPacket output.packets
