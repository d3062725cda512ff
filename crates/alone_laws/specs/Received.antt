-- What an end receives of the replies that were delivered to it, by its lines.
use Rattle.std.specs.Prelude.{◌≡◌, ℕ, ℤ, pos, not, if◌then◌else◌, List, [], ◌∷◌, filter, filter_map, length, take, Option, Some, None}
use Rattle.std.specs.List.{slice_get}
use Rattle.std.specs.Ordering.{int_eq}
use Rattle.actor_tree.specs.declared.actor.Actor.{Actor}
use Rattle.ipdl_base.specs.declared.line.What.{What}
use Rattle.ipdl_base.specs.declared.line.What.TheVariants as what
use Rattle.ipdl_base.specs.declared.message.Body.{Body}
use Rattle.ipdl_base.specs.declared.message.Body.TheVariants.{Request, Reply, Fault, Goodbye}
use Rattle.ipdl_base.specs.declared.schema.MessageRow.{MessageRow}
use Rattle.ipdl_base.specs.declared.schema.Schema.{Schema}
use Rattle.ipdl_base.specs.Sound.{message_of}
use Rattle.ipdl_base.specs.Sides.{top_id}
use Rattle.nesting_core.specs.declared.frame.Answer.{Answer}
use Rattle.nesting_core.specs.declared.frame.Answer.TheVariants as answer
use Rattle.channel_model.specs.Ends.{Packet, message, mark}
use Rattle.channel_model.specs.ValueActors.{received}
use Rattle.history_reading.specs.Numbers.{has}
use Rattle.law_statements.specs.Actors.{fallen, last_actor}
use Rattle.law_statements.specs.Packets.{delivered}
use Rattle.law_statements.specs.Said.{made_of}

-- the actors that were built, each with its protocol, under the actor of its event; the top actor is the first
abbrev pub actor_built : List What → What → Option Actor
actor_built before (what.Built id protocol) = Some (record { id = id; protocol = protocol; manager = last_actor before })
actor_built before _ = None

abbrev pub actors_built : ℕ → List What → List Actor
actors_built top own = record { id = top_id; protocol = top; manager = pos 0 } ∷ made_of actor_built [] own

-- the actors that have not fallen
abbrev pub actors_living : ℕ → List What → List Actor
actors_living top own = filter (λ a. not (has (fallen own) a.id)) (actors_built top own)

-- what a message answers, if it is a reply
abbrev pub answer_in : Body → Option Answer
answer_in (Request values) = None
answer_in (Reply values) = Some (answer.Ok values)
answer_in (Fault why) = Some (answer.Fault why)
answer_in Goodbye = None

-- what a packet answers to the request of a number
abbrev pub answer_to : ℤ → Packet → Option Answer
answer_to n (message m) = if int_eq m.seq n then answer_in m.body else None
answer_to n mark = None

-- the answers to the request of a number among packets, in order
abbrev pub answers_to : ℤ → List Packet → List Answer
answers_to n packets = filter_map (answer_to n) packets

-- the packets that were delivered by then, one for each delivery line
abbrev pub delivered_by_then : List What → List Packet → List Packet
delivered_by_then own packets = take (length (delivered own)) packets

-- The end's request of a number, which is of this message, receives an answer: the content of the first reply to it
-- that was delivered, except for actors in its values that do not live as those of their types. If one of these has a
-- type that is not nullable, the answer is the fault `ActorDestroyed`; the others are null.
pub record HasReceived (schema : Schema) (top : ℕ) (own : List What) (packets : List Packet) (n : ℤ) (number : ℕ) (a : Answer) : Type 0 where
  pub row : MessageRow
  pub found : message_of schema number ≡ Some row
  pub given : Answer
  pub first : slice_get (answers_to n (delivered_by_then own packets)) 0 ≡ Some given
  pub is : received schema (actors_living top own) row given ≡ a
