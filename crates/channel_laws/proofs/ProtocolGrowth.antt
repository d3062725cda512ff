-- What has the protocols of the ids keeps them when more ids get protocols.
use Rattle.std.proofs.Common.{inl, inr, ℕ, ℤ, List, Some, None}
use Rattle.std.specs.List.{AllByRecursion}
use Rattle.actor_tree.specs.declared.actor.Actor.{Actor}
use Rattle.ipdl_base.specs.declared.message.Body.{Body}
use Rattle.ipdl_base.specs.declared.message.Body.TheVariants.{Request, Reply, Fault, Goodbye}
use Rattle.ipdl_base.specs.declared.message.Message.{Message}
use Rattle.ipdl_base.specs.declared.schema.Kind.{Kind}
use Rattle.ipdl_base.specs.declared.schema.Kind.TheVariants.{Normal, Constructor, Delete}
use Rattle.ipdl_base.specs.declared.schema.MessageRow.{MessageRow}
use Rattle.ipdl_base.specs.declared.schema.Schema.{Schema}
use Rattle.ipdl_base.specs.Signatures.{returns_of_row}
use Rattle.nesting_core.specs.declared.frame.Answer.{Answer}
use Rattle.nesting_core.specs.declared.frame.Answer.TheVariants as answer
use Rattle.nesting_core.specs.declared.frame.StackFrame.{StackFrame}
use Rattle.nesting_core.specs.declared.frame.StackFrame.TheVariants.{Dispatch, Wait}
use Rattle.pending_queue.specs.declared.item.Item.{Item}
use Rattle.pending_queue.specs.declared.item.Item.TheVariants as item
use Rattle.channel_model.specs.Ends.{End, Packet, message, mark, StackEntry, NameContent, actor, resolver, Naming}
use Rattle.channel_model.specs.Refusals.{actors_of}
use Rattle.channel_model.specs.ValueActors.{ActorValue, actors_in_parts}
use Rattle.channel_model.proofs.Known.{all-map}
use Rattle.channel_laws.specs.Protocols.{ActorHasProtocol, AnswerHasProtocols, ContentHasProtocols, EntryHasProtocols, FrameHasProtocols, HasItsProtocol, HasProtocols, HaveTheirProtocols, IsRightBody, IsRightMessage, ItemHasProtocols, KeptRequest, MakesItsProtocol, MessageHasProtocols, NamingHasProtocols, PacketHasProtocols, Protocols, StandsFor, route_actor}

module _ (schema : Schema) (made more : Protocols) (grows : (id : ℤ) (p : ℕ) → StandsFor made id p → StandsFor more id p) where
  its-grows : (a : ActorValue) → HasItsProtocol made a → HasItsProtocol more a
  its-grows a (inl null) = inl null
  its-grows a (inr s) = inr (grows a.id a.protocol s)

  theirs-grow : (few : List ActorValue) → HaveTheirProtocols made few → HaveTheirProtocols more few
  theirs-grow few h = all-map (HasItsProtocol made) (HasItsProtocol more) few its-grows h

  makes-grows : (kind : Kind) (id : ℤ) → MakesItsProtocol made kind id → MakesItsProtocol more kind id
  makes-grows Normal id h = tt
  makes-grows (Constructor protocol) id h = grows id protocol h
  makes-grows Delete id h = tt

  body-grows : (row : MessageRow) (m : Message) (b : Body) → IsRightBody schema made row m b → IsRightBody schema more row m b
  body-grows row m (Request vs) h = record { found = h.found; makes = makes-grows row.kind m.made h.makes }
  body-grows row m (Reply vs) h = tt
  body-grows row m (Fault reason) h = tt
  body-grows row m Goodbye h = tt

  message-grows : (m : Message) → MessageHasProtocols schema made m → MessageHasProtocols schema more m
  message-grows m h row found =
      let k : IsRightMessage schema made m row m.body = h row found in
      record { actors = theirs-grow (actors_of schema row m m.body) k.actors; request = body-grows row m m.body k.request }

  request-grows : (route : ℤ) (number : ℕ) → KeptRequest schema made route number → KeptRequest schema more route number
  request-grows route number h = record { row = h.row; found = h.found; actor_is = its-grows (route_actor route number) h.actor_is }

  answer-grows : (number : ℕ) (a : Answer) → AnswerHasProtocols schema made number a → AnswerHasProtocols schema more number a
  answer-grows number (answer.Ok vs) h = λ row found. theirs-grow (actors_in_parts schema (returns_of_row row) vs) (h row found)
  answer-grows number (answer.Fault reason) h = tt

  frame-grows : (number : ℕ) (f : StackFrame) → FrameHasProtocols schema made number f → FrameHasProtocols schema more number f
  frame-grows number (Dispatch head) h = tt
  frame-grows number (Wait head None) h = tt
  frame-grows number (Wait head (Some a)) h = answer-grows number a h

  entry-grows : (entry : StackEntry) → EntryHasProtocols schema made entry → EntryHasProtocols schema more entry
  entry-grows entry h = record { request = request-grows entry.route entry.number h.request; frame = frame-grows entry.number entry.frame h.frame }

  content-grows : (content : NameContent) → ContentHasProtocols schema made content → ContentHasProtocols schema more content
  content-grows (actor id) h = tt
  content-grows (resolver r) h = request-grows r.route r.number h

  item-grows : (x : Item) → ItemHasProtocols schema made x → ItemHasProtocols schema more x
  item-grows (item.Message m sync level) h = message-grows m h
  item-grows item.Broken h = tt

  packet-grows : (p : Packet) → PacketHasProtocols schema made p → PacketHasProtocols schema more p
  packet-grows (message m) h = message-grows m h
  packet-grows mark h = tt

  pub packets-grow : (ps : List Packet) → AllByRecursion (PacketHasProtocols schema made) ps → AllByRecursion (PacketHasProtocols schema more) ps
  packets-grow ps h = all-map (PacketHasProtocols schema made) (PacketHasProtocols schema more) ps packet-grows h

  pub end-grows : (e : End) → HasProtocols schema made e → HasProtocols schema more e
  end-grows e h = record {
    actors = all-map (ActorHasProtocol made) (ActorHasProtocol more) e.actors (λ (a : Actor) k. grows a.id a.protocol k) h.actors;
    entries = all-map (EntryHasProtocols schema made) (EntryHasProtocols schema more) e.stack entry-grows h.entries;
    names = all-map (NamingHasProtocols schema made) (NamingHasProtocols schema more) e.names (λ (n : Naming) k. content-grows n.holds k) h.names;
    arrived = all-map (ItemHasProtocols schema made) (ItemHasProtocols schema more) e.arrived item-grows h.arrived;
    outbox = all-map (MessageHasProtocols schema made) (MessageHasProtocols schema more) e.outbox message-grows h.outbox;
  }
