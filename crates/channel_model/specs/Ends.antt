-- The two ends of a channel with all that each keeps, and the links between them.
use Rattle.std.specs.Prelude.{ℕ, ℤ, Bool, List, [], ◌∷◌}
use Rattle.actor_tree.specs.declared.actor.Actor.{Actor}
use Rattle.actor_tree.specs.Tree.{top}
use Rattle.ipdl_base.specs.declared.kinds.Side.{Side}
use Rattle.ipdl_base.specs.declared.kinds.Side.TheVariants as sides
use Rattle.ipdl_base.specs.declared.message.Message.{Message}
use Rattle.nesting_core.specs.declared.frame.StackFrame.{StackFrame}
use Rattle.pending_queue.specs.declared.item.Item.{Item}
use Rattle.promise_table.specs.declared.promise.Promise.{Promise}
use Rattle.ipdl_base.specs.declared.kinds.EndState.{EndState}
use Rattle.ipdl_base.specs.declared.kinds.EndState.TheVariants.{Open}

-- What a link carries: a message, or the mark that its sender has died.
pub data Packet : Type 0 where
  message : Message → Packet
  mark : Packet

-- The right to answer an async request: its number, the actor that it went to, and the number of its message.
pub record Resolver : Type 0 where
  pub seq : ℤ
  pub route : ℤ
  pub number : ℕ

-- The content of a name: an actor by its id, or a resolver.
pub data NameContent : Type 0 where
  actor : ℤ → NameContent
  resolver : Resolver → NameContent

pub record Naming : Type 0 where
  pub name : List ℕ
  pub holds : NameContent

-- A frame with what the frame itself does not keep: the actor that its request went to, the number of the request's
-- message, and whether it is a dispatch whose resolver is neither used nor kept.
pub record StackEntry : Type 0 where
  pub frame : StackFrame
  pub route : ℤ
  pub number : ℕ
  pub resolves : Bool

-- A promise with the number of its request's message.
pub record PromiseEntry : Type 0 where
  pub promise : Promise
  pub number : ℕ

-- All that an end keeps. The stack has its innermost frame first; all other lists have the oldest element first. The
-- last four fields count the requests that the end has sent, the constructors among them, the requests that were
-- delivered to it, and the constructors among those.
pub record End : Type 0 where
  pub side : Side
  pub state : EndState
  pub actors : List Actor
  pub arrived : List Item
  pub stack : List StackEntry
  pub promises : List PromiseEntry
  pub names : List Naming
  pub outbox : List Message
  pub sent : ℕ
  pub constructors_sent : ℕ
  pub delivered : ℕ
  pub constructors_delivered : ℕ

-- Both ends, and the packets on the link toward each.
pub record World : Type 0 where
  pub parent : End
  pub child : End
  pub to_parent : List Packet
  pub to_child : List Packet

-- an end as it begins, with the top actor of a protocol
abbrev pub opening_end : ℕ → Side → End
opening_end protocol side = record {
  side = side;
  state = Open;
  actors = top protocol ∷ [];
  arrived = [];
  stack = [];
  promises = [];
  names = [];
  outbox = [];
  sent = 0;
  constructors_sent = 0;
  delivered = 0;
  constructors_delivered = 0;
}

-- both ends as they begin
abbrev pub opening : ℕ → World
opening protocol = record {
  parent = opening_end protocol sides.Parent;
  child = opening_end protocol sides.Child;
  to_parent = [];
  to_child = [];
}

-- the end of a side
abbrev pub end_of : Side → World → End
end_of sides.Parent world = world.parent
end_of sides.Child world = world.child

-- the link toward a side
abbrev pub link_to : Side → World → List Packet
link_to sides.Parent world = world.to_parent
link_to sides.Child world = world.to_child
