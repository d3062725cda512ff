-- How much can still happen by itself in a world: a weight for each thing in an outbox, on a link, among what has
-- arrived or on a stack. A thing weighs more than all that can result from it without an act.
use Rattle.std.specs.Prelude.{ℕ, ◌+◌, ◌*◌, Bool, cond, List, [], ◌∷◌, length}
use Rattle.ipdl_base.specs.declared.kinds.EndState.{EndState}
use Rattle.ipdl_base.specs.declared.message.Body.{Body}
use Rattle.ipdl_base.specs.declared.message.Body.TheVariants.{Request, Reply, Fault, Goodbye}
use Rattle.nesting_core.specs.declared.frame.StackFrame.{StackFrame}
use Rattle.nesting_core.specs.declared.frame.StackFrame.TheVariants.{Dispatch, Wait}
use Rattle.pending_queue.specs.declared.item.Item.{Item}
use Rattle.pending_queue.specs.declared.item.Item.TheVariants as item
use Rattle.channel_model.specs.Ends.{End, World, StackEntry, Naming, NameContent, actor, resolver, Packet, message, mark}
use Rattle.channel_model.specs.Outputs.{is_open}

-- one weight for a request, and another for a reply or a goodbye
abbrev pub body_weight : ℕ → ℕ → Body → ℕ
body_weight request other (Request vs) = request
body_weight request other (Reply vs) = other
body_weight request other (Fault reason) = other
body_weight request other Goodbye = other

-- a packet on a link: a request weighs 5; a reply, a goodbye or a mark 2
abbrev pub packet_weight : Packet → ℕ
packet_weight (message m) = body_weight 5 2 m.body
packet_weight mark = 2

-- an arrived item: a request weighs 4; a reply, a goodbye or a mark 1
abbrev pub item_weight : Item → ℕ
item_weight (item.Message m sync level) = body_weight 4 1 m.body
item_weight item.Broken = 1

-- the weight of a reply that is still to be sent, if any
abbrev pub owed : Bool → ℕ
owed owes = cond owes 2 0

-- A frame of a stack. A dispatch weighs 1, and 2 more for each of the reply to a sync request and its resolver. A
-- wait weighs 1, answered or not.
abbrev pub frame_weight : Bool → StackFrame → ℕ
frame_weight resolves (Dispatch head) = 1 + (owed head.sync + owed resolves)
frame_weight resolves (Wait head answer) = 1

abbrev pub entry_weight : StackEntry → ℕ
entry_weight entry = frame_weight entry.resolves entry.frame

-- the weights of all elements of a list together
abbrev pub total : {A : Type 0} → (A → ℕ) → List A → ℕ
total weigh [] = 0
total weigh (x ∷ xs) = weigh x + total weigh xs

-- the weight of an end; a request in its outbox weighs 6
abbrev pub end_weight : End → ℕ
end_weight e = 6 * length e.outbox + (total item_weight e.arrived + total entry_weight e.stack)

-- the weight of the link toward an end of a state: nothing more comes to an end that is not open
abbrev pub link_weight : EndState → List Packet → ℕ
link_weight state link = cond (is_open state) (total packet_weight link) 0

-- the weight of a world: both ends, and the link toward each
abbrev pub weight : World → ℕ
weight w = (end_weight w.parent + link_weight w.parent.state w.to_parent) + (end_weight w.child + link_weight w.child.state w.to_child)

-- the weight of the content of a name: an actor weighs nothing, and a resolver the given amount
abbrev pub content_weight : ℕ → NameContent → ℕ
content_weight kept (actor id) = 0
content_weight kept (resolver r) = kept

abbrev pub naming_weight : ℕ → Naming → ℕ
naming_weight kept naming = content_weight kept naming.holds

-- the weight of the kept resolvers of an end: each weighs 2, for the reply that is sent when it is used or destroyed
abbrev pub kept_weight : End → ℕ
kept_weight e = total (naming_weight 2) e.names

-- The full weight of a world counts kept resolvers too. Only acts use these, so they may be left when nothing more
-- happens by itself.
abbrev pub full_weight : World → ℕ
full_weight w = weight w + (kept_weight w.parent + kept_weight w.child)
