-- The requests that come from an end have its next numbers, and the constructors among them have its next ids.
use Rattle.std.specs.Prelude.{◌≡◌, ℕ, ◌+◌, true, List, [], ◌∷◌, ◌++◌, map, Some}
use Rattle.ipdl_base.specs.declared.kinds.Side.{Side}
use Rattle.ipdl_base.specs.declared.kinds.Side.TheVariants.{Parent, Child}
use Rattle.ipdl_base.specs.declared.message.Body.{Body}
use Rattle.ipdl_base.specs.declared.message.Body.TheVariants.{Request, Reply, Fault, Goodbye}
use Rattle.ipdl_base.specs.declared.message.Message.{Message}
use Rattle.ipdl_base.specs.declared.schema.MessageRow.{MessageRow}
use Rattle.ipdl_base.specs.declared.schema.Schema.{Schema}
use Rattle.ipdl_base.specs.Sound.{message_of}
use Rattle.channel_model.specs.Ends.{End, World, Packet, message, mark}
use Rattle.ipdl_base.specs.Sides.{sends}
use Rattle.channel_model.specs.Numbers.{seq_of, id_of, is_constructor, counting}
use Rattle.channel_model.specs.Outputs.{is_open}

-- A request is the one that a side sends after `count` requests and `constructors` constructors.
pub record IsNextRequest (schema : Schema) (side : Side) (m : Message) (count constructors : ℕ) : Type 0 where
  pub row : MessageRow
  pub found : message_of schema m.number ≡ Some row
  pub direction : sends side row.direction ≡ true
  pub seq_is : m.seq ≡ seq_of side (count + 1)
  pub made_is : is_constructor row.kind ≡ true → m.made ≡ id_of side (constructors + 1)

-- a request is the next one; what follows a message continues with the counts after it
abbrev pub BodyInOrder : Schema → Side → Message → Body → (ℕ → ℕ → Type 0) → ℕ → ℕ → Type 0
BodyInOrder schema side m (Request vs) goes_on count constructors = (next : IsNextRequest schema side m count constructors) × goes_on (count + 1) (counting next.row.kind constructors)
BodyInOrder schema side m (Reply vs) goes_on count constructors = goes_on count constructors
BodyInOrder schema side m (Fault reason) goes_on count constructors = goes_on count constructors
BodyInOrder schema side m Goodbye goes_on count constructors = goes_on count constructors

-- Packets that a side sends after `count` requests and `constructors` constructors: each request is the next, and the
-- counts end at `last` and `last_constructors`.
abbrev pub InOrder : Schema → Side → List Packet → ℕ → ℕ → ℕ → ℕ → Type 0
InOrder schema side [] last last_constructors count constructors = (count ≡ last) × (constructors ≡ last_constructors)
InOrder schema side (message m ∷ rest) last last_constructors count constructors = BodyInOrder schema side m m.body (InOrder schema side rest last last_constructors) count constructors
InOrder schema side (mark ∷ rest) last last_constructors count constructors = InOrder schema side rest last last_constructors count constructors

-- what is on the link from an end, and then what waits in its outbox
abbrev pub on_way : End → List Packet → List Packet
on_way sender link = link ++ map message sender.outbox

-- While an end is open, what is on the way to it continues what was delivered there, up to all that was sent.
abbrev pub ComesInOrder : Schema → Side → End → End → List Packet → Type 0
ComesInOrder schema side receiver sender link = is_open receiver.state ≡ true → InOrder schema side (on_way sender link) sender.sent sender.constructors_sent receiver.delivered receiver.constructors_delivered

-- Both directions between two ends, the first that of a side.
pub record EndsInOrder (schema : Schema) (side their_side : Side) (mine theirs : End) (to_me to_them : List Packet) : Type 0 where
  pub comes : ComesInOrder schema their_side mine theirs to_me
  pub goes : ComesInOrder schema side theirs mine to_them

-- Both directions of a world.
abbrev pub WorldInOrder : Schema → World → Type 0
WorldInOrder schema w = EndsInOrder schema Parent Child w.parent w.child w.to_parent w.to_child
