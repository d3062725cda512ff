-- What an end knows of actors: who lives, and which ids are taken.
use Rattle.std.specs.Prelude.{◌≡◌, ◌≢◌, ℕ, ◌≤◌, ℤ, Bool, true, false, ◌&&◌, ◌⊎◌, if◌then◌else◌, List, [], ◌∷◌, None}
use Rattle.std.specs.List.{AllByRecursion, flat_map}
use Rattle.std.specs.Option.{option_map_or}
use Rattle.actor_tree.specs.declared.actor.Actor.{Actor}
use Rattle.actor_tree.specs.Tree.{lives, IsTree}
use Rattle.ipdl_base.specs.declared.kinds.Side.{Side}
use Rattle.ipdl_base.specs.declared.schema.Schema.{Schema}
use Rattle.ipdl_base.specs.Sound.{message_of}
use Rattle.pending_queue.specs.declared.item.Item.{Item}
use Rattle.pending_queue.specs.declared.item.Item.TheVariants as item
use Rattle.pending_queue.specs.Compression.{is_request}
use Rattle.channel_model.specs.Ends.{End, Packet}
use Rattle.channel_model.specs.Events.{Event}
use Rattle.channel_model.specs.Events as event
use Rattle.ipdl_base.specs.Sides.{other, top_id}
use Rattle.channel_model.specs.Numbers.{id_of, is_constructor}
use Rattle.channel_model.specs.Refusals.{packet_refusal}

-- whether a number is that of a constructor
abbrev pub constructs_by : Schema → ℕ → Bool
constructs_by schema number = option_map_or (λ row. is_constructor row.kind) (message_of schema number) false

-- the new id of a constructor that has arrived, in a list
abbrev pub new_ids_in : Schema → Item → List ℤ
new_ids_in schema item.Broken = []
new_ids_in schema (item.Message m sync level) = if is_request m.body && constructs_by schema m.number then m.made ∷ [] else []

abbrev pub new_ids : Schema → List Item → List ℤ
new_ids schema items = flat_map (new_ids_in schema) items

-- What decides which ids are taken at an end: its actors, its counts of constructors, and the new ids of the
-- constructors that have arrived.
pub record Ids : Type 0 where
  pub side : Side
  pub actors : List Actor
  pub sent : ℕ
  pub delivered : ℕ
  pub waiting : List ℤ

abbrev pub ids_of : Schema → End → Ids
ids_of schema e = record { side = e.side; actors = e.actors; sent = e.constructors_sent; delivered = e.constructors_delivered; waiting = new_ids schema e.arrived }

-- an id is that of one of the first n actors that a side constructs
abbrev pub IsIdOf : Side → ℕ → ℤ → Type 0
IsIdOf side n id = (k : ℕ) × (1 ≤ k) × (k ≤ n) × (id ≡ id_of side k)

-- an id is taken: by the top actor, or by one that a side has constructed
abbrev pub IsTaken : Ids → ℤ → Type 0
IsTaken ids id = (id ≡ top_id) ⊎ (IsIdOf ids.side ids.sent id ⊎ IsIdOf (other ids.side) ids.delivered id)

-- no two of them are the same
abbrev pub AreDistinct : List ℤ → Type 0
AreDistinct [] = Unit {0}
AreDistinct (id ∷ rest) = AllByRecursion (λ later. id ≢ later) rest × AreDistinct rest

-- a new id of the other side that has not been built yet
abbrev pub IsNew : Ids → ℤ → Type 0
IsNew ids id = IsIdOf (other ids.side) ids.delivered id × (lives id ids.actors ≡ false)

-- an actor with the id of the top actor is of the top protocol
abbrev pub IsTopOf : ℕ → Actor → Type 0
IsTopOf protocol a = a.id ≡ top_id → a.protocol ≡ protocol

-- The living actors are a tree below the top actor, each with an id that is taken. The constructors that have arrived
-- have ids that are taken, that no living actor has, and no two of which are the same.
pub record AreKnown (protocol : ℕ) (ids : Ids) : Type 0 where
  pub tree : IsTree ids.actors
  pub top : AllByRecursion (IsTopOf protocol) ids.actors
  pub taken : (id : ℤ) → lives id ids.actors ≡ true → IsTaken ids id
  pub waiting : AllByRecursion (IsNew ids) ids.waiting
  pub distinct : AreDistinct ids.waiting

-- the packet that is delivered, if any, is not refused
abbrev pub IsAccepted : Schema → End → List Packet → Event → Type 0
IsAccepted schema e [] event = Unit {0}
IsAccepted schema e (packet ∷ rest) event.deliver = packet_refusal schema e packet ≡ None
IsAccepted schema e (packet ∷ rest) _ = Unit {0}
