-- Pending promises: from where the answer to each can still come.
use Rattle.std.specs.Prelude.{◌≡◌, ℕ, ◌+◌, Bool, true, List}
use Rattle.ipdl_base.specs.declared.kinds.EndState.TheVariants.{Open}
use Rattle.ipdl_base.specs.declared.kinds.Level.{Level}
use Rattle.ipdl_base.specs.declared.kinds.Side.{Side}
use Rattle.ipdl_base.specs.declared.message.Body.TheVariants.{Request}
use Rattle.ipdl_base.specs.declared.message.Message.{Message}
use Rattle.ipdl_base.specs.declared.schema.Schema.{Schema}
use Rattle.ipdl_base.specs.declared.value.Values.{Values}
use Rattle.ipdl_base.specs.Sound.{IsSound}
use Rattle.nesting_core.specs.declared.frame.Answer.{Answer}
use Rattle.pending_queue.specs.declared.item.Item.{Item}
use Rattle.pending_queue.specs.declared.item.Item.TheVariants as item
use Rattle.promise_table.specs.Promises.{is_pending}
use Rattle.channel_model.specs.Answers.{has_resolver, resolver_in}
use Rattle.channel_model.specs.Ends.{End, Packet, message, StackEntry, PromiseEntry, Naming, resolver, Resolver, end_of, link_to}
use Rattle.channel_model.specs.Events.{Move}
use Rattle.ipdl_base.specs.Sides.{other}
use Rattle.channel_model.specs.Outputs.{body_of}
use Rattle.channel_model.specs.Runs.{is_still}
use Rattle.channel_laws.specs.AnswersOnce.{names_resolver}
use Rattle.channel_laws.specs.Counts.{how_many}
use Rattle.channel_laws.specs.Laws.{world_of}
use Rattle.channel_laws.specs.Notes.{In}

-- the resolver that answers a promise; the request of the promise brings it to the other end
abbrev pub resolver_for : PromiseEntry → Resolver
resolver_for entry = record { seq = entry.promise.seq; route = entry.promise.actor; number = entry.number }

-- A message is the request that brings a resolver.
pub record BringsResolver (r : Resolver) (m : Message) : Type 0 where
  pub values : Values
  pub body : m.body ≡ Request values
  pub seq : m.seq ≡ r.seq
  pub route : m.route ≡ r.route
  pub number : m.number ≡ r.number

-- A message is the answer of a resolver.
pub record AnswersFor (r : Resolver) (m : Message) : Type 0 where
  pub answer : Answer
  pub body : m.body ≡ body_of answer
  pub seq : m.seq ≡ r.seq
  pub route : m.route ≡ r.route
  pub number : m.number ≡ r.number + 1

-- An end may still answer by a resolver: the request that brings it has arrived, its handler has it, or a name is for
-- it.
pub data MayAnswer (arrived : List Item) (stack : List StackEntry) (names : List Naming) (r : Resolver) : Type 0 where
  has_arrived : (m : Message) (sync : Bool) (level : Level) → In (item.Message m sync level) arrived → BringsResolver r m → MayAnswer arrived stack names r
  is_handled : (entry : StackEntry) → In entry stack → has_resolver r.seq entry ≡ true → resolver_in entry ≡ r → MayAnswer arrived stack names r
  is_kept : (naming : Naming) → In naming names → naming.holds ≡ resolver r → MayAnswer arrived stack names r

-- An answer that the first end waits for is pending: its request is in the outbox or on the link to the other end,
-- the other end may answer it, or the answer is on the link back or has arrived.
pub data IsUnderWay (mine theirs : End) (to_me to_them : List Packet) (r : Resolver) : Type 0 where
  is_kept_back : (m : Message) → In m mine.outbox → BringsResolver r m → IsUnderWay mine theirs to_me to_them r
  goes_there : (m : Message) → In (message m) to_them → BringsResolver r m → IsUnderWay mine theirs to_me to_them r
  is_there : MayAnswer theirs.arrived theirs.stack theirs.names r → IsUnderWay mine theirs to_me to_them r
  comes_back : (m : Message) → In (message m) to_me → AnswersFor r m → IsUnderWay mine theirs to_me to_them r
  is_back : (m : Message) (sync : Bool) (level : Level) → In (item.Message m sync level) mine.arrived → AnswersFor r m → IsUnderWay mine theirs to_me to_them r

-- In every run, while both ends are open, the answer to each pending promise can still come.
abbrev pub PromisesAreUnderWay : Type 0
PromisesAreUnderWay =
    (schema : Schema) → IsSound schema → (top : ℕ) (moves : List Move) (side : Side) (entry : PromiseEntry)
    → (end_of side (world_of schema top moves)).state ≡ Open → (end_of (other side) (world_of schema top moves)).state ≡ Open
    → In entry (end_of side (world_of schema top moves)).promises → is_pending entry.promise ≡ true
    → IsUnderWay (end_of side (world_of schema top moves)) (end_of (other side) (world_of schema top moves)) (link_to side (world_of schema top moves)) (link_to (other side) (world_of schema top moves)) (resolver_for entry)

-- Exactly one of these names is for a resolver.
pub record IsKeptOnce (names : List Naming) (r : Resolver) : Type 0 where
  pub naming : Naming
  pub kept : In naming names
  pub holds : naming.holds ≡ resolver r
  pub once : how_many (names_resolver r.seq) names ≡ 1

-- In a still world the other end keeps the resolver of each pending promise of an open end, under exactly one name.
abbrev pub StillPromisesAreKept : Type 0
StillPromisesAreKept =
    (schema : Schema) → IsSound schema → (top : ℕ) (moves : List Move) (side : Side) (entry : PromiseEntry)
    → is_still schema (world_of schema top moves) ≡ true → (end_of side (world_of schema top moves)).state ≡ Open
    → In entry (end_of side (world_of schema top moves)).promises → is_pending entry.promise ≡ true
    → IsKeptOnce (end_of (other side) (world_of schema top moves)).names (resolver_for entry)
