-- Sound schemas: what the rules demand of the tables of a program.
use Rattle.std.specs.Prelude.{◌≡◌, ◌≢◌, ℕ, ◌+◌, ◌*◌, ◌<◌, ◌≤◌, ◌↔◌, ◌⊎◌, Bool, true, false, ◌&&◌, ◌||◌, ◌==◌, IsTrue, is_some, List, length, slice_get, codes, Option, Some, None, IfSome, IsSomeAnd}
use Rattle.std.specs.List.{All, Any, AllPairs, Contains, flat_map, find}
use Rattle.ipdl_base.specs.declared.kinds.Level.TheVariants as level
use Rattle.ipdl_base.specs.declared.kinds.Semantics.{Semantics}
use Rattle.ipdl_base.specs.declared.kinds.Semantics.TheVariants.{Async, Sync}
use Rattle.ipdl_base.specs.declared.kinds.Direction.TheVariants as direction
use Rattle.ipdl_base.specs.declared.kinds.Compress.TheVariants as compress
use Rattle.ipdl_base.specs.declared.schema.Schema.{Schema}
use Rattle.ipdl_base.specs.declared.schema.ProtocolRow.{ProtocolRow}
use Rattle.ipdl_base.specs.declared.schema.MessageRow.{MessageRow}
use Rattle.ipdl_base.specs.declared.schema.ParamRow.{ParamRow}
use Rattle.ipdl_base.specs.declared.schema.TypeRow.{TypeRow}
use Rattle.ipdl_base.specs.declared.schema.TypeRow.TheVariants.{Struct, Union}
use Rattle.ipdl_base.specs.declared.schema.Kind.{Kind}
use Rattle.ipdl_base.specs.declared.schema.Kind.TheVariants.{Normal, Constructor, Delete}
use Rattle.ipdl_base.specs.declared.schema.Shape.{Shape, Builtin, Using, Actor, Named, Array', Maybe', Unique', Endpoint}
use Rattle.ipdl_base.specs.Builtins.{is_carried}
use Rattle.ipdl_base.specs.Words.{IsWord, IsFullName, short_name}

-- the protocol and type numbers of a shape are below the counts
abbrev pub IsInRange : ℕ → ℕ → Shape → Type 0
IsInRange protocols types (Builtin b) = Unit {0}
IsInRange protocols types (Using name) = Unit {0}
IsInRange protocols types (Actor p nullable) = p < protocols
IsInRange protocols types (Named t) = t < types
IsInRange protocols types (Array' _ s) = IsInRange protocols types s
IsInRange protocols types (Maybe' _ s) = IsInRange protocols types s
IsInRange protocols types (Unique' _ s) = IsInRange protocols types s
IsInRange protocols types (Endpoint p managed) = p < protocols

abbrev pub IsFieldInRange : ℕ → ℕ → ParamRow → Type 0
IsFieldInRange protocols types field = IsInRange protocols types field.shape

-- the numbers in a struct's fields or a union's components are below the counts
abbrev pub IsTypeInRange : ℕ → ℕ → TypeRow → Type 0
IsTypeInRange protocols types (Struct name fields) = All (IsFieldInRange protocols types) fields
IsTypeInRange protocols types (Union name components) = All (IsInRange protocols types) components

-- A shape mentions a type that is not carried, perhaps through named types.
pub data MentionsUncarried (types : List TypeRow) : Shape → Type 0 where
  builtin : {b : _} → is_carried b ≡ false → MentionsUncarried types (Builtin b)
  endpoint : {p : _} {managed : _} → MentionsUncarried types (Endpoint p managed)
  in_array : {at : _} {s : _} → MentionsUncarried types s → MentionsUncarried types (Array' at s)
  in_maybe : {at : _} {s : _} → MentionsUncarried types s → MentionsUncarried types (Maybe' at s)
  in_unique : {at : _} {s : _} → MentionsUncarried types s → MentionsUncarried types (Unique' at s)
  in_struct : {t : ℕ} (name : List ℕ) (fields : List ParamRow) (field : ParamRow) → slice_get types t ≡ Some (Struct name fields) → Contains fields field → MentionsUncarried types field.shape → MentionsUncarried types (Named t)
  in_union : {t : ℕ} (name : List ℕ) (components : List Shape) (component : Shape) → slice_get types t ≡ Some (Union name components) → Contains components component → MentionsUncarried types component → MentionsUncarried types (Named t)

-- A shape is defined: it has a finite derivation. A struct is defined if all its fields are, a union if one component is.
pub data IsDefined (types : List TypeRow) : Shape → Type 0 where
  builtin : {b : _} → IsDefined types (Builtin b)
  using_type : {name : _} → IsDefined types (Using name)
  actor : {p : _} {nullable : _} → IsDefined types (Actor p nullable)
  endpoint : {p : _} {managed : _} → IsDefined types (Endpoint p managed)
  array : {at : _} {s : _} → IsDefined types s → IsDefined types (Array' at s)
  maybe : {at : _} {s : _} → IsDefined types s → IsDefined types (Maybe' at s)
  unique : {at : _} {s : _} → IsDefined types s → IsDefined types (Unique' at s)
  struct : {t : ℕ} (name : List ℕ) (fields : List ParamRow) → slice_get types t ≡ Some (Struct name fields) → ((field : ParamRow) → Contains fields field → IsDefined types field.shape) → IsDefined types (Named t)
  union : {t : ℕ} (name : List ℕ) (components : List Shape) (component : Shape) → slice_get types t ≡ Some (Union name components) → Contains components component → IsDefined types component → IsDefined types (Named t)

-- some of the parameters or returns mention a type that is not carried
abbrev pub MessageMentionsUncarried : List TypeRow → MessageRow → Type 0
MessageMentionsUncarried types message =
    Any (λ p. MentionsUncarried types p.shape) message.params ⊎ IsSomeAnd message.returns (λ returns. Any (λ p. MentionsUncarried types p.shape) returns)

-- there is a protocol of this number, and this is its short name
abbrev pub IsNamed : List ProtocolRow → ℕ → List ℕ → Type 0
IsNamed protocols p name = IsSomeAnd (slice_get protocols p) (λ protocol. short_name protocol.name ≡ name)

-- The kind of a message: `__delete__` is the destructor, and another with the name of a protocol that its protocol manages is the constructor of that.
abbrev pub IsKindOf : List ProtocolRow → ProtocolRow → List ℕ → Kind → Type 0
IsKindOf protocols protocol name Delete = name ≡ codes "__delete__"
IsKindOf protocols protocol name (Constructor p) = (name ≢ codes "__delete__") × Contains protocol.manages p × IsNamed protocols p name
IsKindOf protocols protocol name Normal = (name ≢ codes "__delete__") × ((p : ℕ) → Contains protocol.manages p → ¬ IsNamed protocols p name)

-- An async message that neither makes an actor nor destroys one.
abbrev pub IsPlainAsync : MessageRow → Type 0
IsPlainAsync message = (message.semantics ≡ Async) × (message.kind ≡ Normal)

-- The message at index i of the protocol of number p is as the rules of the language demand.
pub record IsSoundMessage (schema : Schema) (p : ℕ) (protocol : ProtocolRow) (i : ℕ) (message : MessageRow) : Type 0 where
  pub number : message.number ≡ p * 65536 + 2 * i
  pub name : IsWord message.name
  pub params : All (IsFieldInRange (length schema.protocols) (length schema.types)) message.params
  pub returns : IfSome message.returns (λ returns. All (IsFieldInRange (length schema.protocols) (length schema.types)) returns)
  pub kind : IsKindOf schema.protocols protocol message.name message.kind
  pub carried : IsTrue message.carried ↔ ¬ MessageMentionsUncarried schema.types message
  pub plain_sync : message.semantics ≡ Sync → message.level ≡ level.Not → message.direction ≡ direction.Parent
  pub inside_sync : message.level ≡ level.InsideSync → message.semantics ≡ Sync
  pub inside_cpow : message.level ≡ level.InsideCpow → message.direction ≡ direction.Parent
  pub compressed : message.compress ≢ compress.Plain → IsPlainAsync message
  pub lazy : IsTrue message.lazy → IsPlainAsync message
  pub delete : message.kind ≡ Delete → (message.semantics ≡ Async) × (message.returns ≡ None)
  pub constructor : (made : ℕ) → message.kind ≡ Constructor made → message.semantics ≡ Async → message.returns ≡ None

-- The protocol of number p is as the rules of the language demand.
pub record IsSoundProtocol (schema : Schema) (p : ℕ) (protocol : ProtocolRow) : Type 0 where
  pub name : IsFullName protocol.name
  pub managers : All (λ m. m < length schema.protocols) protocol.managers
  pub manages : All (λ m. m < length schema.protocols) protocol.manages
  pub few : length protocol.messages ≤ 32768
  pub messages : (i : ℕ) (message : MessageRow) → slice_get protocol.messages i ≡ Some message → IsSoundMessage schema p protocol i message
  pub distinct : AllPairs (λ a b. a.name ≢ b.name) protocol.messages

-- A sound schema: what the tables of a program with no findings are, and what every part that takes a schema rests on.
pub record IsSound (schema : Schema) : Type 0 where
  pub few : length schema.protocols ≤ 4096
  pub protocols : (p : ℕ) (protocol : ProtocolRow) → slice_get schema.protocols p ≡ Some protocol → IsSoundProtocol schema p protocol
  pub types : All (IsTypeInRange (length schema.protocols) (length schema.types)) schema.types
  pub defined : (t : ℕ) → t < length schema.types → IsDefined schema.types (Named t)
  pub distinct : AllPairs (λ a b. short_name a.name ≢ short_name b.name) schema.protocols

abbrev pub is_sync : Semantics → Bool
is_sync Sync = true
is_sync Async = false

-- a message has a reply: it is sync, or it has returns
abbrev pub has_reply : MessageRow → Bool
has_reply message = is_sync message.semantics || is_some message.returns

-- the number is that of the message's request, or of its reply where it has one
abbrev pub has_number : ℕ → MessageRow → Bool
has_number n message = (message.number == n) || (has_reply message && (message.number + 1 == n))

-- the first message whose request or reply has the number; in a sound schema it is the only one
abbrev pub message_of : Schema → ℕ → Option MessageRow
message_of schema n = find (has_number n) (flat_map (λ protocol. protocol.messages) schema.protocols)
