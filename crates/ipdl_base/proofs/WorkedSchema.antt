-- The schema of a worked program is sound: a manager and the protocol that it manages, a struct and a union.
use Rattle.std.proofs.Common.{◌≡◌, ◌≢◌, ℕ, zero, suc, inl, inr, ◌<◌, Bool, true, false, ◌==◌, ◌&&◌, Option, Some, None, List, [], ◌∷◌, length, ◌+◌, ◌*◌, codes, refl, sym, ap, subst, ◌∙◌, eq-eqb, arith}
use Rattle.std.specs.List.{slice_get, All, AllByRecursion, AllPairs, Any, Contains}
use Rattle.std.specs.Option.{IfSome, IsSomeAnd}
use Rattle.std.proofs.lemmas.Bool.{true≢false}
use Rattle.std.proofs.lemmas.Option.{same_Some}
use Rattle.std.proofs.lemmas.List.Elements.{All-nil, All-from_recursion, All-contains}
use Rattle.ipdl_base.specs.Plain.{one_box}
use Rattle.ipdl_base.specs.Builtins.{is_carried}
use Rattle.ipdl_base.specs.Words.{IsWord, short_name}
use Rattle.ipdl_base.specs.Sound.{IsKindOf, MentionsUncarried, IsDefined, IsInRange, IsFieldInRange, IsTypeInRange, MessageMentionsUncarried, IsNamed, IsSoundMessage, IsSoundProtocol, IsSound}
use Rattle.ipdl_base.specs.Sound.{builtin, in_array, in_maybe, in_struct, in_union, actor, struct, union}
use Rattle.ipdl_base.specs.declared.builtin.Builtin.TheVariants as word
use Rattle.ipdl_base.specs.declared.kinds.Level.TheVariants as level
use Rattle.ipdl_base.specs.declared.kinds.Semantics.{Semantics}
use Rattle.ipdl_base.specs.declared.kinds.Semantics.TheVariants.{Async, Sync}
use Rattle.ipdl_base.specs.declared.kinds.Direction.{Direction}
use Rattle.ipdl_base.specs.declared.kinds.Direction.TheVariants as direction
use Rattle.ipdl_base.specs.declared.kinds.Compress.TheVariants as compress
use Rattle.ipdl_base.specs.declared.schema.Kind.{Kind}
use Rattle.ipdl_base.specs.declared.schema.Kind.TheVariants.{Normal, Constructor, Delete}
use Rattle.ipdl_base.specs.declared.schema.Schema.{Schema}
use Rattle.ipdl_base.specs.declared.schema.Shape.{Shape, Builtin, Using, Actor, Named, Array', Maybe'}
use Rattle.ipdl_base.specs.declared.schema.ProtocolRow.{ProtocolRow}
use Rattle.ipdl_base.specs.declared.schema.MessageRow.{MessageRow}
use Rattle.ipdl_base.specs.declared.schema.ParamRow.{ParamRow}
use Rattle.ipdl_base.specs.declared.schema.TypeRow.{TypeRow}
use Rattle.ipdl_base.specs.declared.schema.TypeRow.TheVariants.{Struct, Union}

abbrev pub param : List ℕ → Shape → ParamRow
param name shape = record { name = name; shape = shape }

-- a message of level not, neither compressed nor lazy
abbrev pub message : ℕ → List ℕ → Direction → Semantics → Kind → List ParamRow → Option (List ParamRow) → MessageRow
message number name direction semantics kind params returns =
    record { number = number; name = name; direction = direction; semantics = semantics; level = level.Not; compress = compress.Plain; kind = kind; params = params; returns = returns; carried = true; lazy = false }

abbrev pub hello : MessageRow
hello = message 0 (codes "Hello") direction.Both Async Normal (param (codes "aCount") (Maybe' one_box (Builtin word.Int32)) ∷ []) (Some (param (codes "aOk") (Builtin word.Bool) ∷ []))

abbrev pub delete : MessageRow
delete = message 2 (codes "__delete__") direction.Parent Async Delete [] None

abbrev pub construct : MessageRow
construct = message 65536 (codes "PMyManaged") direction.Parent Async (Constructor 0) [] None

abbrev pub look_up : MessageRow
look_up = message 65538 (codes "Lookup") direction.Parent Sync Normal (param (codes "aKey") (Builtin word.NsString) ∷ []) (Some (param (codes "aFound") (Named 1) ∷ []))

abbrev pub note : MessageRow
note = message 65540 (codes "Note") direction.Child Async Normal (param (codes "aPair") (Named 0) ∷ param (codes "aActor") (Actor 0 true) ∷ param (codes "aData") (Using (codes "mozilla::MyData")) ∷ []) None

abbrev pub managed : List MessageRow → ProtocolRow
managed messages = record { name = codes "mozilla::PMyManaged"; semantics = Async; level = level.Not; managers = 1 ∷ []; manages = []; messages = messages }

abbrev pub manager : List MessageRow → ProtocolRow
manager messages = record { name = codes "mozilla::PMyManager"; semantics = Sync; level = level.Not; managers = []; manages = 0 ∷ []; messages = messages }

abbrev pub pair_fields : List ParamRow
pair_fields = param (codes "first") (Builtin word.Int32) ∷ param (codes "owner") (Actor 0 false) ∷ []

abbrev pub union_components : List Shape
union_components = Builtin word.Float ∷ Array' one_box (Builtin word.NsString) ∷ Named 0 ∷ []

abbrev pub types : List TypeRow
types = Struct (codes "mozilla::MyPair") pair_fields ∷ Union (codes "mozilla::MyUnion") union_components ∷ []

abbrev pub worked : Schema
worked = record { protocols = managed (hello ∷ delete ∷ []) ∷ manager (construct ∷ look_up ∷ note ∷ []) ∷ []; types = types }

-- texts that a test of their bytes tells apart are not the same
abbrev is_same_text : List ℕ → List ℕ → Bool
is_same_text [] [] = true
is_same_text [] (y ∷ ys) = false
is_same_text (x ∷ xs) [] = false
is_same_text (x ∷ xs) (y ∷ ys) = (x == y) && is_same_text xs ys

same_text : (xs : List ℕ) → is_same_text xs xs ≡ true
same_text [] = refl
same_text (x ∷ xs) = rw (eq-eqb x x refl) (same_text xs)

pub differ : (xs ys : List ℕ) → is_same_text xs ys ≡ false → xs ≢ ys
differ xs ys h e = true≢false (sym (same_text xs) ∙ ap (is_same_text xs) e ∙ h)

-- what holds of each parameter
pub params_are : (P : ParamRow → Type 0) (params : List ParamRow) → AllByRecursion P params → All P params
params_are P params h = All-from_recursion P params h

abbrev InRange : ParamRow → Type 0
InRange = IsFieldInRange 2 2

-- What mentions a type that is not carried: such a builtin, an endpoint, or what is made of one that does.
pub no_builtin : {types : List TypeRow} (b : _) → is_carried b ≡ true → ¬ MentionsUncarried types (Builtin b)
no_builtin b h (builtin k) = true≢false (sym h ∙ k)

no_maybe : {types : List TypeRow} {at : _} {s : Shape} → ¬ MentionsUncarried types s → ¬ MentionsUncarried types (Maybe' at s)
no_maybe h (in_maybe k) = h k

no_array : {types : List TypeRow} {at : _} {s : Shape} → ¬ MentionsUncarried types s → ¬ MentionsUncarried types (Array' at s)
no_array h (in_array k) = h k

no_actor : {types : List TypeRow} {p : _} {nullable : _} → ¬ MentionsUncarried types (Actor p nullable)
no_actor h = elim h [ ]

no_using : {types : List TypeRow} {name : _} → ¬ MentionsUncarried types (Using name)
no_using h = elim h [ ]

no_struct : {types : List TypeRow} {t : ℕ} (name : List ℕ) (fields : List ParamRow) → slice_get types t ≡ Some (Struct name fields) → All (λ f. ¬ MentionsUncarried types f.shape) fields → ¬ MentionsUncarried types (Named t)
no_struct {types = types} name fields is none (in_struct name' fields' field is' among m) =
    let same : fields' ≡ fields = cc in
    All-contains (λ (f : ParamRow). ¬ MentionsUncarried types f.shape) fields field none (subst (λ (fs : List ParamRow). Contains fs field) same among) m
no_struct name fields is none (in_union name' components component is' among m) = cc

no_union : {types : List TypeRow} {t : ℕ} (name : List ℕ) (components : List Shape) → slice_get types t ≡ Some (Union name components) → All (λ s. ¬ MentionsUncarried types s) components → ¬ MentionsUncarried types (Named t)
no_union name components is none (in_struct name' fields' field is' among m) = cc
no_union {types = types} name components is none (in_union name' components' component is' among m) =
    let same : components' ≡ components = cc in
    All-contains (λ (s : Shape). ¬ MentionsUncarried types s) components component none (subst (λ (cs : List Shape). Contains cs component) same among) m

no_any : (types : List TypeRow) (params : List ParamRow) → All (λ p. ¬ MentionsUncarried types p.shape) params → ¬ Any (λ p. MentionsUncarried types p.shape) params
no_any types params none (k, param, low, is, m) = none k param low (subst (λ (p : ParamRow). MentionsUncarried types p.shape) (sym is) m)

none_of : (rows : List TypeRow) (returns : Option (List ParamRow)) → IfSome returns (λ ps. All (λ p. ¬ MentionsUncarried rows p.shape) ps) → ¬ IsSomeAnd returns (λ ps. Any (λ p. MentionsUncarried rows p.shape) ps)
none_of rows None none m = m
none_of rows (Some returns) none m = no_any rows returns none m

abbrev pub IsCarried : ParamRow → Type 0
IsCarried param = ¬ MentionsUncarried types param.shape

-- so a message of carried types mentions none
pub carried : (row : MessageRow) → All (λ p. ¬ MentionsUncarried types p.shape) row.params → IfSome row.returns (λ ps. All (λ p. ¬ MentionsUncarried types p.shape) ps) → ¬ MessageMentionsUncarried types row
carried row params returns (inl m) = no_any types row.params params m
carried row params returns (inr m) = none_of types row.returns returns m

pair_carried : ¬ MentionsUncarried types (Named 0)
pair_carried = no_struct (codes "mozilla::MyPair") pair_fields refl (params_are IsCarried pair_fields (no_builtin word.Int32 refl, (no_actor, tt)))

union_carried : ¬ MentionsUncarried types (Named 1)
union_carried = no_union (codes "mozilla::MyUnion") union_components refl (All-from_recursion (λ (s : Shape). ¬ MentionsUncarried types s) union_components (no_builtin word.Float refl, (no_array (no_builtin word.NsString refl), (pair_carried, tt))))

-- the manager manages the other protocol alone
only_managed : (p : ℕ) → Contains (0 ∷ []) p → p ≡ 0
only_managed p among = All-contains (λ (q : ℕ). q ≡ 0) (0 ∷ []) p (All-from_recursion (λ (q : ℕ). q ≡ 0) (0 ∷ []) (refl, tt)) among

-- a name that is not that of the managed protocol constructs nothing
no_constructor : (protocols : List ProtocolRow) (name : List ℕ) → ¬ IsNamed protocols 0 name → (p : ℕ) → Contains (0 ∷ []) p → ¬ IsNamed protocols p name
no_constructor protocols name none p among = subst (λ (q : ℕ). ¬ IsNamed protocols q name) (sym (only_managed p among)) none

-- a normal message of level not, neither compressed nor lazy, is sound where these parts are
normal_message : (schema : Schema) (p : ℕ) (protocol : ProtocolRow) (i number : ℕ) (name : List ℕ) (receiver : Direction) (semantics : Semantics) (params : List ParamRow) (returns : Option (List ParamRow))
    → number ≡ p * 65536 + 2 * i → IsWord name → All (IsFieldInRange (length schema.protocols) (length schema.types)) params
    → IfSome returns (λ rs. All (IsFieldInRange (length schema.protocols) (length schema.types)) rs) → IsKindOf schema.protocols protocol name Normal
    → ¬ MessageMentionsUncarried schema.types (message number name receiver semantics Normal params returns) → (semantics ≡ Sync → receiver ≡ direction.Parent)
    → IsSoundMessage schema p protocol i (message number name receiver semantics Normal params returns)
normal_message schema p protocol i number name receiver semantics params returns is_number word in_range returned kind none from_the_child = record {
  number = is_number;
  name = word;
  params = in_range;
  returns = returned;
  kind = kind;
  carried = ((λ t. none), λ n. refl);
  plain_sync = λ s l. from_the_child s;
  inside_sync = λ l. cc;
  inside_cpow = λ l. cc;
  compressed = λ ne. absurd (ne refl);
  lazy = λ l. cc;
  delete = λ k. cc;
  constructor = λ made k s. cc;
}

sound_hello : IsSoundMessage worked 0 (managed (hello ∷ delete ∷ [])) 0 hello
sound_hello =
    normal_message worked 0 (managed (hello ∷ delete ∷ [])) 0 hello.number hello.name direction.Both Async hello.params hello.returns refl refl
    (params_are InRange hello.params (tt, tt)) (params_are InRange (param (codes "aOk") (Builtin word.Bool) ∷ []) (tt, tt))
    (differ (codes "Hello") (codes "__delete__") refl, λ p among. absurd (omega (arith, among.1)))
    (carried hello (params_are IsCarried hello.params (no_maybe (no_builtin word.Int32 refl), tt)) (params_are IsCarried (param (codes "aOk") (Builtin word.Bool) ∷ []) (no_builtin word.Bool refl, tt)))
    (λ s. cc)

sound_delete : IsSoundMessage worked 0 (managed (hello ∷ delete ∷ [])) 1 delete
sound_delete = record {
  number = refl;
  name = refl;
  params = All-nil _;
  returns = tt;
  kind = refl;
  carried = ((λ t. carried delete (All-nil _) tt), λ none. refl);
  plain_sync = λ s l. cc;
  inside_sync = λ l. cc;
  inside_cpow = λ l. cc;
  compressed = λ ne. absurd (ne refl);
  lazy = λ l. cc;
  delete = λ k. (refl, refl);
  constructor = λ made k s. cc;
}

sound_construct : IsSoundMessage worked 1 (manager (construct ∷ look_up ∷ note ∷ [])) 0 construct
sound_construct = record {
  number = refl;
  name = refl;
  params = All-nil _;
  returns = tt;
  kind = (differ (codes "PMyManaged") (codes "__delete__") refl, (0, omega arith, refl), refl);
  carried = ((λ t. carried construct (All-nil _) tt), λ none. refl);
  plain_sync = λ s l. cc;
  inside_sync = λ l. cc;
  inside_cpow = λ l. cc;
  compressed = λ ne. absurd (ne refl);
  lazy = λ l. cc;
  delete = λ k. cc;
  constructor = λ made k s. refl;
}

sound_look_up : IsSoundMessage worked 1 (manager (construct ∷ look_up ∷ note ∷ [])) 1 look_up
sound_look_up =
    normal_message worked 1 (manager (construct ∷ look_up ∷ note ∷ [])) 1 look_up.number look_up.name direction.Parent Sync look_up.params look_up.returns refl refl
    (params_are InRange look_up.params (tt, tt)) (params_are InRange (param (codes "aFound") (Named 1) ∷ []) (omega arith, tt))
    (differ (codes "Lookup") (codes "__delete__") refl, no_constructor worked.protocols (codes "Lookup") (differ (codes "PMyManaged") (codes "Lookup") refl))
    (carried look_up (params_are IsCarried look_up.params (no_builtin word.NsString refl, tt)) (params_are IsCarried (param (codes "aFound") (Named 1) ∷ []) (union_carried, tt)))
    (λ s. refl)

sound_note : IsSoundMessage worked 1 (manager (construct ∷ look_up ∷ note ∷ [])) 2 note
sound_note =
    normal_message worked 1 (manager (construct ∷ look_up ∷ note ∷ [])) 2 note.number note.name direction.Child Async note.params note.returns refl refl
    (params_are InRange note.params (omega arith, (omega arith, (tt, tt)))) tt
    (differ (codes "Note") (codes "__delete__") refl, no_constructor worked.protocols (codes "Note") (differ (codes "PMyManaged") (codes "Note") refl))
    (carried note (params_are IsCarried note.params (pair_carried, (no_actor, (no_using, tt)))) tt)
    (λ s. cc)

managed_messages : (i : ℕ) (row : MessageRow) → slice_get (hello ∷ delete ∷ []) i ≡ Some row → IsSoundMessage worked 0 (managed (hello ∷ delete ∷ [])) i row
managed_messages zero row e = subst (IsSoundMessage worked 0 (managed (hello ∷ delete ∷ [])) 0) (same_Some _ _ e) sound_hello
managed_messages (suc zero) row e = subst (IsSoundMessage worked 0 (managed (hello ∷ delete ∷ [])) 1) (same_Some _ _ e) sound_delete
managed_messages (suc (suc i)) row e = cc

manager_messages : (i : ℕ) (row : MessageRow) → slice_get (construct ∷ look_up ∷ note ∷ []) i ≡ Some row → IsSoundMessage worked 1 (manager (construct ∷ look_up ∷ note ∷ [])) i row
manager_messages zero row e = subst (IsSoundMessage worked 1 (manager (construct ∷ look_up ∷ note ∷ [])) 0) (same_Some _ _ e) sound_construct
manager_messages (suc zero) row e = subst (IsSoundMessage worked 1 (manager (construct ∷ look_up ∷ note ∷ [])) 1) (same_Some _ _ e) sound_look_up
manager_messages (suc (suc zero)) row e = subst (IsSoundMessage worked 1 (manager (construct ∷ look_up ∷ note ∷ [])) 2) (same_Some _ _ e) sound_note
manager_messages (suc (suc (suc i))) row e = cc

managed_distinct : AllPairs (λ a b. a.name ≢ b.name) (hello ∷ delete ∷ [])
managed_distinct zero zero d lt low = absurd (omega arith)
managed_distinct zero (suc zero) d lt low = differ (codes "Hello") (codes "__delete__") refl
managed_distinct zero (suc (suc j)) d lt low = absurd (omega arith)
managed_distinct (suc i) j d lt low = absurd (omega arith)

manager_distinct : AllPairs (λ a b. a.name ≢ b.name) (construct ∷ look_up ∷ note ∷ [])
manager_distinct zero zero d lt low = absurd (omega arith)
manager_distinct zero (suc zero) d lt low = differ (codes "PMyManaged") (codes "Lookup") refl
manager_distinct zero (suc (suc zero)) d lt low = differ (codes "PMyManaged") (codes "Note") refl
manager_distinct zero (suc (suc (suc j))) d lt low = absurd (omega arith)
manager_distinct (suc zero) zero d lt low = absurd (omega arith)
manager_distinct (suc zero) (suc zero) d lt low = absurd (omega arith)
manager_distinct (suc zero) (suc (suc zero)) d lt low = differ (codes "Lookup") (codes "Note") refl
manager_distinct (suc zero) (suc (suc (suc j))) d lt low = absurd (omega arith)
manager_distinct (suc (suc i)) j d lt low = absurd (omega arith)

sound_managed : IsSoundProtocol worked 0 (managed (hello ∷ delete ∷ []))
sound_managed = record {
  name = (codes "mozilla", codes "PMyManaged" ∷ [], (refl, (refl, tt)), refl);
  managers = All-from_recursion (λ (m : ℕ). m < 2) (1 ∷ []) (omega arith, tt);
  manages = All-nil _;
  few = omega arith;
  messages = managed_messages;
  distinct = managed_distinct;
}

sound_manager : IsSoundProtocol worked 1 (manager (construct ∷ look_up ∷ note ∷ []))
sound_manager = record {
  name = (codes "mozilla", codes "PMyManager" ∷ [], (refl, (refl, tt)), refl);
  managers = All-nil _;
  manages = All-from_recursion (λ (m : ℕ). m < 2) (0 ∷ []) (omega arith, tt);
  few = omega arith;
  messages = manager_messages;
  distinct = manager_distinct;
}

sound_protocols : (p : ℕ) (row : ProtocolRow) → slice_get worked.protocols p ≡ Some row → IsSoundProtocol worked p row
sound_protocols zero row e = subst (IsSoundProtocol worked 0) (same_Some _ _ e) sound_managed
sound_protocols (suc zero) row e = subst (IsSoundProtocol worked 1) (same_Some _ _ e) sound_manager
sound_protocols (suc (suc p)) row e = cc

distinct_protocols : AllPairs (λ a b. short_name a.name ≢ short_name b.name) worked.protocols
distinct_protocols zero zero d lt low = absurd (omega arith)
distinct_protocols zero (suc zero) d lt low = differ (codes "PMyManaged") (codes "PMyManager") refl
distinct_protocols zero (suc (suc j)) d lt low = absurd (omega arith)
distinct_protocols (suc i) j d lt low = absurd (omega arith)

fields_defined : All (λ f. IsDefined types f.shape) pair_fields
fields_defined = params_are (λ f. IsDefined types f.shape) pair_fields (builtin, (actor, tt))

-- a struct is defined by all its fields, a union by its first component
types_defined : (t : ℕ) → t < 2 → IsDefined types (Named t)
types_defined zero low = struct (codes "mozilla::MyPair") pair_fields refl (λ field among. All-contains (λ (f : ParamRow). IsDefined types f.shape) pair_fields field fields_defined among)
types_defined (suc zero) low = union (codes "mozilla::MyUnion") union_components (Builtin word.Float) refl (0, omega arith, refl) builtin
types_defined (suc (suc t)) low = absurd (omega arith)

-- The worked schema is sound.
pub worked_sound : IsSound worked
worked_sound = record {
  few = omega arith;
  protocols = sound_protocols;
  types = All-from_recursion (IsTypeInRange 2 2) types (params_are InRange pair_fields (tt, (omega arith, tt)), (All-from_recursion (IsInRange 2 2) union_components (tt, (tt, (omega arith, tt))), tt));
  defined = types_defined;
  distinct = distinct_protocols;
}
