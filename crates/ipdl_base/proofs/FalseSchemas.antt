-- Neighbours of the worked schema that break one rule each are not sound.
use Rattle.std.proofs.Common.{◌≡◌, ◌≢◌, ℕ, inl, ◌<◌, ◌≤◌, true, false, Some, None, List, [], ◌∷◌, codes, length, refl, sym, subst, arith}
use Rattle.std.specs.List.{slice_get, Contains}
use Rattle.std.proofs.lemmas.Bool.{false≢true}
use Rattle.ipdl_base.specs.Sound.{IsDefined, IsSoundMessage, IsSound, builtin, struct, union}
use Rattle.ipdl_base.specs.declared.builtin.Builtin.TheVariants as word
use Rattle.ipdl_base.specs.declared.kinds.Level.TheVariants as level
use Rattle.ipdl_base.specs.declared.kinds.Semantics.TheVariants.{Async, Sync}
use Rattle.ipdl_base.specs.declared.kinds.Direction.TheVariants as direction
use Rattle.ipdl_base.specs.declared.kinds.Compress.TheVariants as compress
use Rattle.ipdl_base.specs.declared.schema.Kind.TheVariants.{Normal, Constructor, Delete}
use Rattle.ipdl_base.specs.declared.schema.Schema.{Schema}
use Rattle.ipdl_base.specs.declared.schema.Shape.{Builtin, Actor, Named}
use Rattle.ipdl_base.specs.declared.schema.ProtocolRow.{ProtocolRow}
use Rattle.ipdl_base.specs.declared.schema.MessageRow.{MessageRow}
use Rattle.ipdl_base.specs.declared.schema.ParamRow.{ParamRow}
use Rattle.ipdl_base.specs.declared.schema.TypeRow.{TypeRow}
use Rattle.ipdl_base.specs.declared.schema.TypeRow.TheVariants.{Struct, Union}
use Rattle.ipdl_base.proofs.WorkedSchema.{param, hello, delete, construct, look_up, note, managed, manager, worked, carried, params_are, IsCarried, no_builtin, differ}

-- the worked schema with these messages of the managed protocol, and with these of its manager
abbrev with_managed : List MessageRow → Schema
with_managed messages = record worked { protocols = managed messages ∷ manager (construct ∷ look_up ∷ note ∷ []) ∷ [] }

abbrev with_manager : List MessageRow → Schema
with_manager messages = record worked { protocols = managed (hello ∷ delete ∷ []) ∷ manager messages ∷ [] }

-- one with another last message of the manager, and what its soundness would say of that message
abbrev with_note : MessageRow → Schema
with_note row = with_manager (construct ∷ look_up ∷ row ∷ [])

of_note : (row : MessageRow) → IsSound (with_note row) → IsSoundMessage (with_note row) 1 (manager (construct ∷ look_up ∷ row ∷ [])) 2 row
of_note row sound = (sound.protocols 1 _ refl).messages 2 _ refl

-- one with another destructor, and what its soundness would say of that
abbrev with_delete : MessageRow → Schema
with_delete row = with_managed (hello ∷ row ∷ [])

of_delete : (row : MessageRow) → IsSound (with_delete row) → IsSoundMessage (with_delete row) 0 (managed (hello ∷ row ∷ [])) 1 row
of_delete row sound = (sound.protocols 0 _ refl).messages 1 _ refl

-- one with another constructor, and what its soundness would say of that
abbrev with_construct : MessageRow → Schema
with_construct row = with_manager (row ∷ look_up ∷ note ∷ [])

of_construct : (row : MessageRow) → IsSound (with_construct row) → IsSoundMessage (with_construct row) 1 (manager (row ∷ look_up ∷ note ∷ [])) 0 row
of_construct row sound = (sound.protocols 1 _ refl).messages 0 _ refl

-- Levels and semantics

-- a sync message of level not that the parent may send
plain_sync_to_the_child : ¬ IsSound (with_note (record note { semantics = Sync }))
plain_sync_to_the_child sound = let e : direction.Child ≡ direction.Parent = (of_note _ sound).plain_sync refl refl in cc

async_inside_sync : ¬ IsSound (with_note (record note { level = level.InsideSync }))
async_inside_sync sound = let e : Async ≡ Sync = (of_note _ sound).inside_sync refl in cc

inside_cpow_to_the_child : ¬ IsSound (with_note (record note { level = level.InsideCpow }))
inside_cpow_to_the_child sound = let e : direction.Child ≡ direction.Parent = (of_note _ sound).inside_cpow refl in cc

-- Compression and lazy sends, of a sync message and of a constructor

compressed_sync : ¬ IsSound (with_note (record look_up { number = 65540; name = codes "Find"; compress = compress.Last }))
compressed_sync sound = let e : Sync ≡ Async = ((of_note _ sound).compressed (λ e. cc)).0 in cc

compressed_constructor : ¬ IsSound (with_construct (record construct { compress = compress.All }))
compressed_constructor sound = let e : Constructor 0 ≡ Normal = ((of_construct _ sound).compressed (λ e. cc)).1 in cc

lazy_sync : ¬ IsSound (with_note (record look_up { number = 65540; name = codes "Find"; lazy = true }))
lazy_sync sound = let e : Sync ≡ Async = ((of_note _ sound).lazy refl).0 in cc

lazy_constructor : ¬ IsSound (with_construct (record construct { lazy = true }))
lazy_constructor sound = let e : Constructor 0 ≡ Normal = ((of_construct _ sound).lazy refl).1 in cc

-- Constructors and destructors

some_returns : (returns : List ParamRow) → Some returns ≢ None
some_returns returns e = cc

sync_destructor : ¬ IsSound (with_delete (record delete { semantics = Sync }))
sync_destructor sound = let e : Sync ≡ Async = ((of_delete _ sound).delete refl).0 in cc

answered_destructor : ¬ IsSound (with_delete (record delete { returns = Some [] }))
answered_destructor sound = some_returns [] ((of_delete _ sound).delete refl).1

answered_constructor : ¬ IsSound (with_construct (record construct { returns = Some [] }))
answered_constructor sound = some_returns [] ((of_construct _ sound).constructor 0 refl refl)

-- Kinds

normal_destructor : ¬ IsSound (with_delete (record delete { kind = Normal }))
normal_destructor sound = (of_delete _ sound).kind.0 refl

destructor_of_another_name : ¬ IsSound (with_note (record note { kind = Delete }))
destructor_of_another_name sound = differ (codes "Note") (codes "__delete__") refl (of_note _ sound).kind

normal_constructor : ¬ IsSound (with_construct (record construct { kind = Normal }))
normal_constructor sound = (of_construct _ sound).kind.1 0 (0, omega arith, refl) refl

constructor_of_another_name : ¬ IsSound (with_note (record note { kind = Constructor 0 }))
constructor_of_another_name sound = differ (codes "PMyManaged") (codes "Note") refl (of_note _ sound).kind.2

-- What is carried

abbrev shared : MessageRow
shared = record note { params = param (codes "aMemory") (Builtin word.Shmem) ∷ [] }

carried_memory : ¬ IsSound (with_note shared)
carried_memory sound = (of_note _ sound).carried.0 refl (inl (0, param (codes "aMemory") (Builtin word.Shmem), omega arith, refl, builtin refl))

abbrev counted : MessageRow
counted = record note { params = param (codes "aCount") (Builtin word.Int32) ∷ []; carried = false }

uncarried_number : ¬ IsSound (with_note counted)
uncarried_number sound =
    false≢true ((of_note _ sound).carried.1 (carried counted (params_are IsCarried counted.params (no_builtin word.Int32 refl, tt)) tt))

-- Numbers and names

numbers_differ : (one other : ℕ) → other < one → one ≢ other
numbers_differ one other above e = absurd (omega arith)

another_number : ¬ IsSound (with_note (record note { number = 65542 }))
another_number sound = numbers_differ 65542 65540 (omega arith) (of_note _ sound).number

name_that_is_no_word : ¬ IsSound (with_note (record note { name = codes "1st" }))
name_that_is_no_word sound = false≢true (of_note _ sound).name

repeated_message : ¬ IsSound (with_note (record note { name = codes "Lookup" }))
repeated_message sound = (sound.protocols 1 _ refl).distinct 1 2 note (omega arith) (omega arith) refl

repeated_protocol : ¬ IsSound (record worked { protocols = managed (hello ∷ delete ∷ []) ∷ record (managed []) { name = codes "other::PMyManaged" } ∷ [] })
repeated_protocol sound = sound.distinct 0 1 (managed []) (omega arith) (omega arith) refl

-- Counts

protocol_past_the_count : ¬ IsSound (with_note (record note { params = param (codes "aActor") (Actor 2 true) ∷ [] }))
protocol_past_the_count sound = let low : 2 < 2 = (of_note _ sound).params 0 (param [] (Named 0)) (omega arith) in absurd (omega arith)

type_past_the_count : ¬ IsSound (with_note (record note { returns = Some (param (codes "aPair") (Named 2) ∷ []) }))
type_past_the_count sound = let low : 2 < 2 = (of_note _ sound).returns 0 (param [] (Named 0)) (omega arith) in absurd (omega arith)

field_past_the_count : ¬ IsSound (record worked { types = Struct (codes "mozilla::MyPair") (param (codes "owner") (Actor 2 false) ∷ []) ∷ [] })
field_past_the_count sound = let low : 2 < 2 = sound.types 0 (Union [] []) (omega arith) 0 (param [] (Named 0)) (omega arith) in absurd (omega arith)

manager_past_the_count : ¬ IsSound (record worked { protocols = record (managed []) { managers = 2 ∷ [] } ∷ [] })
manager_past_the_count sound = let low : 2 < 1 = (sound.protocols 0 _ refl).managers 0 0 (omega arith) in absurd (omega arith)

managed_past_the_count : ¬ IsSound (record worked { protocols = record (manager []) { manages = 1 ∷ [] } ∷ [] })
managed_past_the_count sound = let low : 1 < 1 = (sound.protocols 0 _ refl).manages 0 0 (omega arith) in absurd (omega arith)

too_many_protocols : (rows : List ProtocolRow) → length rows ≡ 4097 → ¬ IsSound (record { protocols = rows; types = [] })
too_many_protocols rows many sound = let few : length rows ≤ 4096 = sound.few in absurd (omega arith)

too_many_messages : (rows : List MessageRow) → length rows ≡ 32769 → ¬ IsSound (with_manager rows)
too_many_messages rows many sound = let few : length rows ≤ 32768 = (sound.protocols 1 _ refl).few in absurd (omega arith)

-- Defined types: a struct with a field of itself, and a union of itself alone

abbrev own_field : List ParamRow
own_field = param (codes "next") (Named 0) ∷ []

no_struct_of_itself : {rows : List TypeRow} (t : ℕ) → t ≡ 0 → slice_get rows 0 ≡ Some (Struct (codes "Chain") own_field) → ¬ IsDefined rows (Named t)
no_struct_of_itself {rows = rows} t zero_is is (struct name fields is' all) =
    let at : slice_get rows 0 ≡ Some (Struct name fields) = subst (λ (n : ℕ). slice_get rows n ≡ Some (Struct name fields)) zero_is is' in
    let same : fields ≡ own_field = cc in
    no_struct_of_itself 0 refl is (all (param (codes "next") (Named 0)) (subst (λ (fs : List ParamRow). Contains fs (param (codes "next") (Named 0))) (sym same) (0, omega arith, refl)))
no_struct_of_itself {rows = rows} t zero_is is (union name components component is' among one) =
    let at : slice_get rows 0 ≡ Some (Union name components) = subst (λ (n : ℕ). slice_get rows n ≡ Some (Union name components)) zero_is is' in cc

endless_struct : ¬ IsSound (record worked { types = Struct (codes "Chain") own_field ∷ [] })
endless_struct sound = no_struct_of_itself 0 refl refl (sound.defined 0 (omega arith))
