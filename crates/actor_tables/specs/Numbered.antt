-- The numbers of protocols and types, as they are made and looked up.
use Rattle.std.specs.Prelude.{◌≡◌, ◌↔◌, ◌⊎◌, ℕ, ◌<◌, ◌≤◌, Bool, true, false, ◌&&◌, ◌==◌, if◌then◌else◌, List, map, length, Some, IsSome, IsSomeAnd, slice_get, option_map}
use Rattle.std.specs.Borrow.{Bor}
use Rattle.std.specs.HashMap.{get, HashMap}
use Rattle.std.specs.List.{All, AllPairs, Contains}
use Rattle.std.specs.Bool.{beq}
use Rattle.std.specs.Ordering.{nat_cmp, bool_cmp, ordering_then}
use Rattle.std.specs.declared.cmp.Ordering.{Ordering}
use Rattle.std.specs.declared.cmp.Ordering.TheVariants.{Less}
use Rattle.ipdl_syntax.specs.declared.program.Entry.{Entry}
use Rattle.ipdl_syntax.specs.declared.tree.StructDecl.{StructDecl}
use Rattle.ipdl_syntax.specs.declared.tree.UnionDecl.{UnionDecl}
use Rattle.findings.specs.Order.{place_cmp}
use Rattle.name_table.specs.declared.decl.DeclId.{DeclId}
use Rattle.name_table.specs.declared.decl.DeclId.TheVariants.{Struct, Union}
use Rattle.name_table.specs.Decls.{protocol_of}
use Rattle.program_schema.specs.Numbers.{Numbering, AreProtocolFiles, AreTypes, place_of}
use Rattle.actor_tables.specs.declared.numbers.SchemaNumbers.{SchemaNumbers}
use Rattle.actor_tables.specs.declared.numbers.TypeId.{TypeId}
use Rattle.actor_tables.specs.declared.numbers.TypeKey.{TypeKey}

-- Protocols

-- These are all files below a limit that have protocols, in the order of files, each with the full name of its protocol.
pub record AreNamedFiles (program : List Entry) (limit : ℕ) (named : List (Bor (List ℕ) × ℕ)) : Type 0 where
  pub full : All (λ n. IsSomeAnd (protocol_of program n.1) (λ p. p.full ≡ n.0.now)) named
  pub complete : (file : ℕ) → file < limit → IsSome (protocol_of program file) → Contains (map (λ n. n.1) named) file
  pub rising : AllPairs (λ a b. a.1 < b.1) named
  pub below : All (λ n. n.1 < limit) named
  pub few : length named ≤ limit

-- each of these files has its index among them
abbrev pub FindsNumbers : List ℕ → List ℕ → Type 0
FindsNumbers files numbers = (file : ℕ) → Contains files file → IsSomeAnd (slice_get numbers file) (λ number. slice_get files number ≡ Some file)

-- Types

-- the declaration of a struct or a union
abbrev pub decl_of : TypeId → DeclId
decl_of id = if id.is_union then Union id.file id.index else Struct id.file id.index

-- the struct or union of a key
abbrev pub id_of_key : TypeKey → TypeId
id_of_key key = record { file = key.place.file; is_union = key.is_union; index = key.index }

-- the key of a struct of these, or of a union
abbrev pub IsStructKey : List StructDecl → TypeKey → Type 0
IsStructKey structs key = (key.is_union ≡ false) × (option_map (λ s. s.place) (slice_get structs key.index) ≡ Some key.place)

abbrev pub IsUnionKey : List UnionDecl → TypeKey → Type 0
IsUnionKey unions key = (key.is_union ≡ true) × (option_map (λ u. u.place) (slice_get unions key.index) ≡ Some key.place)

-- the new list has exactly the keys of the old one and those with this property
pub record AddsKeys (IsKey : TypeKey → Type 0) (old new : List TypeKey) : Type 0 where
  pub exact : (key : TypeKey) → Contains new key ↔ (Contains old key ⊎ IsKey key)

-- the key of a struct or a union of one of the first files
abbrev pub IsKeyBelow : List Entry → ℕ → TypeKey → Type 0
IsKeyBelow program limit key =
    (file : ℕ) × (file < limit) × (place_of program (decl_of (record { file = file; is_union = key.is_union; index = key.index })) ≡ Some key.place)

-- the order of keys: by place, structs before unions, and then by index
abbrev pub key_cmp : TypeKey → TypeKey → Ordering
key_cmp a b = ordering_then (place_cmp a.place b.place) (ordering_then (bool_cmp a.is_union b.is_union) (nat_cmp a.index b.index))

abbrev pub IsBefore : TypeKey → TypeKey → Type 0
IsBefore a b = key_cmp a b ≡ Less

-- whether two are the same
abbrev pub same_id : TypeId → TypeId → Bool
same_id a b = (a.file == b.file) && (beq a.is_union b.is_union && (a.index == b.index))

-- each of these has its index among them
abbrev pub GivesNumbers : {S : Type 0} → List TypeId → HashMap TypeId ℕ S → Type 0
GivesNumbers ids numbers = (id : TypeId) → Contains ids id → IsSomeAnd (get same_id numbers id) (λ number. slice_get ids number ≡ Some id)

-- The whole

abbrev pub numbering_of : SchemaNumbers → Numbering
numbering_of numbers = record { files = numbers.files.items; types = map decl_of numbers.types.items }

-- These are the protocols and types of the program by their numbers, and the numbers can be looked up.
pub record AreNumbersOf (program : List Entry) (numbers : SchemaNumbers) : Type 0 where
  pub files : AreProtocolFiles program numbers.files.items
  pub few : length numbers.files.items ≤ 4096
  pub types : AreTypes program (map decl_of numbers.types.items)
  pub of_files : FindsNumbers numbers.files.items numbers.of_files.items
  pub of_types : GivesNumbers numbers.types.items numbers.of_types
