-- What attributes, `manages` and semantics mean for messages and protocols.
use Rattle.std.specs.Prelude.{◌≡◌, ◌⊎◌, ◌≤◌, ℕ, Bool, false, if◌then◌else◌, List, Option, Some, None, find, codes, option_and_then, is_none}
use Rattle.std.specs.List.{list_any}
use Rattle.std.specs.Str.{bytes_eq}
use Rattle.ipdl_base.specs.declared.kinds.Compress.{Compress}
use Rattle.ipdl_base.specs.declared.kinds.Compress.TheVariants as compress
use Rattle.ipdl_base.specs.declared.kinds.Level.{Level}
use Rattle.ipdl_base.specs.declared.kinds.Level.TheVariants.{Not, InsideSync, InsideCpow}
use Rattle.ipdl_base.specs.declared.kinds.Semantics.TheVariants.{Async, Sync}
use Rattle.ipdl_syntax.specs.declared.tree.Attribute.{Attribute}
use Rattle.ipdl_syntax.specs.declared.tree.MessageDecl.{MessageDecl}
use Rattle.ipdl_syntax.specs.declared.tree.ProtocolDecl.{ProtocolDecl}
use Rattle.name_table.specs.declared.kinds.MessageKind.{MessageKind}
use Rattle.name_table.specs.declared.kinds.MessageKind.TheVariants as kind
use Rattle.name_table.specs.declared.strength.Strength.{Strength}

-- Attributes

-- the first attribute with this name; the others do not count
abbrev pub attribute_named : List ℕ → List Attribute → Option Attribute
attribute_named name attributes = find (λ a. bytes_eq a.name name) attributes

-- the level that a value names; any other value, or no value, counts as no attribute
abbrev pub listed_level : Option (List ℕ) → Level
listed_level None = Not
listed_level (Some value) =
    if bytes_eq value (codes "inside_sync") then InsideSync else (if bytes_eq value (codes "inside_cpow") then InsideCpow else Not)

-- the level that an attribute of this name gives, or `not`
abbrev pub level_by : List ℕ → List Attribute → Level
level_by name attributes = listed_level (option_and_then (λ a. a.value) (attribute_named name attributes))

-- the level of a message
abbrev pub level_of_message : MessageDecl → Level
level_of_message m = level_by (codes "Nested") m.attributes

-- the highest level of a protocol's messages
abbrev pub level_of_protocol : ProtocolDecl → Level
level_of_protocol p = level_by (codes "NestedUpTo") p.attributes

-- what a `Compress` without a value means, and what one with a value means; a value that is not listed counts as no
-- attribute
abbrev pub listed_compress : Option (List ℕ) → Compress
listed_compress None = compress.Last
listed_compress (Some value) = if bytes_eq value (codes "all") then compress.All else compress.Plain

abbrev pub compress_by : Option Attribute → Compress
compress_by None = compress.Plain
compress_by (Some a) = listed_compress a.value

-- how a message replaces earlier ones
abbrev pub compress_of_message : MessageDecl → Compress
compress_of_message m = compress_by (attribute_named (codes "Compress") m.attributes)

abbrev pub is_lazy_by : Option Attribute → Bool
is_lazy_by None = false
is_lazy_by (Some a) = is_none a.value

-- whether a message may wait in its sender's outbox: it has a `LazySend` without a value
abbrev pub is_lazy_message : MessageDecl → Bool
is_lazy_message m = is_lazy_by (attribute_named (codes "LazySend") m.attributes)

-- Kinds

-- A message of a protocol is the destructor by its name, and otherwise a constructor if its name is among those of
-- `manages`, whatever that name finds.
abbrev pub kind_of_message : ProtocolDecl → MessageDecl → MessageKind
kind_of_message p m =
    if bytes_eq m.name (codes "__delete__") then kind.Destructor
    else (if list_any (λ n. bytes_eq n.name m.name) p.manages then kind.Constructor else kind.Normal)

-- a message of a protocol is of this kind
abbrev pub IsKindOf : ProtocolDecl → MessageDecl → MessageKind → Type 0
IsKindOf p m k = k ≡ kind_of_message p m

-- Levels and semantics

-- a level as a number
abbrev pub level_number : Level → ℕ
level_number Not = 0
level_number InsideSync = 1
level_number InsideCpow = 2

-- a message has its own level alone
abbrev pub strength_of_message : MessageDecl → Strength
strength_of_message m = record { least = level_of_message m; most = level_of_message m; semantics = m.semantics }

-- a protocol has all levels from 0 up to its own
abbrev pub strength_of_protocol : ProtocolDecl → Strength
strength_of_protocol p = record { least = Not; most = level_of_protocol p; semantics = p.semantics }

-- A strength converts to another: its levels are among those of the other, and it is async or the other is sync.
pub record Converts (one other : Strength) : Type 0 where
  pub least : level_number other.least ≤ level_number one.least
  pub most : level_number one.most ≤ level_number other.most
  pub semantics : (one.semantics ≡ Async) ⊎ (other.semantics ≡ Sync)
