-- The bytes of a name, wherever they are.
use Rattle.std.specs.Prelude.{ℕ, ◌<◌, ◌≤◌, List, length, take}
use Rattle.ipdl_base.specs.declared.name.NameBytes.{NameBytes}
use Rattle.ipdl_base.specs.declared.name.NameBytes.TheVariants.{Short, Long}

-- the bytes: the first of those in the name itself, or those of the vector
abbrev pub held_bytes : NameBytes → List ℕ
held_bytes (Short len bytes) = take len bytes
held_bytes (Long bytes) = bytes.value.items

-- a name stores up to 22 bytes in itself, and more than these elsewhere
abbrev pub FitsRoom : NameBytes → Type 0
FitsRoom (Short len _) = len ≤ 22
FitsRoom (Long bytes) = 22 < length bytes.value.items
