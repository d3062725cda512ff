-- The outside: files, sinks and counts of faults.
use Rattle.std.specs.Prelude.{◌≡◌, ℕ, ◌<◌, ◌≤◌, ◌⊎◌, List, [], ◌++◌, length, take, Option, Some, None}
use Rattle.ipdl_base.specs.declared.files.FileBytes.{FileBytes}
use Rattle.ipdl_base.specs.declared.files.FileBytes.TheVariants.{Absent, Larger, Bytes}
use Rattle.ipdl_base.specs.declared.sink.WriteAnswer.{WriteAnswer}
use Rattle.ipdl_base.specs.declared.sink.WriteAnswer.TheVariants.{Took}
use Rattle.ipdl_base.specs.declared.sink.WriteAnswer.TheVariants as write

-- Files as a map: what each name has.
abbrev pub FileMap : Type 0
FileMap = List ℕ → Option (List ℕ)

-- A count of faults rose. A count at the greatest number of 64 bits counts as having risen.
abbrev pub Rose : ℕ → ℕ → Type 0
Rose old new = (old < new) ⊎ (new ≡ 18446744073709551615)

-- there are bytes, and more than this number of them
pub record HasMore (most : ℕ) (held : Option (List ℕ)) : Type 0 where
  pub bytes : List ℕ
  pub has : held ≡ Some bytes
  pub large : most < length bytes

-- what a read gives of a name, by what the map has of it, if at most this number of bytes are read
abbrev pub IsHeldWithin : ℕ → Option (List ℕ) → FileBytes → Type 0
IsHeldWithin most held Absent = held ≡ None
IsHeldWithin most held Larger = HasMore most held
IsHeldWithin most held (Bytes bytes) = (held ≡ Some bytes.items) × (length bytes.items ≤ most)

-- at most this number of bytes were read
abbrev pub HasAtMost : ℕ → FileBytes → Type 0
HasAtMost most Absent = Unit {0}
HasAtMost most Larger = Unit {0}
HasAtMost most (Bytes bytes) = length bytes.items ≤ most

-- if the bytes written so far are known, these are appended to them
abbrev pub Appends : Option (List ℕ) → Option (List ℕ) → List ℕ → Type 0
Appends None new bytes = new ≡ None
Appends (Some old) new bytes = new ≡ Some (old ++ bytes)

-- what a write took of its piece
abbrev pub taken : WriteAnswer → List ℕ → List ℕ
taken (Took n) piece = take n piece
taken write.Failed piece = []

-- a write takes at most its piece, and at least one byte of a piece that is not empty
abbrev pub TakesSome : WriteAnswer → List ℕ → Type 0
TakesSome (Took n) piece = (n ≤ length piece) × (0 < length piece → 1 ≤ n)
TakesSome write.Failed piece = Unit {0}
