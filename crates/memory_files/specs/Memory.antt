-- What files and sinks in memory answer.
use Rattle.std.specs.Prelude.{ℕ, ◌+◌, ◌-◌, ◌==◌, ◌||◌, ◌&&◌, nat_eq, nat_lt, min, not, Bool, if◌then◌else◌, List, [], ◌∷◌, ◌++◌, length, take, Option, Some, None, is_none, unwrap_or}
use Rattle.ipdl_base.specs.declared.sink.WriteAnswer.{WriteAnswer}
use Rattle.ipdl_base.specs.declared.sink.WriteAnswer.TheVariants.{Took, Failed}
use Rattle.std.specs.List.{list_any}
use Rattle.std.specs.Cmp.Lexicographic.{pointwise}

-- Files in memory: names with their bytes, the numbers of the calls that fail, the number of calls so far, and the number
-- of these that failed.
pub record MemoryFilesView : Type 0 where
  pub files : List (List ℕ × List ℕ)
  pub fails : List ℕ
  pub calls : ℕ
  pub faults : ℕ

-- the bytes of the first file of a name
abbrev pub file_named : List (List ℕ × List ℕ) → List ℕ → Option (List ℕ)
file_named [] name = None
file_named (file ∷ files) name = if pointwise nat_eq file.0 name then Some file.1 else file_named files name

-- whether the next call is one of those that fail
abbrev pub is_next : List ℕ → ℕ → Bool
is_next fails calls = list_any (λ n. n == calls + 1) fails

-- one more call, up to the greatest number of 64 bits
abbrev pub counted : ℕ → ℕ
counted n = if nat_lt n 18446744073709551615 then n + 1 else n

-- one more fault if the call fails
abbrev pub faults_after : Bool → ℕ → ℕ
faults_after fails n = if fails then counted n else n

-- the files after a read: the call is counted, and the fault if it fails
abbrev pub after_read : MemoryFilesView → MemoryFilesView
after_read m = record {
  files = m.files;
  fails = m.fails;
  calls = counted m.calls;
  faults = faults_after (is_next m.fails m.calls) m.faults;
}

-- A sink in memory: the bytes written so far, the most bytes that one write takes, the room for bytes in all, the numbers
-- of the calls that fail, the number of calls so far, and the number of these that failed.
pub record MemorySinkView : Type 0 where
  pub written : List ℕ
  pub piece : ℕ
  pub room : ℕ
  pub fails : List ℕ
  pub calls : ℕ
  pub faults : ℕ

-- the number of bytes of a piece that the next write takes, or none if it fails
abbrev pub room_for : MemorySinkView → List ℕ → Option ℕ
room_for s piece =
    if is_next s.fails s.calls || ((s.room - length s.written == 0) && not (length piece == 0)) then None else
    Some (min (min (length piece) s.piece) (s.room - length s.written))

-- the answer of a write that takes this number of bytes
abbrev pub answer_to : Option ℕ → WriteAnswer
answer_to None = Failed
answer_to (Some n) = Took n

-- the sink after a write: the call is counted, and the fault if it fails
abbrev pub after_write : MemorySinkView → List ℕ → MemorySinkView
after_write s piece = record {
  written = s.written ++ take (unwrap_or (room_for s piece) 0) piece;
  piece = s.piece;
  room = s.room;
  fails = s.fails;
  calls = counted s.calls;
  faults = faults_after (is_none (room_for s piece)) s.faults;
}
