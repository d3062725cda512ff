-- What a write to a real stream takes.
use Rattle.std.specs.Prelude.{◌≡◌, ℕ, List, [], take, Option, Some, None}
use Rattle.std.specs.Io.KnownBytes.{Appends, Keeps}
use Rattle.host_io.specs.declared.streams.RealSink.{RealSink}

-- If the contents of a stream are known, a write that takes n bytes appends the first n bytes of the piece, and any other
-- write changes nothing.
abbrev pub Puts : Option ℕ → Option (List ℕ) → Option (List ℕ) → List ℕ → Type 0
Puts (Some n) old new piece = Appends old new (take n piece)
Puts None old new piece = Keeps old new

-- the bytes that the writes to a real stream took, in order
abbrev pub bytes_of : {W : Type 0} → RealSink W → List ℕ
bytes_of sink = sink.log.bytes

-- the number of these writes that failed
abbrev pub faults_of : {W : Type 0} → RealSink W → ℕ
faults_of sink = sink.faults

-- No write to this stream took a byte or failed.
pub record IsUnused {W : Type 0} (sink : RealSink W) : Type 0 where
  pub bytes : bytes_of sink ≡ []
  pub faults : faults_of sink ≡ 0
