-- What follows from the definitions, for every text.
use Rattle.std.specs.Prelude.{◌≡◌, ℕ, List}
use Rattle.script_reader.specs.declared.line.LineReading.{LineReading}
use Rattle.script_reader.specs.Lines.{Says}
use Rattle.script_reader.specs.Plain.{plain_reading}

-- A line has at most one reading, up to where boxes lie.
abbrev pub OneReading : Type 0
OneReading = (line : List ℕ) (a b : LineReading) → Says line a → Says line b → plain_reading a ≡ plain_reading b
