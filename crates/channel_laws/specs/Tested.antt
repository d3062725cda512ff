-- What is read after lines of one end, and tests that lines pass one after another.
use Rattle.std.specs.Prelude.{◌≡◌, ℕ, ◌+◌, Bool, true, List, [], ◌∷◌, ◌++◌, fold}
use Rattle.ipdl_base.specs.declared.line.Line.{Line}
use Rattle.ipdl_base.specs.declared.line.What.{What}
use Rattle.ipdl_base.specs.declared.schema.Schema.{Schema}
use Rattle.history_reading.specs.EndReading.{EndReading}
use Rattle.history_reading.specs.Reading.{Reading, end_reading_of, other_of, after, after_what}

-- what is read of an end after more lines of it, the first of which is at a place
abbrev pub after_whats : Schema → ℕ → List What → EndReading → EndReading
after_whats schema place [] own = own
after_whats schema place (said ∷ more) own = after_whats schema (place + 1) more (after_what schema place said own)

-- lines of one end pass a test, each with what is read of that end before it
abbrev pub EndLinesPass : Schema → (EndReading → What → Type 0) → ℕ → List What → EndReading → Type 0
EndLinesPass schema Test place [] own = Unit {0}
EndLinesPass schema Test place (said ∷ more) own = Test own said × EndLinesPass schema Test (place + 1) more (after_what schema place said own)

-- the reading after more lines
abbrev pub read_from : Schema → Reading → List Line → Reading
read_from schema reading lines = fold (after schema) reading lines

-- lines after a reading pass a test, each with the reading before it and the lines that follow
abbrev pub LinesPass : Schema → (Reading → Line → List Line → Bool) → Reading → List Line → List Line → Type 0
LinesPass schema test reading [] following = Unit {0}
LinesPass schema test reading (line ∷ more) following = (test reading line (more ++ following) ≡ true) × LinesPass schema test (after schema reading line) more following

-- a test with what is read of a line's end and of the other end
abbrev pub test_at : (EndReading → EndReading → What → Bool) → Reading → Line → List Line → Bool
test_at test reading line following = test (end_reading_of line.side reading) (other_of line.side reading) line.what
