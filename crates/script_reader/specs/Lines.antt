-- The readings of the lines of a text.
use Rattle.std.specs.Prelude.{◌≡◌, ℕ, ◌<◌, ◌≤◌, ◌==◌, ◌⊎◌, Bool, not, List, [], ◌∷◌, length, Option, Some, None, find}
use Rattle.std.specs.List.{slice_split}
use Rattle.script_reader.specs.declared.line.LineReading.{LineReading}
use Rattle.script_reader.specs.declared.line.LineReading.TheVariants.{Silent, Statement, NoStatement, TooLong}
use Rattle.script_reader.specs.declared.statement.Statement.{Statement as StatementType}
use Rattle.script_reader.specs.declared.token.ScriptToken.{ScriptToken}
use Rattle.script_reader.specs.Grammar.{statement}
use Rattle.script_reader.specs.Tokens.{is_blank, AreTokens}

abbrev pub is_line_feed : ℕ → Bool
is_line_feed b = b == 10

-- the lines of a text: what is before, between and after its line feeds
abbrev pub lines_of : List ℕ → List (List ℕ)
lines_of text = slice_split is_line_feed text

-- the greatest number of bytes in a line
abbrev pub max_line_len : ℕ
max_line_len = 16384

-- the first byte of a line that is not blank
abbrev pub first_mark : List ℕ → Option ℕ
first_mark line = find (λ b. not (is_blank b)) line

-- a silent line: all its bytes are blank, or its first byte that is not blank is `#`
abbrev pub IsSilent : List ℕ → Type 0
IsSilent line = (first_mark line ≡ None) ⊎ (first_mark line ≡ Some 35)

-- the tokens of the line spell the statement
abbrev pub IsStatement : List ℕ → StatementType → Type 0
IsStatement line s = (tokens : List ScriptToken) × AreTokens tokens line × statement s tokens []

-- the reading of a line, on its own
abbrev pub Says : List ℕ → LineReading → Type 0
Says line Silent = (length line ≤ max_line_len) × IsSilent line
Says line (Statement held) = (length line ≤ max_line_len) × (¬ IsSilent line) × IsStatement line held.value
Says line NoStatement = (length line ≤ max_line_len) × (¬ IsSilent line) × ((s : StatementType) → ¬ IsStatement line s)
Says line TooLong = max_line_len < length line

-- lines, with the reading of each
abbrev pub AreRead : List (List ℕ) → List LineReading → Type 0
AreRead [] [] = Unit {0}
AreRead (line ∷ lines) (reading ∷ readings) = Says line reading × AreRead lines readings
AreRead [] (reading ∷ readings) = ⊥
AreRead (line ∷ lines) [] = ⊥

-- the lines of the text, with the reading of each
abbrev pub IsReading : List ℕ → List LineReading → Type 0
IsReading text readings = AreRead (lines_of text) readings
