-- The reading of a line, as a function; so each line has a reading, and the lines of each text have readings.
use Rattle.std.proofs.Common.{◌≡◌, ℕ, ◌≤◌, ltb, ◌==◌, Bool, true, false, List, [], ◌∷◌, length, map, Option, Some, None, option_and_then, inl, inr, refl, sym, ap, ◌∙◌, subst}
use Rattle.std.proofs.lemmas.Bool.{eqb-true, eqb-false, ltb-true, ltb-false}
use denote.RawPtr.{null_ptr}
use Rattle.script_reader.specs.declared.line.LineReading.{LineReading}
use Rattle.script_reader.specs.declared.line.LineReading.TheVariants as reading
use Rattle.script_reader.specs.declared.statement.Statement.{Statement}
use Rattle.script_reader.specs.declared.token.ScriptToken.{ScriptToken}
use Rattle.script_reader.specs.Grammar.{statement}
use Rattle.script_reader.specs.Lines.{lines_of, max_line_len, first_mark, IsSilent, IsStatement, Says, AreRead}
use Rattle.script_reader.specs.Tokens.{AreTokens}
use Rattle.script_reader.proofs.TokenLists.{one_tokens}
use Rattle.script_existence.specs.Laws.{LinesHaveReadings, TextsHaveReadings}
use Rattle.script_existence.proofs.Found.{Finds, finds_then, finds_also}
use Rattle.script_existence.proofs.TokenReader.{read_tokens, tokens_find}
use Rattle.script_existence.proofs.StatementReader.{read_statement, statement_finds}

-- the statement of a line
abbrev statement_of : List ℕ → Option Statement
statement_of line = option_and_then read_statement (read_tokens line)

-- whether all bytes are blank, or the first that is not blank begins a comment
abbrev is_silent : Option ℕ → Bool
is_silent None = true
is_silent (Some b) = b == 35

-- the line is this statement, with its box at one place; or it is not a statement
abbrev said : Option Statement → LineReading
said None = reading.NoStatement
said (Some s) = reading.Statement (record { ptr = null_ptr; alloc = record { memory = record { seal = tt } }; value = s })

-- the reading of a line, by whether it is too long and whether it is silent
abbrev reading_by : Bool → Bool → List ℕ → LineReading
reading_by true silent line = reading.TooLong
reading_by false true line = reading.Silent
reading_by false false line = said (statement_of line)

-- the reading of a line
abbrev pub reading_of : List ℕ → LineReading
reading_of line = reading_by (ltb max_line_len (length line)) (is_silent (first_mark line)) line

-- the readings of the lines of a text
abbrev pub readings_of : List ℕ → List LineReading
readings_of text = map reading_of (lines_of text)

statement_of-finds : (line : List ℕ) → Finds (IsStatement line) (statement_of line)
statement_of-finds line =
    finds_then (λ ts. AreTokens ts line) (IsStatement line) read_statement
    (λ ts are.
    finds_also (λ s. statement s ts []) (IsStatement line) (λ s h. (ts, are, h))
    (λ s h. let P : List ScriptToken → Type 0 = λ l. statement s l [] in subst P (one_tokens h.0 ts line h.1 are) h.2)
    (read_statement ts)
    (statement_finds ts))
    (λ none s h. none h.0 h.1)
    (read_tokens line)
    (tokens_find line)

silent_mark : (line : List ℕ) (first : Option ℕ) → first_mark line ≡ first → is_silent first ≡ true → IsSilent line
silent_mark line None e silent = inl e
silent_mark line (Some b) e silent = inr (e ∙ ap (λ c. Some c) (eqb-true b 35 silent))

loud_mark : (line : List ℕ) (first : Option ℕ) → first_mark line ≡ first → is_silent first ≡ false → ¬ IsSilent line
loud_mark line None e loud h = let no : ⊥ = cc in no
loud_mark line (Some b) e loud (inl none) = let no : ⊥ = cc in no
loud_mark line (Some b) e loud (inr hash) = eqb-false b 35 loud (let same : Some b ≡ Some 35 = sym e ∙ hash in cc)

said-says : (line : List ℕ) → length line ≤ max_line_len → ¬ IsSilent line → (o : Option Statement) → Finds (IsStatement line) o → Says line (said o)
said-says line small loud None none = (small, loud, none)
said-says line small loud (Some s) is = (small, loud, is)

reading_by-says : (line : List ℕ) (long silent : Bool) → ltb max_line_len (length line) ≡ long → is_silent (first_mark line) ≡ silent → Says line (reading_by long silent line)
reading_by-says line true silent e f = ltb-true max_line_len (length line) e
reading_by-says line false true e f = (ltb-false max_line_len (length line) e, silent_mark line (first_mark line) refl f)
reading_by-says line false false e f = said-says line (ltb-false max_line_len (length line) e) (loud_mark line (first_mark line) refl f) (statement_of line) (statement_of-finds line)

reading_of-says : (line : List ℕ) → Says line (reading_of line)
reading_of-says line = reading_by-says line (ltb max_line_len (length line)) (is_silent (first_mark line)) refl refl

pub lines_have_readings : LinesHaveReadings
lines_have_readings line = (reading_of line, reading_of-says line)

are_read : (lines : List (List ℕ)) → AreRead lines (map reading_of lines)
are_read [] = tt
are_read (line ∷ lines) = (reading_of-says line, are_read lines)

pub texts_have_readings : TextsHaveReadings
texts_have_readings text = (readings_of text, are_read (lines_of text))
