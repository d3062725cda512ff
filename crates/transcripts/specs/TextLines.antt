-- A text by its lines.
use Rattle.std.specs.Prelude.{ℕ, ◌==◌, if◌then◌else◌, List, [], ◌∷◌}

-- lines with a byte before the first of them
abbrev pub with_first : ℕ → List (List ℕ) → List (List ℕ)
with_first byte [] = (byte ∷ []) ∷ []
with_first byte (line ∷ lines) = (byte ∷ line) ∷ lines

-- the lines of a text: it is split after each line feed, and what follows the last of them is a line too
abbrev pub text_lines : List ℕ → List (List ℕ)
text_lines [] = []
text_lines (byte ∷ bytes) = if byte == 10 then (byte ∷ []) ∷ text_lines bytes else with_first byte (text_lines bytes)
