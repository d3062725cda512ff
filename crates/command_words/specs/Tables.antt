-- Tables of options that a parser can tell apart.
use Rattle.std.specs.Prelude.{◌≡◌, ◌≢◌, ◌<◌, ◌==◌, ℕ, Bool, false, List, [], ◌∷◌, Option, Some, None, find, map}
use Rattle.std.specs.Option.{option_map_or}
use Rattle.std.specs.Str.{bytes_eq}
use Rattle.clap.specs.Lexer.{has_byte}
use Rattle.command_words.specs.declared.options.Choice.{Choice as Row}
use Rattle.command_words.specs.Options.{Choice}
use Rattle.command_words.specs.Forms.{own_id}

-- the first option of the name, and the first with the letter
abbrev pub by_name : List Choice → List ℕ → Option Choice
by_name options name = find (λ o. bytes_eq o.name name) options

abbrev pub has_letter : Choice → ℕ → Bool
has_letter o l = option_map_or (λ k. k == l) o.letter false

abbrev pub by_letter : List Choice → ℕ → Option Choice
by_letter options l = find (λ o. has_letter o l) options

-- A table of options: names are not empty, have no `=` and are not by what the other words are known;
-- letters are ASCII and no `-`; and no name or letter is there twice.
abbrev pub IsTable : List Choice → Type 0
IsTable [] = Unit {0}
IsTable (o ∷ os) = (o.name ≢ []) × (has_byte 61 o.name ≡ false) × (bytes_eq o.name own_id ≡ false) × (by_name os o.name ≡ None)
    × ((l : ℕ) → o.letter ≡ Some l → (l < 128) × (l ≢ 45) × (by_letter os l ≡ None)) × IsTable os

-- the option that a row of a table in the code is, and the options that its rows are
abbrev pub choice_of : Row → Choice
choice_of row = record { name = row.name.now; letter = row.letter }

abbrev pub choices_of : List Row → List Choice
choices_of = map choice_of
