-- The tokens of a line of a script.
use Rattle.std.specs.Prelude.{◌≡◌, ◌≢◌, ℕ, ◌+◌, ◌-◌, ◌*◌, ◌^◌, min, nat_le, nat_lt, ◌==◌, ◌&&◌, Bool, false, if◌then◌else◌, IsTrue, pos, ◌-ℤ◌, List, [], ◌∷◌, drop, fold, slice_index, Option, Some, None, option_and_then, codes}
use Rattle.std.specs.List.{list_any, list_all, take_while, prefix_len}
use Rattle.std.specs.Option.{option_map}
use Rattle.std.specs.Str.{IsUtf8}
use Rattle.ipdl_base.specs.Words.{is_word_start, is_word_byte}
use Rattle.script_reader.specs.declared.token.TokenClass.{TokenClass}
use Rattle.script_reader.specs.declared.token.TokenClass.TheVariants as class
use Rattle.script_reader.specs.declared.token.ScriptToken.{ScriptToken}
use Rattle.script_reader.specs.declared.token.ScriptToken.TheVariants as token

-- Bytes

-- a space, a tab or a carriage return
abbrev pub is_blank : ℕ → Bool
is_blank b = list_any (λ c. c == b) (codes " \t\r")

-- a byte that is a mark
abbrev pub is_mark : ℕ → Bool
is_mark b = list_any (λ c. c == b) (codes "(){}[],.")

abbrev pub is_digit : ℕ → Bool
is_digit b = nat_le 48 b && nat_le b 57

-- what follows the longest prefix whose bytes pass the test
abbrev pub following : (ℕ → Bool) → List ℕ → List ℕ
following test bytes = drop (prefix_len test bytes) bytes

-- Numbers

-- the number that decimal digits spell, leading zeros or not
abbrev pub value_of : List ℕ → ℕ
value_of digits = fold (λ n d. n * 10 + (d - 48)) 0 digits

-- the greatest number of a parameter or component, and the size from which a number is outside every type
abbrev pub max_count : ℕ
max_count = 2 ^ 32 - 1

abbrev pub beyond : ℕ
beyond = 2 ^ 64

-- decimal digits, at least one and all that there are: the number that they spell, or the limit if that number is above it
pub record IsNumber (limit n : ℕ) (from to : List ℕ) : Type 0 where
  pub some : take_while is_digit from ≢ []
  pub value : n ≡ min (value_of (take_while is_digit from)) limit
  pub rest : to ≡ following is_digit from

-- Texts and bytes in quotes

-- the value of a hexadecimal digit, of either case
abbrev pub hex_value : ℕ → Option ℕ
hex_value b =
    if is_digit b then Some (b - 48) else
    (if nat_le 97 b && nat_le b 102 then Some (b - 87) else
    (if nat_le 65 b && nat_le b 70 then Some (b - 55) else None))

abbrev pub hex_byte : ℕ → ℕ → Option ℕ
hex_byte high low = option_and_then (λ h. option_map (λ l. 16 * h + l) (hex_value low)) (hex_value high)

-- the byte that two hexadecimal digits at the start spell, and the rest after them
abbrev pub hex_at : List ℕ → Option (ℕ × List ℕ)
hex_at [] = None
hex_at (high ∷ []) = None
hex_at (high ∷ low ∷ to) = option_map (λ b. (b, to)) (hex_byte high low)

-- the byte that a letter after a backslash represents
abbrev pub escape : ℕ → Option ℕ
escape b =
    if b == 34 then Some 34 else (if b == 92 then Some 92 else (if b == 110 then Some 10 else (if b == 116 then Some 9 else None)))

-- a byte below 128, and the rest after it
abbrev pub if_ascii : (ℕ × List ℕ) → Option (ℕ × List ℕ)
if_ascii found = if nat_lt found.0 128 then Some found else None

-- after a backslash: a letter, or `x` and two hexadecimal digits of a byte below 128
abbrev pub escaped_at : List ℕ → Option (ℕ × List ℕ)
escaped_at [] = None
escaped_at (b ∷ to) = if b == 120 then option_and_then if_ascii (hex_at to) else option_map (λ c. (c, to)) (escape b)

-- the first byte of a text between quotes, and the rest after its spelling; `None` at a quote
abbrev pub character_at : List ℕ → Option (ℕ × List ℕ)
character_at [] = None
character_at (b ∷ to) = if b == 34 then None else (if b == 92 then escaped_at to else Some (b, to))

-- The bytes follow one after another, each as `at` finds it.
abbrev pub InSequence : (List ℕ → Option (ℕ × List ℕ)) → List ℕ → List ℕ → List ℕ → Type 0
InSequence at [] from to = from ≡ to
InSequence at (b ∷ bs) from to = (middle : List ℕ) × (at from ≡ Some (b, middle)) × InSequence at bs middle to

-- the bytes in this sequence, and a quote after them
abbrev pub InQuotes : (List ℕ → Option (ℕ × List ℕ)) → List ℕ → List ℕ → List ℕ → Type 0
InQuotes at bytes from to = InSequence at bytes from (34 ∷ to)

-- Tokens

abbrev pub begins_bytes : ℕ → List ℕ → Bool
begins_bytes b [] = false
begins_bytes b (c ∷ to) = (b == 104) && (c == 34)

-- the class of a token that begins with these bytes
abbrev pub class_of : List ℕ → TokenClass
class_of [] = class.Other
class_of (b ∷ to) =
    if begins_bytes b to then class.Bytes else
    (if is_word_start b then class.Word else
    (if b == 36 then class.Param else
    (if b == 64 then class.Index else
    (if b == 45 then class.Negative else
    (if is_digit b then class.Number else
    (if b == 34 then class.Text else
    (if is_mark b then class.Mark else class.Other)))))))

-- A token of this class at the start, and the rest after it. Words and numbers are as long as they can be.
abbrev pub IsTokenOf : TokenClass → ScriptToken → List ℕ → List ℕ → Type 0
IsTokenOf class.Word t from to = (t ≡ token.Word (take_while is_word_byte from)) × (to ≡ following is_word_byte from)
IsTokenOf class.Param t from to = (n : ℕ) × (t ≡ token.Param n) × IsNumber max_count n (drop 1 from) to
IsTokenOf class.Index t from to = (n : ℕ) × (t ≡ token.Index n) × IsNumber max_count n (drop 1 from) to
IsTokenOf class.Negative t from to = (n : ℕ) × (t ≡ token.Number (pos 0 -ℤ pos n)) × IsNumber beyond n (drop 1 from) to
IsTokenOf class.Number t from to = (n : ℕ) × (t ≡ token.Number (pos n)) × IsNumber beyond n from to
IsTokenOf class.Text t from to = (text : List ℕ) × (t ≡ token.Text text) × IsUtf8 text × InQuotes character_at text (drop 1 from) to
IsTokenOf class.Bytes t from to = (bytes : List ℕ) × (t ≡ token.Bytes bytes) × InQuotes hex_at bytes (drop 2 from) to
IsTokenOf class.Mark t from to = (t ≡ token.Mark (slice_index from 0)) × (to ≡ drop 1 from)
IsTokenOf class.Other t from to = ⊥

-- a token at the start, and the rest after it
abbrev pub IsToken : ScriptToken → List ℕ → List ℕ → Type 0
IsToken t from to = IsTokenOf (class_of from) t from to

-- The tokens of a line: blanks may precede each of them and follow the last.
abbrev pub AreTokens : List ScriptToken → List ℕ → Type 0
AreTokens [] line = IsTrue (list_all is_blank line)
AreTokens (t ∷ ts) line = (to : List ℕ) × IsToken t (following is_blank line) to × AreTokens ts to
