-- How bytes are shown as characters of an XML document.
use Rattle.std.specs.Prelude.{ℕ, ◌==◌, ◌||◌, ◌&&◌, not, nat_lt, Bool, if◌then◌else◌, List, [], ◌∷◌, ◌++◌, codes}
use Rattle.std.specs.Str.{is_utf8}
use Rattle.std.specs.List.{flat_map, list_any}
use Rattle.value_types.specs.ValueText.{hex_byte}

-- Whether XML takes the bytes from 80 on of a text as they are: it is UTF-8, and has no character from U+F000 to U+FFFF, of which
-- XML does not take all.
abbrev pub is_wide : List ℕ → Bool
is_wide text = is_utf8 text && not (list_any (λ byte. byte == 239) text)

-- A byte as XML takes it: marks by their entities, a control byte by its digits, and so any byte from 80 on, unless it is
-- taken as it is.
abbrev pub xml_byte : Bool → ℕ → List ℕ
xml_byte wide byte =
    if byte == 60 then codes "&lt;" else
    (if byte == 62 then codes "&gt;" else
    (if byte == 38 then codes "&amp;" else
    (if nat_lt byte 32 || (nat_lt 126 byte && not (wide && nat_lt 127 byte)) then codes "\\x" ++ hex_byte byte else
    (byte ∷ []))))

-- a text as characters of XML
abbrev pub shown : List ℕ → List ℕ
shown text = flat_map (xml_byte (is_wide text)) text
