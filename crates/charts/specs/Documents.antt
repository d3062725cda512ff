-- Which bytes are an XML document of one element: each element that opens closes, in order, and no other byte is markup. Whether the
-- bytes from 128 on are UTF-8 is not said here.
use Rattle.std.specs.Prelude.{◌≡◌, ℕ, ◌==◌, ◌&&◌, ◌||◌, not, nat_lt, Bool, true, false, List, [], ◌∷◌, ◌++◌, codes, IsTrue}
use Rattle.std.specs.List.{list_all, list_any}
use Rattle.std.specs.Str.{bytes_eq}

-- Names

-- whether a byte is a letter
abbrev pub is_letter : ℕ → Bool
is_letter byte = (nat_lt 64 byte && nat_lt byte 91) || (nat_lt 96 byte && nat_lt byte 123)

-- whether a byte may be in a name: a letter, a digit or a dash
abbrev pub is_name_byte : ℕ → Bool
is_name_byte byte = is_letter byte || ((nat_lt 47 byte && nat_lt byte 58) || (byte == 45))

-- whether a text is a name, which begins with a letter
abbrev pub is_name : List ℕ → Bool
is_name [] = false
is_name (first ∷ rest) = is_letter first && list_all is_name_byte rest

-- Characters

-- whether a byte is a character by itself: no `<`, `>` or `&`, and no control byte below the blank but the line feed
abbrev pub is_character : ℕ → Bool
is_character byte = (byte == 10) || (nat_lt 31 byte && not ((byte == 60) || ((byte == 62) || (byte == 38))))

-- what a character is that is written by its name
pub data IsEntity : List ℕ → Type 0 where
  less : IsEntity (codes "&lt;")
  greater : IsEntity (codes "&gt;")
  ampersand : IsEntity (codes "&amp;")

-- Attributes

-- the name and the value of an attribute
pub record Attribute : Type 0 where
  pub name : List ℕ
  pub value : List ℕ

-- attributes, each after a blank and with its value between quotes
abbrev pub attributes_text : List Attribute → List ℕ
attributes_text [] = []
attributes_text (attribute ∷ rest) = codes " " ++ attribute.name ++ codes "=\"" ++ attribute.value ++ codes "\"" ++ attributes_text rest

-- whether a byte may be in a value: it is a character, and no quote
abbrev pub is_value_byte : ℕ → Bool
is_value_byte byte = is_character byte && not (byte == 34)

-- whether an attribute has a name and a value
abbrev pub is_attribute : Attribute → Bool
is_attribute attribute = is_name attribute.name && list_all is_value_byte attribute.value

-- whether no two attributes have the same name
abbrev pub are_distinct : List Attribute → Bool
are_distinct [] = true
are_distinct (attribute ∷ rest) = not (list_any (λ other. bytes_eq attribute.name other.name) rest) && are_distinct rest

-- what the attributes of an element are
pub record AreAttributes (attributes : List Attribute) : Type 0 where
  pub each : IsTrue (list_all is_attribute attributes)
  pub distinct : IsTrue (are_distinct attributes)

-- Elements

-- an element that has nothing in it
abbrev pub empty_element : List ℕ → List Attribute → List ℕ
empty_element name attributes = codes "<" ++ name ++ attributes_text attributes ++ codes "/>"

-- an element around what is in it
abbrev pub element_around : List ℕ → List Attribute → List ℕ → List ℕ
element_around name attributes content = codes "<" ++ name ++ attributes_text attributes ++ codes ">" ++ content ++ codes "</" ++ name ++ codes ">"

-- What is in an element: characters and elements.
pub data IsContent : List ℕ → Type 0 where
  nothing : IsContent []
  character : (byte : ℕ) (rest : List ℕ) → IsTrue (is_character byte) → IsContent rest → IsContent (byte ∷ rest)
  entity : (text rest : List ℕ) → IsEntity text → IsContent rest → IsContent (text ++ rest)
  empty : (name : List ℕ) (attributes : List Attribute) (rest : List ℕ) → IsTrue (is_name name) → AreAttributes attributes → IsContent rest → IsContent (empty_element name attributes ++ rest)
  around : (name : List ℕ) (attributes : List Attribute) (content rest : List ℕ) → IsTrue (is_name name) → AreAttributes attributes → IsContent content → IsContent rest → IsContent (element_around name attributes content ++ rest)

-- A document: one element of this name, and a line feed.
pub record IsDocument (name text : List ℕ) : Type 0 where
  pub attributes : List Attribute
  pub content : List ℕ
  pub named : IsTrue (is_name name)
  pub are_attributes : AreAttributes attributes
  pub is_content : IsContent content
  pub whole : text ≡ element_around name attributes content ++ codes "\n"
