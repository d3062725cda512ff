-- Pieces of content side by side, and shown texts as content.
use Rattle.std.proofs.Common.{◌≡◌, ◌≢◌, ℕ, suc, zero, ◌+◌, ◌<◌, ◌/◌, ◌%◌, ◌==◌, Bool, true, false, cond, not, nat_lt, ◌&&◌, ◌||◌, List, [], ◌∷◌, ◌++◌, refl, sym, ap, subst, arith, append_assoc, IsTrue, Option, Some, None}
use Rattle.std.specs.Prelude.{codes, take}
use Rattle.std.specs.List.{flat_map, list_all}
use Rattle.std.specs.Fmt.{decimal, digits, digits_onto}
use Rattle.std.proofs.lemmas.List.{append-nil}
use Rattle.std.proofs.lemmas.Bool.{lt-ltb, ltb-false, ltb-true, ne_eqb}
use Rattle.value_types.specs.ValueText.{hex_digit}
use Rattle.charts.specs.Documents.{AreAttributes, Attribute, IsContent, nothing, character, entity, empty, around, less, greater, ampersand, element_around, empty_element, is_character, is_name, is_value_byte}
use Rattle.charts.specs.Escapes.{is_wide, shown, xml_byte}
use Rattle.charts.specs.Labels.{cut, cut_by, ellipsis, kept_length}
use Rattle.charts.proofs.Tests.{both_hold, first_of_both, second_of_both}

-- Side by side

-- content after content
pub beside : {one other : List ℕ} → IsContent one → IsContent other → IsContent (one ++ other)
beside nothing q = q
beside (character byte rest is p) q = character byte _ is (beside p q)
beside {other = other} (entity text rest is p) q = subst IsContent (sym (append_assoc text rest other)) (entity text _ is (beside p q))
beside {other = other} (empty name attributes rest named are p) q = subst IsContent (sym (append_assoc (empty_element name attributes) rest other)) (empty name attributes _ named are (beside p q))
beside {other = other} (around name attributes content rest named are inner p) q =
    subst IsContent (sym (append_assoc (element_around name attributes content) rest other)) (around name attributes content _ named are inner (beside p q))

-- an element with nothing in it is content
pub alone_empty : (name : List ℕ) (attributes : List Attribute) → IsTrue (is_name name) → AreAttributes attributes → IsContent (empty_element name attributes)
alone_empty name attributes named are = subst IsContent (append-nil (empty_element name attributes)) (empty name attributes [] named are nothing)

-- an element around content is content
pub alone_around : (name : List ℕ) (attributes : List Attribute) (content : List ℕ) → IsTrue (is_name name) → AreAttributes attributes → IsContent content → IsContent (element_around name attributes content)
alone_around name attributes content named are inner = subst IsContent (append-nil (element_around name attributes content)) (around name attributes content [] named are inner nothing)

-- Characters

-- characters by themselves are content
pub characters : (text : List ℕ) → IsTrue (list_all is_character text) → IsContent text
characters [] is = nothing
characters (byte ∷ rest) is = character byte rest (first_of_both _ _ is) (characters rest (second_of_both (is_character byte) _ is))

-- a byte that is no mark, and no control byte, is a character
character_of : (byte : ℕ) → nat_lt 31 byte ≡ true → (byte == 60) ≡ false → (byte == 62) ≡ false → (byte == 38) ≡ false → IsTrue (is_character byte)
character_of byte printed a b c = rw (printed, a, b, c) (either (byte == 10))
  where
    either : (b : Bool) → b || true ≡ true
    either true = refl
    either false = refl

-- a digit is a character of a value
digit_is : (n : ℕ) → IsTrue (is_value_byte (hex_digit n))
digit_is n = by (nat_lt n 10) refl
  where
    of : (byte : ℕ) → 47 < byte → byte ≢ 60 → byte ≢ 62 → IsTrue (is_value_byte byte)
    of byte l a b = both_hold (is_character byte) (not (byte == 34)) (character_of byte (lt-ltb 31 byte (omega arith)) (ne_eqb byte 60 a) (ne_eqb byte 62 b) (ne_eqb byte 38 (omega arith))) (ap not (ne_eqb byte 34 (omega arith)))

    by : (small : Bool) → nat_lt n 10 ≡ small → IsTrue (is_value_byte (cond small (48 + n) (87 + n)))
    by true e = let l : n < 10 = ltb-true n 10 e in of (48 + n) (omega arith) (omega arith) (omega arith)
    by false e = of (87 + n) (omega (arith, ltb-false n 10 e)) (omega (arith, ltb-false n 10 e)) (omega (arith, ltb-false n 10 e))

digit_character : (n : ℕ) → IsTrue (is_character (hex_digit n))
digit_character n = first_of_both (is_character (hex_digit n)) _ (digit_is n)

-- Shown texts

-- a byte as XML takes it is content
byte_content : (wide : Bool) (byte : ℕ) → IsContent (xml_byte wide byte)
byte_content wide byte = by (byte == 60) (byte == 62) (byte == 38) (nat_lt byte 32) (nat_lt 126 byte && not (wide && nat_lt 127 byte)) refl refl refl refl
  where
    by : (a b c low high : Bool) → (byte == 60) ≡ a → (byte == 62) ≡ b → (byte == 38) ≡ c → nat_lt byte 32 ≡ low
        → IsContent (cond a (codes "&lt;") (cond b (codes "&gt;") (cond c (codes "&amp;") (cond (low || high) (codes "\\x" ++ hex_digit (byte / 16) ∷ hex_digit (byte % 16) ∷ []) (byte ∷ [])))))
    by true b c low high e f g h = entity (codes "&lt;") [] less nothing
    by false true c low high e f g h = entity (codes "&gt;") [] greater nothing
    by false false true low high e f g h = entity (codes "&amp;") [] ampersand nothing
    by false false false true high e f g h = character 92 _ refl (character 120 _ refl (character _ _ (digit_character (byte / 16)) (character _ _ (digit_character (byte % 16)) nothing)))
    by false false false false true e f g h = character 92 _ refl (character 120 _ refl (character _ _ (digit_character (byte / 16)) (character _ _ (digit_character (byte % 16)) nothing)))
    by false false false false false e f g h = character byte [] (character_of byte (lt-ltb 31 byte (omega (arith, ltb-false byte 32 h))) e f g) nothing

bytes_content : (wide : Bool) (text : List ℕ) → IsContent (flat_map (xml_byte wide) text)
bytes_content wide [] = nothing
bytes_content wide (byte ∷ rest) = beside (byte_content wide byte) (bytes_content wide rest)

-- a shown text is content
pub shown_content : (text : List ℕ) → IsContent (shown text)
shown_content text = bytes_content (is_wide text) text

cut_by_content : (kept : Option ℕ) (text : List ℕ) → IsContent (cut_by kept text)
cut_by_content None text = shown_content text
cut_by_content (Some kept) text = beside (beside (shown_content (take kept text)) (characters ellipsis refl)) (characters (codes ")") refl)

-- so is a text with its values cut
pub cut_content : (text : List ℕ) → IsContent (cut text)
cut_content text = cut_by_content (kept_length text) text

-- Values

-- two lists whose elements all pass a test, side by side
pub all_beside : {X : Type 0} (test : X → Bool) (one other : List X) → IsTrue (list_all test one) → IsTrue (list_all test other) → IsTrue (list_all test (one ++ other))
all_beside test [] other p q = q
all_beside test (x ∷ rest) other p q = both_hold (test x) _ (first_of_both _ _ p) (all_beside test rest other (second_of_both (test x) _ p) q)

onto_value : (count n : ℕ) (after : List ℕ) → IsTrue (list_all is_value_byte after) → IsTrue (list_all is_value_byte (digits_onto count 10 false n after))
onto_value zero n after p = p
onto_value (suc count) n after p = by (n / 10 == 0) (onto_value count (n / 10) _ more)
  where
    more : IsTrue (list_all is_value_byte (hex_digit (n % 10) ∷ after))
    more = both_hold (is_value_byte (hex_digit (n % 10))) _ (digit_is (n % 10)) p

    by : (last : Bool) → IsTrue (list_all is_value_byte (digits_onto count 10 false (n / 10) (hex_digit (n % 10) ∷ after)))
        → IsTrue (list_all is_value_byte (cond last (hex_digit (n % 10) ∷ after) (digits_onto count 10 false (n / 10) (hex_digit (n % 10) ∷ after))))
    by true q = more
    by false q = q

-- a decimal number is a value
pub decimal_value : (n : ℕ) → IsTrue (list_all is_value_byte (decimal n))
unfolding digits
decimal_value n = onto_value 64 n [] refl
