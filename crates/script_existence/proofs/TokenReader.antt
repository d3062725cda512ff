-- The tokens of a line, as a function, and that it finds them exactly if there are some.
use Rattle.std.proofs.Common.{◌≡◌, ℕ, zero, suc, ◌+◌, ◌<◌, ◌≤◌, min, nat_lt, ◌==◌, Bool, true, false, if◌then◌else◌, pos, ◌-ℤ◌, List, [], ◌∷◌, take, drop, length, slice_index, Option, Some, None, unwrap_or, option_map, option_and_then, take_while, inl, inr, refl, sym, ap, ◌∙◌, subst, arith, length-drop}
use Rattle.std.specs.List.{list_all, prefix_len}
use Rattle.std.specs.Str.{IsUtf8, is_utf8}
use Rattle.std.proofs.lemmas.Bool.{cases_Bool, eqb-true, eqb-false, true≢false}
use Rattle.std.proofs.lemmas.List.Sums.{prefix_len-le-length}
use Rattle.std.proofs.lemmas.Str.{IsUtf8-from_is_utf8, is_utf8-from_IsUtf8}
use Rattle.ipdl_base.specs.Words.{is_word_byte}
use Rattle.script_reader.specs.declared.token.ScriptToken.{ScriptToken}
use Rattle.script_reader.specs.declared.token.ScriptToken.TheVariants as token
use Rattle.script_reader.specs.declared.token.TokenClass.{TokenClass}
use Rattle.script_reader.specs.declared.token.TokenClass.TheVariants as class
use Rattle.script_reader.specs.Tokens.{is_blank, is_digit, following, value_of, max_count, beyond, IsNumber, hex_at, character_at, InSequence, InQuotes, hex_byte, escape, if_ascii, escaped_at, class_of, IsTokenOf, IsToken, AreTokens}
use Rattle.script_reader.proofs.Begins.{word_begins, one_token}
use Rattle.script_reader.proofs.Sequences.{quote_no_character, quote_no_digits, none_in_quotes, one_in_quotes}
use Rattle.script_existence.proofs.Found.{Finds, AtFront, finds_as, finds_then}

-- Numbers

abbrev number_by : ℕ → List ℕ → List ℕ → Option (ℕ × List ℕ)
number_by limit from [] = None
number_by limit from (d ∷ digits) = Some (min (value_of (d ∷ digits)) limit, following is_digit from)

-- the number that digits at the start spell, or the limit if the number is above it, and what is left
abbrev read_number : ℕ → List ℕ → Option (ℕ × List ℕ)
read_number limit from = number_by limit from (take_while is_digit from)

number_by-finds : (limit : ℕ) (from digits : List ℕ) → take_while is_digit from ≡ digits → Finds (AtFront (IsNumber limit) from) (number_by limit from digits)
number_by-finds limit from [] e = λ found h. h.some e
number_by-finds limit from (d ∷ digits) e = record {
  some = λ none. let both : [] ≡ d ∷ digits = sym none ∙ e in let no : ⊥ = cc in no;
  value = ap (λ ds. min (value_of ds) limit) (sym e);
  rest = refl;
}

number_finds : (limit : ℕ) (from : List ℕ) → Finds (AtFront (IsNumber limit) from) (read_number limit from)
number_finds limit from = number_by-finds limit from (take_while is_digit from) refl

-- Bytes in quotes

-- a byte at the start, and what is left
abbrev pub ByteReader : Type 0
ByteReader = List ℕ → Option (ℕ × List ℕ)

abbrev pub one_more : ℕ → List ℕ × List ℕ → List ℕ × List ℕ
one_more b found = (b ∷ found.0, found.1)

abbrev pub bytes_by : (List ℕ → List ℕ × List ℕ) → List ℕ → Option (ℕ × List ℕ) → List ℕ × List ℕ
bytes_by more from None = ([], from)
bytes_by more from (Some found) = one_more found.0 (more found.1)

-- the bytes at the start, each as `at` finds it, at most a given number; and what is left
abbrev pub read_bytes : ByteReader → ℕ → List ℕ → List ℕ × List ℕ
read_bytes at zero from = ([], from)
read_bytes at (suc n) from = bytes_by (read_bytes at n) from (at from)

-- each byte that is found takes some of the text
abbrev Shortens : ByteReader → Type 0
Shortens at = (from : List ℕ) (b : ℕ) (to : List ℕ) → at from ≡ Some (b, to) → length to < length from

-- these bytes are found, and no more
abbrev FindsAll : ByteReader → List ℕ → List ℕ × List ℕ → Type 0
FindsAll at from found = InSequence at found.0 from found.1 × (at found.1 ≡ None)

bytes_by-finds : (at : ByteReader) → Shortens at → (n : ℕ) → ((from : List ℕ) → length from < n → FindsAll at from (read_bytes at n from))
    → (from : List ℕ) → length from < suc n → (o : Option (ℕ × List ℕ)) → at from ≡ o → FindsAll at from (bytes_by (read_bytes at n) from o)
bytes_by-finds at shortens n more from below None e = (refl, e)
bytes_by-finds at shortens n more from below (Some found) e =
    let shorter = shortens from found.0 found.1 e in
    let rest = more found.1 (omega arith) in
    ((found.1, e, rest.0), rest.1)

bytes_find : (at : ByteReader) → Shortens at → (n : ℕ) (from : List ℕ) → length from < n → FindsAll at from (read_bytes at n from)
bytes_find at shortens zero from below = absurd (omega arith)
bytes_find at shortens (suc n) from below = bytes_by-finds at shortens n (bytes_find at shortens n) from below (at from) refl

abbrev pub quoted_by : List ℕ → List ℕ → Option (List ℕ × List ℕ)
quoted_by bytes [] = None
quoted_by bytes (b ∷ to) = if b == 34 then Some (bytes, to) else None

abbrev pub quoted : List ℕ × List ℕ → Option (List ℕ × List ℕ)
quoted found = quoted_by found.0 found.1

-- the bytes up to a quote, and what is left after it
abbrev pub read_quoted : ByteReader → List ℕ → Option (List ℕ × List ℕ)
read_quoted at from = quoted (read_bytes at (suc (length from)) from)

quoted_by-finds : (at : ByteReader) → ((to : List ℕ) → at (34 ∷ to) ≡ None) → (from bytes rest : List ℕ) → InSequence at bytes from rest → at rest ≡ None → Finds (AtFront (InQuotes at) from) (quoted_by bytes rest)
quoted_by-finds at quote from bytes [] s ends = λ found h. none_in_quotes at bytes from [] quote (record { found = s }) ends (λ to e. let no : ⊥ = cc in no) found.0 found.1 h
quoted_by-finds at quote from bytes (b ∷ to) s ends = elim (cases_Bool (b == 34)) [
  | inl is ↦ rw is (let P : ℕ → Type 0 = λ c. InSequence at bytes from (c ∷ to) in subst P (eqb-true b 34 is) s)
  | inr other ↦ rw other (λ found h. none_in_quotes at bytes from (b ∷ to) quote (record { found = s }) ends (λ more e. eqb-false b 34 other (let same : b ≡ 34 = cc in same)) found.0 found.1 h)
]

quoted_finds : (at : ByteReader) → Shortens at → ((to : List ℕ) → at (34 ∷ to) ≡ None) → (from : List ℕ) → Finds (AtFront (InQuotes at) from) (read_quoted at from)
quoted_finds at shortens quote from =
    let found = bytes_find at shortens (suc (length from)) from (omega arith) in
    quoted_by-finds at quote from (read_bytes at (suc (length from)) from).0 (read_bytes at (suc (length from)) from).1 found.0 found.1

-- two hexadecimal digits take some of the text, and so does a byte of a text between quotes

abbrev before_rest : Option ℕ → List ℕ → Option (ℕ × List ℕ)
before_rest o rest = option_map (λ c. (c, rest)) o

tail_is : (o : Option ℕ) (rest : List ℕ) (b : ℕ) (to : List ℕ) → before_rest o rest ≡ Some (b, to) → rest ≡ to
tail_is None rest b to e = absurd (let no : ⊥ = cc in no)
tail_is (Some c) rest b to e = ap (λ (o : Option (ℕ × List ℕ)). (unwrap_or o (0, [])).1) e

hex_shortens : Shortens hex_at
hex_shortens [] b to e = absurd (let no : ⊥ = cc in no)
hex_shortens (high ∷ []) b to e = absurd (let no : ⊥ = cc in no)
hex_shortens (high ∷ low ∷ rest) b to e = let same = ap length (tail_is (hex_byte high low) rest b to e) in omega arith

ascii_same : (o : Option (ℕ × List ℕ)) (found : ℕ × List ℕ) → option_and_then if_ascii o ≡ Some found → o ≡ Some found
ascii_same None found e = absurd (let no : ⊥ = cc in no)
ascii_same (Some x) found e = elim (cases_Bool (nat_lt x.0 128)) [
  | inl below ↦ rw below at e
  | inr above ↦ absurd (let none : None ≡ Some found = rw above at e in let no : ⊥ = cc in no)
]

escaped_shortens : Shortens escaped_at
escaped_shortens [] b to e = absurd (let no : ⊥ = cc in no)
escaped_shortens (c ∷ rest) b to e = elim (cases_Bool (c == 120)) [
  | inl hex ↦ (let shorter = hex_shortens rest b to (ascii_same (hex_at rest) (b, to) (rw hex at e)) in omega arith)
  | inr other ↦ (let same = ap length (tail_is (escape c) rest b to (rw other at e)) in omega arith)
]

character_shortens : Shortens character_at
character_shortens [] b to e = absurd (let no : ⊥ = cc in no)
character_shortens (c ∷ rest) b to e = elim (cases_Bool (c == 34)) [
  | inl quote ↦ absurd (let none : None ≡ Some (b, to) = rw quote at e in let no : ⊥ = cc in no)
  | inr no_quote ↦ elim (cases_Bool (c == 92)) [
    | inl escaped ↦ (let shorter = escaped_shortens rest b to (rw (no_quote, escaped) at e) in omega arith)
    | inr plain ↦ (let same = ap length (tail_is (Some c) rest b to (rw (no_quote, plain) at e)) in omega arith)
  ]
]

-- Tokens

-- bytes that are text
abbrev as_text : List ℕ × List ℕ → Option (ScriptToken × List ℕ)
as_text found = if is_utf8 found.0 then Some (token.Text found.0, found.1) else None

-- the token of this class at the start, and what is left
abbrev token_of : TokenClass → List ℕ → Option (ScriptToken × List ℕ)
token_of class.Word from = Some (token.Word (take_while is_word_byte from), following is_word_byte from)
token_of class.Param from = option_map (λ found. (token.Param found.0, found.1)) (read_number max_count (drop 1 from))
token_of class.Index from = option_map (λ found. (token.Index found.0, found.1)) (read_number max_count (drop 1 from))
token_of class.Negative from = option_map (λ found. (token.Number (pos 0 -ℤ pos found.0), found.1)) (read_number beyond (drop 1 from))
token_of class.Number from = option_map (λ found. (token.Number (pos found.0), found.1)) (read_number beyond from)
token_of class.Text from = option_and_then as_text (read_quoted character_at (drop 1 from))
token_of class.Bytes from = option_map (λ found. (token.Bytes found.0, found.1)) (read_quoted hex_at (drop 2 from))
token_of class.Mark from = Some (token.Mark (slice_index from 0), drop 1 from)
token_of class.Other from = None

-- the token at the start, and what is left
abbrev read_token : List ℕ → Option (ScriptToken × List ℕ)
read_token from = token_of (class_of from) from

text_finds : (from : List ℕ) (found : List ℕ × List ℕ) → InQuotes character_at found.0 (drop 1 from) found.1 → Finds (AtFront (IsTokenOf class.Text) from) (as_text found)
text_finds from found h = elim (cases_Bool (is_utf8 found.0)) [
  | inl utf8 ↦ rw utf8 (found.0, refl, IsUtf8-from_is_utf8 found.0 utf8, h)
  | inr other ↦ rw other (λ t k.
      let same = one_in_quotes character_at k.0 found.0 (drop 1 from) t.1 found.1 quote_no_character k.3 h in
      true≢false (sym (is_utf8-from_IsUtf8 found.0 (subst IsUtf8 same.0 k.2)) ∙ other))
]

token_of-finds : (k : TokenClass) (from : List ℕ) → Finds (AtFront (IsTokenOf k) from) (token_of k from)
token_of-finds class.Word from = (refl, refl)
token_of-finds class.Param from = finds_as (AtFront (IsNumber max_count) (drop 1 from)) (AtFront (IsTokenOf class.Param) from) (λ found. (token.Param found.0, found.1)) (λ found h. (found.0, refl, h)) (λ none t h. none (h.0, t.1) h.2) (read_number max_count (drop 1 from)) (number_finds max_count (drop 1 from))
token_of-finds class.Index from = finds_as (AtFront (IsNumber max_count) (drop 1 from)) (AtFront (IsTokenOf class.Index) from) (λ found. (token.Index found.0, found.1)) (λ found h. (found.0, refl, h)) (λ none t h. none (h.0, t.1) h.2) (read_number max_count (drop 1 from)) (number_finds max_count (drop 1 from))
token_of-finds class.Negative from = finds_as (AtFront (IsNumber beyond) (drop 1 from)) (AtFront (IsTokenOf class.Negative) from) (λ found. (token.Number (pos 0 -ℤ pos found.0), found.1)) (λ found h. (found.0, refl, h)) (λ none t h. none (h.0, t.1) h.2) (read_number beyond (drop 1 from)) (number_finds beyond (drop 1 from))
token_of-finds class.Number from = finds_as (AtFront (IsNumber beyond) from) (AtFront (IsTokenOf class.Number) from) (λ found. (token.Number (pos found.0), found.1)) (λ found h. (found.0, refl, h)) (λ none t h. none (h.0, t.1) h.2) (read_number beyond from) (number_finds beyond from)
token_of-finds class.Text from = finds_then (AtFront (InQuotes character_at) (drop 1 from)) (AtFront (IsTokenOf class.Text) from) as_text (text_finds from) (λ none t h. none (h.0, t.1) h.3) (read_quoted character_at (drop 1 from)) (quoted_finds character_at character_shortens quote_no_character (drop 1 from))
token_of-finds class.Bytes from = finds_as (AtFront (InQuotes hex_at) (drop 2 from)) (AtFront (IsTokenOf class.Bytes) from) (λ found. (token.Bytes found.0, found.1)) (λ found h. (found.0, refl, h)) (λ none t h. none (h.0, t.1) h.2) (read_quoted hex_at (drop 2 from)) (quoted_finds hex_at hex_shortens quote_no_digits (drop 2 from))
token_of-finds class.Mark from = (refl, refl)
token_of-finds class.Other from = λ t h. h

token_finds : (from : List ℕ) → Finds (AtFront IsToken from) (read_token from)
token_finds from = token_of-finds (class_of from) from

-- a token takes some of the line

after_shorter : (test : ℕ → Bool) (from : List ℕ) → length (following test from) + prefix_len test from ≡ length from
after_shorter test from = let within = prefix_len-le-length test from in omega (arith, length-drop (prefix_len test from) from)

sequence_shorter : (at : ByteReader) → Shortens at → (bytes from to : List ℕ) → InSequence at bytes from to → length to ≤ length from
sequence_shorter at shortens [] from to s = omega (arith, ap length s)
sequence_shorter at shortens (b ∷ bytes) from to s =
    let first = shortens from b s.0 s.1 in
    let rest = sequence_shorter at shortens bytes s.0 to s.2 in
    omega arith

quotes_shorter : (at : ByteReader) → Shortens at → (bytes from to : List ℕ) → InQuotes at bytes from to → length to < length from
quotes_shorter at shortens bytes from to s = let rest = sequence_shorter at shortens bytes from (34 ∷ to) s in omega arith

digits_shorter : (limit n : ℕ) (from to : List ℕ) → IsNumber limit n from to → length to < length from
digits_shorter limit n from to h = some_digits (prefix_len is_digit from) refl
  where
    some_digits : (k : ℕ) → prefix_len is_digit from ≡ k → length to < length from
    some_digits zero e = absurd (h.some (ap (λ m. take m from) e))
    some_digits (suc k) e = omega (arith, after_shorter is_digit from, ap length h.rest)

token_of-shorter : (k : TokenClass) (b : ℕ) (bs : List ℕ) → class_of (b ∷ bs) ≡ k → (t : ScriptToken) (to : List ℕ) → IsTokenOf k t (b ∷ bs) to → length to ≤ length bs
token_of-shorter class.Word b bs is t to h = let some = word_begins (b ∷ bs) is in omega (arith, after_shorter is_word_byte (b ∷ bs), ap length h.1)
token_of-shorter class.Param b bs is t to h = let less = digits_shorter max_count h.0 bs to h.2 in omega arith
token_of-shorter class.Index b bs is t to h = let less = digits_shorter max_count h.0 bs to h.2 in omega arith
token_of-shorter class.Negative b bs is t to h = let less = digits_shorter beyond h.0 bs to h.2 in omega arith
token_of-shorter class.Number b bs is t to h = let less = digits_shorter beyond h.0 (b ∷ bs) to h.2 in omega arith
token_of-shorter class.Text b bs is t to h = let less = quotes_shorter character_at character_shortens h.0 bs to h.3 in omega arith
token_of-shorter class.Bytes b bs is t to h = let less = quotes_shorter hex_at hex_shortens h.0 (drop 1 bs) to h.2 in omega (arith, length-drop 1 bs)
token_of-shorter class.Mark b bs is t to h = omega (arith, ap length h.1)
token_of-shorter class.Other b bs is t to h = absurd h

token_shorter : (t : ScriptToken) (from to : List ℕ) → IsToken t from to → length to < length from
token_shorter t [] to h = absurd h
token_shorter t (b ∷ bs) to h = let shorter = token_of-shorter (class_of (b ∷ bs)) b bs refl t to h in omega arith

-- Lines

abbrev tokens_after : (List ℕ → Option (List ScriptToken)) → ScriptToken × List ℕ → Option (List ScriptToken)
tokens_after more found = option_map (λ ts. found.0 ∷ ts) (more found.1)

abbrev tokens_by : (List ℕ → Option (List ScriptToken)) → List ℕ → Bool → Option (List ScriptToken)
tokens_by more line true = Some []
tokens_by more line false = option_and_then (tokens_after more) (read_token (following is_blank line))

-- the tokens of a line with fewer bytes than a given number
abbrev tokens_below : ℕ → List ℕ → Option (List ScriptToken)
tokens_below zero line = None
tokens_below (suc n) line = tokens_by (tokens_below n) line (list_all is_blank line)

-- the tokens of a line
abbrev pub read_tokens : List ℕ → Option (List ScriptToken)
read_tokens line = tokens_below (suc (length line)) line

abbrev AreTokensOf : List ℕ → List ScriptToken → Type 0
AreTokensOf line ts = AreTokens ts line

-- what is not blank has a first token
no_tokens : (line : List ℕ) → list_all is_blank line ≡ false → ((found : ScriptToken × List ℕ) → ¬ IsToken found.0 (following is_blank line) found.1) → (ts : List ScriptToken) → ¬ AreTokens ts line
no_tokens line some none [] h = true≢false (sym h ∙ some)
no_tokens line some none (t ∷ ts) h = none (t, h.0) h.1

no_more : (line : List ℕ) (t : ScriptToken) (to : List ℕ) → list_all is_blank line ≡ false → IsToken t (following is_blank line) to → ((ts : List ScriptToken) → ¬ AreTokens ts to) → (ts : List ScriptToken) → ¬ AreTokens ts line
no_more line t to some is none [] h = true≢false (sym h ∙ some)
no_more line t to some is none (u ∷ us) h =
    let P : List ℕ → Type 0 = λ l. AreTokens us l in
    none us (subst P (one_token u t (following is_blank line) h.0 to h.1 is).1 h.2)

tokens_by-find : (n : ℕ) → ((line : List ℕ) → length line < n → Finds (AreTokensOf line) (tokens_below n line))
    → (line : List ℕ) → length line < suc n → (blank : Bool) → list_all is_blank line ≡ blank → Finds (AreTokensOf line) (tokens_by (tokens_below n) line blank)
tokens_by-find n more line below true e = e
tokens_by-find n more line below false e =
    finds_then (AtFront IsToken (following is_blank line)) (AreTokensOf line) (tokens_after (tokens_below n))
    (λ found is.
    let shorter = token_shorter found.0 (following is_blank line) found.1 is in
    finds_as (AreTokensOf found.1) (AreTokensOf line) (λ ts. found.0 ∷ ts) (λ ts h. (found.1, is, h)) (no_more line found.0 found.1 e is) (tokens_below n found.1)
    (more found.1 (omega (arith, after_shorter is_blank line))))
    (no_tokens line e)
    (read_token (following is_blank line))
    (token_finds (following is_blank line))

tokens_below-find : (n : ℕ) (line : List ℕ) → length line < n → Finds (AreTokensOf line) (tokens_below n line)
tokens_below-find zero line below = absurd (omega arith)
tokens_below-find (suc n) line below = tokens_by-find n (tokens_below-find n) line below (list_all is_blank line) refl

-- the tokens are found exactly if there are some
pub tokens_find : (line : List ℕ) → Finds (λ ts. AreTokens ts line) (read_tokens line)
tokens_find line = tokens_below-find (suc (length line)) line (omega arith)
