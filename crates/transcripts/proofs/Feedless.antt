-- What is printed of numbers, names and values has no line feed.
use Rattle.std.proofs.Common.{◌≡◌, ℕ, zero, suc, ◌+◌, ◌/◌, ◌%◌, ◌==◌, ℤ, pos, negsuc, nat_lt, Bool, true, false, not, ◌&&◌, ◌||◌, cond, if◌then◌else◌, List, [], ◌∷◌, ◌++◌, codes, find, Option, Some, None, unwrap_or, refl, sym, ap, subst, ◌∙◌, arith}
use Rattle.std.specs.Prelude.{IfSome, slice_get}
use Rattle.std.specs.Fmt.{decimal, digit_glyph, digits, digits_onto, signed_decimal}
use Rattle.std.specs.List.{AllByRecursion, flat_map, list_all, list_any}
use Rattle.std.specs.Option.{option_map_or}
use Rattle.std.specs.Ordering.{int_eq}
use Rattle.std.proofs.lemmas.Bool.{eqb-true}
use Rattle.std.proofs.lemmas.List.Folds.{list_all-append}
use Rattle.ipdl_base.specs.declared.schema.MessageRow.{MessageRow}
use Rattle.ipdl_base.specs.declared.schema.ParamRow.{ParamRow}
use Rattle.ipdl_base.specs.declared.schema.ProtocolRow.{ProtocolRow}
use Rattle.ipdl_base.specs.declared.schema.Schema.{Schema}
use Rattle.ipdl_base.specs.declared.schema.Shape.{Shape}
use Rattle.ipdl_base.specs.declared.value.Value.{Value, Union', Maybe', Held-Value-Maybe-0, None', Some'}
use Rattle.ipdl_base.specs.declared.value.Value.TheVariants as value
use Rattle.ipdl_base.specs.declared.value.Values.{Values, First'}
use Rattle.ipdl_base.specs.declared.value.Values.TheVariants as values
use Rattle.ipdl_base.specs.Sound.{IsSound, has_number, message_of}
use Rattle.ipdl_base.specs.Words.{IsWord, is_word_start, is_word_byte, joined, IsFullName, short_name}
use Rattle.history.specs.Text.{listed_values, message_text, numbered, protocol_text}
use Rattle.value_types.specs.Shapes.{builtin_of, element_of, held_by, fields_of, component_of}
use Rattle.value_types.specs.ValueText.{hex_digit, hex_byte, hex_digits, bool_text, escaped, quoted, bytes_text, bits_text, digit_count_of, actor_text, value_text, held_text, elements_text, parts_text}

-- whether no byte is a line feed
abbrev pub has_no_feed : List ℕ → Bool
has_no_feed bytes = list_all (λ b. not (b == 10)) bytes

pub feedless-append : (xs ys : List ℕ) → has_no_feed xs ≡ true → has_no_feed ys ≡ true → has_no_feed (xs ++ ys) ≡ true
feedless-append xs ys h k = list_all-append (λ b. not (b == 10)) xs ys ∙ ap (λ (b : Bool). b && has_no_feed ys) h ∙ k

pub feedless-three : (xs ys zs : List ℕ) → has_no_feed xs ≡ true → has_no_feed ys ≡ true → has_no_feed zs ≡ true → has_no_feed (xs ++ ys ++ zs) ≡ true
feedless-three xs ys zs h k l = feedless-append (xs ++ ys) zs (feedless-append xs ys h k) l

no-feed : (n : ℕ) → (n ≡ 10 → ⊥) → not (n == 10) ≡ true
no-feed n h = by (n == 10) refl
  where
    by : (b : Bool) → (n == 10) ≡ b → not b ≡ true
    by true e = absurd (h (eqb-true n 10 e))
    by false e = refl

feedless-first : (n : ℕ) (ns : List ℕ) → (n ≡ 10 → ⊥) → has_no_feed ns ≡ true → has_no_feed (n ∷ ns) ≡ true
feedless-first n ns h k = ap (λ (b : Bool). b && has_no_feed ns) (no-feed n h) ∙ k

both : (a b : Bool) → (a && b) ≡ true → (a ≡ true) × (b ≡ true)
both true true h = (refl, refl)
both true false h = cc
both false true h = cc
both false false h = cc

-- Numbers

glyph-no-feed : (b : Bool) (d : ℕ) → (if b then 48 + d else 87 + d) ≡ 10 → ⊥
glyph-no-feed true d h = omega (arith, h)
glyph-no-feed false d h = omega (arith, h)

either-feedless : (b : Bool) (one other : List ℕ) → has_no_feed one ≡ true → has_no_feed other ≡ true → has_no_feed (if b then one else other) ≡ true
either-feedless true one other h k = h
either-feedless false one other h k = k

onto-feedless : (k n : ℕ) (following : List ℕ) → has_no_feed following ≡ true → has_no_feed (digits_onto k 10 false n following) ≡ true
onto-feedless zero n following h = h
onto-feedless (suc k) n following h =
    let more : has_no_feed (digit_glyph false (n % 10) ∷ following) ≡ true = feedless-first (digit_glyph false (n % 10)) following (glyph-no-feed (nat_lt (n % 10) 10) (n % 10)) h in
    either-feedless (n / 10 == 0) (digit_glyph false (n % 10) ∷ following) (digits_onto k 10 false (n / 10) (digit_glyph false (n % 10) ∷ following)) more (onto-feedless k (n / 10) (digit_glyph false (n % 10) ∷ following) more)

pub decimal-feedless : (n : ℕ) → has_no_feed (decimal n) ≡ true
unfolding digits
decimal-feedless n = onto-feedless 64 n [] refl

pub signed-feedless : (n : ℤ) → has_no_feed (signed_decimal n) ≡ true
signed-feedless (pos n) = decimal-feedless n
signed-feedless (negsuc n) = decimal-feedless (suc n)

pub numbered-feedless : (before : List ℕ) (n : ℤ) → has_no_feed before ≡ true → has_no_feed (numbered before n) ≡ true
numbered-feedless before n h = feedless-append before (signed_decimal n) h (signed-feedless n)

hex_digit-feedless : (n : ℕ) (ns : List ℕ) → has_no_feed ns ≡ true → has_no_feed (hex_digit n ∷ ns) ≡ true
hex_digit-feedless n ns h = feedless-first (hex_digit n) ns (glyph-no-feed (nat_lt n 10) n) h

hex_byte-feedless : (byte : ℕ) → has_no_feed (hex_byte byte) ≡ true
hex_byte-feedless byte = hex_digit-feedless (byte / 16) (hex_digit (byte % 16) ∷ []) (hex_digit-feedless (byte % 16) [] refl)

hex_digits-feedless : (count n : ℕ) → has_no_feed (hex_digits count n) ≡ true
unfolding hex_digits
hex_digits-feedless zero n = refl
hex_digits-feedless (suc count) n = feedless-append (hex_digits count (n / 16)) (hex_digit (n % 16) ∷ []) (hex_digits-feedless count (n / 16)) (hex_digit-feedless (n % 16) [] refl)

-- Names

word-byte : (b : ℕ) → is_word_byte b ≡ true → not (b == 10) ≡ true
word-byte b h = no-feed b (λ e. let k : false ≡ true = sym (ap is_word_byte e) ∙ h in cc)

word-bytes : (bs : List ℕ) → list_all is_word_byte bs ≡ true → has_no_feed bs ≡ true
word-bytes [] h = refl
word-bytes (b ∷ bs) h =
    let parts = both (is_word_byte b) (list_all is_word_byte bs) h in
    ap (λ (x : Bool). x && has_no_feed bs) (word-byte b parts.0) ∙ word-bytes bs parts.1

word-start : (b : ℕ) → is_word_start b ≡ true → not (b == 10) ≡ true
word-start b h = no-feed b (λ e. let k : false ≡ true = sym (ap is_word_start e) ∙ h in cc)

pub word-feedless : (bs : List ℕ) → IsWord bs → has_no_feed bs ≡ true
word-feedless [] h = refl
word-feedless (b ∷ bs) h =
    let parts = both (is_word_start b) (list_all is_word_byte bs) h in
    ap (λ (x : Bool). x && has_no_feed bs) (word-start b parts.0) ∙ word-bytes bs parts.1

joined-feedless : (words : List (List ℕ)) → AllByRecursion IsWord words → has_no_feed (joined words) ≡ true
joined-feedless [] h = refl
joined-feedless (w ∷ []) h = word-feedless w h.0
joined-feedless (w ∷ v ∷ ws) h = feedless-append w (58 ∷ 58 ∷ joined (v ∷ ws)) (word-feedless w h.0) (joined-feedless (v ∷ ws) h.1)

full-feedless : (name : List ℕ) → IsFullName name → has_no_feed name ≡ true
full-feedless name h = ap has_no_feed h.3 ∙ joined-feedless (h.0 ∷ h.1) h.2

short-feedless : (name : List ℕ) → has_no_feed name ≡ true → has_no_feed (short_name name) ≡ true
short-feedless [] h = refl
short-feedless (b ∷ bs) h =
    let parts = both (not (b == 10)) (has_no_feed bs) h in
    either-feedless (list_any (λ c. c == 58) bs) (short_name bs) (if b == 58 then bs else b ∷ bs) (short-feedless bs parts.1) (either-feedless (b == 58) bs (b ∷ bs) parts.1 h)

-- Protocols and messages

all-at-places : {A : Type 0} (P : A → Type 0) (xs : List A) → ((i : ℕ) (x : A) → slice_get xs i ≡ Some x → P x) → AllByRecursion P xs
all-at-places P [] h = tt
all-at-places P (x ∷ xs) h = (h zero x refl, all-at-places P xs (λ i. h (suc i)))

all-append : {A : Type 0} (P : A → Type 0) (xs ys : List A) → AllByRecursion P xs → AllByRecursion P ys → AllByRecursion P (xs ++ ys)
all-append P [] ys h k = k
all-append P (x ∷ xs) ys h k = (h.0, all-append P xs ys h.1 k)

all-flat : {A B : Type 0} (P : B → Type 0) (f : A → List B) (xs : List A) → AllByRecursion (λ x. AllByRecursion P (f x)) xs → AllByRecursion P (flat_map f xs)
all-flat P f [] h = tt
all-flat P f (x ∷ xs) h = all-append P (f x) (flat_map f xs) h.0 (all-flat P f xs h.1)

found-has : {A : Type 0} (P : A → Type 0) (test : A → Bool) (xs : List A) → AllByRecursion P xs → IfSome (find test xs) P
found-has P test [] h = tt
found-has P test (x ∷ xs) h = by (test x) (found-has P test xs h.1)
  where
    by : (b : Bool) → IfSome (find test xs) P → IfSome (cond b (Some x) (find test xs)) P
    by true k = h.0
    by false k = k

module _ (schema : Schema) (sound : IsSound schema) where
  rows-named : AllByRecursion (λ (row : MessageRow). IsWord row.name) (flat_map (λ (protocol : ProtocolRow). protocol.messages) schema.protocols)
  rows-named =
      all-flat (λ (row : MessageRow). IsWord row.name) (λ (protocol : ProtocolRow). protocol.messages) schema.protocols
      (all-at-places (λ (protocol : ProtocolRow). AllByRecursion (λ (row : MessageRow). IsWord row.name) protocol.messages) schema.protocols
      (λ p protocol at. all-at-places (λ (row : MessageRow). IsWord row.name) protocol.messages (λ i row is. ((sound.protocols p protocol at).messages i row is).name)))

  name-feedless : (found : Option MessageRow) → IfSome found (λ row. IsWord row.name) → has_no_feed (option_map_or (λ (row : MessageRow). row.name) found []) ≡ true
  name-feedless None h = refl
  name-feedless (Some row) h = word-feedless row.name h

  protocol-named : (number : ℕ) (found : Option ProtocolRow) → slice_get schema.protocols number ≡ found → has_no_feed (option_map_or (λ (protocol : ProtocolRow). short_name protocol.name) found []) ≡ true
  protocol-named number None is = refl
  protocol-named number (Some protocol) is = short-feedless protocol.name (full-feedless protocol.name (sound.protocols number protocol is).name)

  pub protocol-feedless : (number : ℕ) → has_no_feed (protocol_text schema number) ≡ true
  protocol-feedless number = protocol-named number (slice_get schema.protocols number) refl

  pub message-feedless : (number : ℕ) → has_no_feed (message_text schema number) ≡ true
  message-feedless number =
      feedless-three (protocol_text schema (number / 65536)) (codes ".") (option_map_or (λ (row : MessageRow). row.name) (message_of schema number) []) (protocol-feedless (number / 65536)) refl
      (name-feedless (message_of schema number) (found-has (λ (row : MessageRow). IsWord row.name) (has_number number) (flat_map (λ (protocol : ProtocolRow). protocol.messages) schema.protocols) rows-named))

-- Values

flat-feedless : (f : ℕ → List ℕ) → ((n : ℕ) → has_no_feed (f n) ≡ true) → (ns : List ℕ) → has_no_feed (flat_map f ns) ≡ true
flat-feedless f h [] = refl
flat-feedless f h (n ∷ ns) = feedless-append (f n) (flat_map f ns) (h n) (flat-feedless f h ns)

escaped-feedless : (byte : ℕ) → has_no_feed (escaped byte) ≡ true
escaped-feedless byte = by (byte == 34) (byte == 92) (byte == 10) (byte == 9) (nat_lt byte 32 || (byte == 127)) refl
  where
    by : (quote back feed tab control : Bool) → (byte == 10) ≡ feed
        → has_no_feed (if quote then codes "\\\"" else (if back then codes "\\\\" else (if feed then codes "\\n" else (if tab then codes "\\t" else (if control then codes "\\x" ++ hex_byte byte else (byte ∷ [])))))) ≡ true
    by true back feed tab control e = refl
    by false true feed tab control e = refl
    by false false true tab control e = refl
    by false false false true control e = refl
    by false false false false true e = feedless-append (codes "\\x") (hex_byte byte) refl (hex_byte-feedless byte)
    by false false false false false e = ap (λ (b : Bool). not b && true) e

actor-feedless : (id : ℤ) → has_no_feed (actor_text id) ≡ true
actor-feedless id = by (int_eq id (pos 0))
  where
    by : (b : Bool) → has_no_feed (if b then codes "null" else codes "#" ++ signed_decimal id) ≡ true
    by true = refl
    by false = feedless-append (codes "#") (signed_decimal id) refl (signed-feedless id)

bool-feedless : (b : Bool) → has_no_feed (bool_text b) ≡ true
bool-feedless true = refl
bool-feedless false = refl

found-feedless : {A : Type 0} (text : A → List ℕ) → ((x : A) → has_no_feed (text x) ≡ true) → (found : Option A) → has_no_feed (option_map_or text found []) ≡ true
found-feedless text h None = refl
found-feedless text h (Some x) = h x

module _ (s : Schema) where
  mutual
    value-feedless : (shape : Shape) (v : Value) → has_no_feed (value_text s shape v) ≡ true
    value-feedless shape (value.Bool b) = bool-feedless b
    value-feedless shape (value.Int n) = signed-feedless n
    value-feedless shape (value.Text text) = feedless-three (codes "\"") (flat_map escaped text) (codes "\"") refl (flat-feedless escaped escaped-feedless text) refl
    value-feedless shape (value.Bytes bytes) = feedless-three (codes "h\"") (flat_map hex_byte bytes) (codes "\"") refl (flat-feedless hex_byte hex_byte-feedless bytes) refl
    value-feedless shape (value.Bits bits) = feedless-three (codes "h\"") (hex_digits (digit_count_of (builtin_of shape)) bits) (codes "\"") refl (hex_digits-feedless (digit_count_of (builtin_of shape)) bits) refl
    value-feedless shape (value.Struct vs) = feedless-three (codes "{") (parts_text [] s (unwrap_or (fields_of s shape) []) vs) (codes "}") refl (parts-feedless [] (unwrap_or (fields_of s shape) []) vs refl) refl
    value-feedless shape (Union' index _ v) =
        feedless-append (codes "@" ++ decimal index ++ codes " ") (option_map_or (λ component. value_text s component v) (component_of s shape index) []) (feedless-three (codes "@") (decimal index) (codes " ") refl (decimal-feedless index) refl)
        (found-feedless (λ component. value_text s component v) (λ component. value-feedless component v) (component_of s shape index))
    value-feedless shape (value.Array vs) =
        feedless-three (codes "[") (option_map_or (λ element. elements_text [] s element vs) (element_of shape) []) (codes "]") refl
        (found-feedless (λ element. elements_text [] s element vs) (λ element. elements-feedless [] element vs refl) (element_of shape)) refl
    value-feedless shape (Maybe' held) = held-feedless (held_by shape) held
    value-feedless shape (value.Actor id) = actor-feedless id

    held-feedless : (inner : Option Shape) (held : Held-Value-Maybe-0) → has_no_feed (held_text s inner held) ≡ true
    held-feedless inner None' = refl
    held-feedless inner (Some' _ v) =
        feedless-append (codes "some ") (option_map_or (λ shape. value_text s shape v) inner []) refl (found-feedless (λ shape. value_text s shape v) (λ shape. value-feedless shape v) inner)

    elements-feedless : (before : List ℕ) (shape : Shape) (vs : Values) → has_no_feed before ≡ true → has_no_feed (elements_text before s shape vs) ≡ true
    elements-feedless before shape values.Nothing h = refl
    elements-feedless before shape (First' _ v _ vs) h = feedless-three before (value_text s shape v) (elements_text (codes ", ") s shape vs) h (value-feedless shape v) (elements-feedless (codes ", ") shape vs refl)

    parts-feedless : (before : List ℕ) (fields : List ParamRow) (vs : Values) → has_no_feed before ≡ true → has_no_feed (parts_text before s fields vs) ≡ true
    parts-feedless before [] vs h = refl
    parts-feedless before (field ∷ fields) values.Nothing h = refl
    parts-feedless before (field ∷ fields) (First' _ v _ vs) h =
        feedless-three before (value_text s field.shape v) (parts_text (codes ", ") s fields vs) h (value-feedless field.shape v) (parts-feedless (codes ", ") fields vs refl)

  pub listed-feedless : (types : List ParamRow) (vs : Values) → has_no_feed (listed_values s types vs) ≡ true
  listed-feedless types vs = feedless-three (codes "(") (parts_text [] s types vs) (codes ")") refl (parts-feedless [] types vs refl) refl
