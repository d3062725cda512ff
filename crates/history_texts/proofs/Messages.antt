-- The names of protocols and messages in a text decide them.
use Rattle.std.proofs.Common.{◌≡◌, ◌≢◌, ◌⊎◌, ℕ, zero, suc, ◌/◌, ◌%◌, ◌<◌, ◌==◌, Bool, true, false, ◌&&◌, ◌||◌, if◌then◌else◌, List, [], ◌∷◌, ◌++◌, codes, length, drop, get_or, Option, Some, None, is_some, refl, sym, ap, ◌∙◌, arith, append_assoc, true≢false, ⊎_elim, inl, inr}
use Rattle.std.specs.Prelude.{slice_get}
use Rattle.std.specs.List.{AllByRecursion, AllPairs, list_all, list_any}
use Rattle.std.specs.Option.{option_map_or}
use Rattle.std.proofs.lemmas.Bool.{eqb-true}
use Rattle.std.proofs.lemmas.List.Folds.{list_all-append}
use Rattle.std.proofs.lemmas.Option.{same_Some}
use Rattle.ipdl_base.specs.declared.schema.MessageRow.{MessageRow}
use Rattle.ipdl_base.specs.declared.schema.ProtocolRow.{ProtocolRow}
use Rattle.ipdl_base.specs.declared.schema.Schema.{Schema}
use Rattle.ipdl_base.specs.Sound.{IsSound, message_of}
use Rattle.ipdl_base.specs.Words.{IsFullName, IsWord, is_word_byte, is_word_start, joined, short_name}
use Rattle.history.specs.Text.{message_text, protocol_text}
use Rattle.channel_model.proofs.SoundRows.{IsAt, row-at}
use Rattle.channel_laws.specs.PrintedNames.{is_printable_message}
use Rattle.history_texts.proofs.Spans.{StopsAt, both, or-right, spans}

or-left : (a b : Bool) → a ≡ true → (a || b) ≡ true
or-left true b h = refl
or-left false b h = cc

-- a word has bytes of words
pub word-bytes : (bs : List ℕ) → IsWord bs → list_all is_word_byte bs ≡ true
word-bytes [] h = refl
word-bytes (b ∷ bs) h =
    let parts = both (is_word_start b) (list_all is_word_byte bs) h in
    ap (λ (x : Bool). x && list_all is_word_byte bs) (or-left (is_word_start b) _ parts.0) ∙ parts.1

-- bytes of words, and colons
abbrev is_name_byte : ℕ → Bool
is_name_byte b = (b == 58) || is_word_byte b

words-names : (bs : List ℕ) → list_all is_word_byte bs ≡ true → list_all is_name_byte bs ≡ true
words-names [] h = refl
words-names (b ∷ bs) h =
    let parts = both (is_word_byte b) (list_all is_word_byte bs) h in
    ap (λ (x : Bool). x && list_all is_name_byte bs) (or-right (b == 58) (is_word_byte b) parts.0) ∙ words-names bs parts.1

joined-names : (words : List (List ℕ)) → AllByRecursion IsWord words → list_all is_name_byte (joined words) ≡ true
joined-names [] h = refl
joined-names (w ∷ []) h = words-names w (word-bytes w h.0)
joined-names (w ∷ v ∷ ws) h =
    list_all-append is_name_byte w (58 ∷ 58 ∷ joined (v ∷ ws))
    ∙ ap (λ (x : Bool). x && list_all is_name_byte (joined (v ∷ ws))) (words-names w (word-bytes w h.0)) ∙ joined-names (v ∷ ws) h.1

-- bytes of names without a colon are bytes of words
named-first : (b : ℕ) (bs : List ℕ) → (b == 58) ≡ false → is_name_byte b ≡ true → list_all is_word_byte bs ≡ true → (is_word_byte b && list_all is_word_byte bs) ≡ true
named-first b bs is h more =
    let first : is_word_byte b ≡ true = ap (λ (x : Bool). x || is_word_byte b) (sym is) ∙ h in
    ap (λ (x : Bool). x && list_all is_word_byte bs) first ∙ more

none-either : (x y : Bool) → (x || y) ≡ false → (x ≡ false) × (y ≡ false)
none-either true y h = absurd (true≢false h)
none-either false y h = (refl, h)

no-colons : (bs : List ℕ) → list_any (λ c. c == 58) bs ≡ false → list_all is_name_byte bs ≡ true → list_all is_word_byte bs ≡ true
no-colons [] none h = refl
no-colons (b ∷ bs) none h =
    let parts = both (is_name_byte b) (list_all is_name_byte bs) h in
    let no = none-either (b == 58) (list_any (λ c. c == 58) bs) none in
    named-first b bs no.0 parts.0 (no-colons bs no.1 parts.1)

short-words : (bs : List ℕ) → list_all is_name_byte bs ≡ true → list_all is_word_byte (short_name bs) ≡ true
short-words [] h = refl
short-words (b ∷ bs) h =
    let parts = both (is_name_byte b) (list_all is_name_byte bs) h in
    by (list_any (λ c. c == 58) bs) (b == 58) refl refl parts.0 (short-words bs parts.1) (λ none. no-colons bs none parts.1)
  where
    by : (x y : Bool) → list_any (λ c. c == 58) bs ≡ x → (b == 58) ≡ y → is_name_byte b ≡ true → list_all is_word_byte (short_name bs) ≡ true → (list_any (λ c. c == 58) bs ≡ false → list_all is_word_byte bs ≡ true)
        → list_all is_word_byte (if x then short_name bs else (if y then bs else b ∷ bs)) ≡ true
    by true y are is first more none = more
    by false true are is first more none = none are
    by false false are is first more none = named-first b bs is first (none are)

full-words : (name : List ℕ) → IsFullName name → list_all is_word_byte (short_name name) ≡ true
full-words name h = short-words name (ap (list_all is_name_byte) h.3 ∙ joined-names (h.0 ∷ h.1) h.2)

-- Places in lists

got : {A : Type 0} (xs : List A) (i : ℕ) (a d : A) → slice_get xs i ≡ Some a → (get_or xs i d ≡ a) × (i < length xs)
got [] i a d h = cc
got (x ∷ xs) zero a d h = (same_Some x a h, omega arith)
got (x ∷ xs) (suc i) a d h = let more = got xs i a d h in (more.0, (let within = more.1 in omega (arith, within)))

apart : {A : Type 0} (key : A → List ℕ) (xs : List A) (i j : ℕ) (a b : A) → AllPairs (λ x y. key x ≢ key y) xs → slice_get xs i ≡ Some a → slice_get xs j ≡ Some b → key a ≡ key b → i < j → ⊥
apart key xs i j a b pairs at at' same less =
    let one = got xs i a a at in
    let other = got xs j b a at' in
    pairs i j a less other.1 (ap key one.0 ∙ same ∙ sym (ap key other.0))

pub one-place : {A : Type 0} (key : A → List ℕ) (xs : List A) (i j : ℕ) (a b : A) → AllPairs (λ x y. key x ≢ key y) xs → slice_get xs i ≡ Some a → slice_get xs j ≡ Some b → key a ≡ key b → i ≡ j
one-place key xs i j a b pairs at at' same =
    ⊎_elim (λ (e : i ≡ j). e) (λ (d : (i < j) ⊎ (j < i)). ⊎_elim (λ (l : i < j). absurd (apart key xs i j a b pairs at at' same l)) (λ (l : j < i). absurd (apart key xs j i b a pairs at' at (sym same) l)) d) (compared i j)
  where
    compared : (m n : ℕ) → (m ≡ n) ⊎ ((m < n) ⊎ (n < m))
    compared zero zero = inl refl
    compared zero (suc n) = inr (inl (omega arith))
    compared (suc m) zero = inr (inr (omega arith))
    compared (suc m) (suc n) =
        ⊎_elim (λ (e : m ≡ n). inl (ap suc e)) (λ (d : (m < n) ⊎ (n < m)). inr (⊎_elim (λ (l : m < n). inl (omega (arith, l))) (λ (l : n < m). inr (omega (arith, l))) d)) (compared m n)

module _ (schema : Schema) (sound : IsSound schema) where
  -- the row of a message that is printed, at its place
  record IsPrinted (n : ℕ) : Type 0 where
    row : MessageRow
    found : message_of schema n ≡ Some row
    at : IsAt schema n row

  printed : (n : ℕ) → is_printable_message schema n ≡ true → IsPrinted n
  printed n h = by (message_of schema n) refl (both (is_some (slice_get schema.protocols (n / 65536))) (option_map_or (λ row. row.number == n) (message_of schema n) false) h).1
    where
      by : (o : Option MessageRow) → message_of schema n ≡ o → option_map_or (λ row. row.number == n) o false ≡ true → IsPrinted n
      by None is k = absurd (true≢false (sym k))
      by (Some row) is k = record { row = row; found = is; at = row-at schema sound n row is (eqb-true row.number n k) }

  pub protocol-words : (p : ℕ) → list_all is_word_byte (protocol_text schema p) ≡ true
  protocol-words p = by (slice_get schema.protocols p) refl
    where
      by : (o : Option ProtocolRow) → slice_get schema.protocols p ≡ o → list_all is_word_byte (option_map_or (λ (protocol : ProtocolRow). short_name protocol.name) o []) ≡ true
      by None is = refl
      by (Some protocol) is = full-words protocol.name (sound.protocols p protocol is).name

  protocol-is : (p : ℕ) (protocol : ProtocolRow) → slice_get schema.protocols p ≡ Some protocol → protocol_text schema p ≡ short_name protocol.name
  protocol-is p protocol at = ap (λ (o : Option ProtocolRow). option_map_or (λ (x : ProtocolRow). short_name x.name) o []) at

  protocol-found : (p : ℕ) → is_some (slice_get schema.protocols p) ≡ true → (protocol : ProtocolRow) × (slice_get schema.protocols p ≡ Some protocol)
  protocol-found p h = by (slice_get schema.protocols p) refl h
    where
      by : (o : Option ProtocolRow) → slice_get schema.protocols p ≡ o → is_some o ≡ true → (protocol : ProtocolRow) × (slice_get schema.protocols p ≡ Some protocol)
      by None is k = absurd (true≢false (sym k))
      by (Some protocol) is k = (protocol, is)

  one-protocol : (p p' : ℕ) (a b : ProtocolRow) → slice_get schema.protocols p ≡ Some a → slice_get schema.protocols p' ≡ Some b → short_name a.name ≡ short_name b.name → p ≡ p'
  one-protocol p p' a b at at' same = one-place (λ (x : ProtocolRow). short_name x.name) schema.protocols p p' a b sound.distinct at at' same

  -- a protocol by its name
  pub protocols-decide : (p p' : ℕ) (r q : List ℕ) → is_some (slice_get schema.protocols p) ≡ true → is_some (slice_get schema.protocols p') ≡ true → StopsAt is_word_byte r → StopsAt is_word_byte q
      → protocol_text schema p ++ r ≡ protocol_text schema p' ++ q → (p ≡ p') × (r ≡ q)
  protocols-decide p p' r q h k s t e =
      let a = protocol-found p h in
      let b = protocol-found p' k in
      let parts = spans is_word_byte (protocol_text schema p) (protocol_text schema p') r q (protocol-words p) (protocol-words p') s t e in
      (one-protocol p p' a.0 b.0 a.1 b.1 (sym (protocol-is p a.0 a.1) ∙ parts.0 ∙ protocol-is p' b.0 b.1), parts.1)

  name-is : (n : ℕ) (row : MessageRow) → message_of schema n ≡ Some row → option_map_or (λ (message : MessageRow). message.name) (message_of schema n) [] ≡ row.name
  name-is n row is = ap (λ (o : Option MessageRow). option_map_or (λ (message : MessageRow). message.name) o []) is

  abbrev name_of : ℕ → List ℕ
  name_of n = option_map_or (λ (message : MessageRow). message.name) (message_of schema n) []

  split : (n : ℕ) (r : List ℕ) → message_text schema n ++ r ≡ protocol_text schema (n / 65536) ++ (codes "." ++ (name_of n ++ r))
  split n r = append_assoc (protocol_text schema (n / 65536) ++ codes ".") (name_of n) r ∙ append_assoc (protocol_text schema (n / 65536)) (codes ".") (name_of n ++ r)

  same-number : (m n : ℕ) → (a : IsPrinted m) (b : IsPrinted n) → m / 65536 ≡ n / 65536 → a.row.name ≡ b.row.name → m ≡ n
  same-number m n a b same names =
      let there : slice_get schema.protocols (m / 65536) ≡ Some b.at.protocol = ap (slice_get schema.protocols) same ∙ b.at.there in
      let one : a.at.protocol ≡ b.at.protocol = same_Some a.at.protocol b.at.protocol (sym a.at.there ∙ there) in
      let message : slice_get b.at.protocol.messages (m % 65536 / 2) ≡ Some a.row = ap (λ (p : ProtocolRow). slice_get p.messages (m % 65536 / 2)) (sym one) ∙ a.at.message in
      let place : m % 65536 / 2 ≡ n % 65536 / 2 =
      one-place (λ (x : MessageRow). x.name) b.at.protocol.messages (m % 65536 / 2) (n % 65536 / 2) a.row b.row (sound.protocols (n / 65536) b.at.protocol b.at.there).distinct message b.at.message names in
      let even = a.at.even in
      let even' = b.at.even in
      omega (arith, same, place, even, even')

  -- a message by its protocol and its name
  pub messages-decide : (m n : ℕ) (r q : List ℕ) → is_printable_message schema m ≡ true → is_printable_message schema n ≡ true → StopsAt is_word_byte r → StopsAt is_word_byte q
      → message_text schema m ++ r ≡ message_text schema n ++ q → (m ≡ n) × (r ≡ q)
  messages-decide m n r q h k s t e =
      let a : IsPrinted m = printed m h in
      let b : IsPrinted n = printed n k in
      let first = spans is_word_byte (protocol_text schema (m / 65536)) (protocol_text schema (n / 65536)) (codes "." ++ (name_of m ++ r)) (codes "." ++ (name_of n ++ q)) (protocol-words (m / 65536)) (protocol-words (n / 65536)) refl refl
      (sym (split m r) ∙ e ∙ split n q) in
      let named : list_all is_word_byte (name_of m) ≡ true = ap (list_all is_word_byte) (name-is m a.row a.found) ∙ word-bytes a.row.name a.at.sound.name in
      let named' : list_all is_word_byte (name_of n) ≡ true = ap (list_all is_word_byte) (name-is n b.row b.found) ∙ word-bytes b.row.name b.at.sound.name in
      let second = spans is_word_byte (name_of m) (name_of n) r q named named' s t (ap (drop 1) first.1) in
      let protocol : m / 65536 ≡ n / 65536 =
      one-protocol (m / 65536) (n / 65536) a.at.protocol b.at.protocol a.at.there b.at.there (sym (protocol-is (m / 65536) a.at.protocol a.at.there) ∙ first.0 ∙ protocol-is (n / 65536) b.at.protocol b.at.there) in
      (same-number m n a b protocol (sym (name-is m a.row a.found) ∙ second.0 ∙ name-is n b.row b.found), second.1)

  -- the text of a message begins with a word and continues with a point
  pub message-begins : (n : ℕ) (r : List ℕ) → (rest : List ℕ) × (message_text schema n ++ r ≡ protocol_text schema (n / 65536) ++ (46 ∷ rest))
  message-begins n r = (name_of n ++ r, split n r)
