-- The names in the statement of a line are names.
use Rattle.std.proofs.Common.{◌≡◌, ℕ, ◌+◌, ◌*◌, ◌-◌, ◌<◌, ◌≤◌, drop, arith, true, false, Bool, List, [], ◌∷◌, ◌&&◌, Option, Some, None, ◌⊎◌, inl, inr, refl, ap, subst}
use Rattle.std.specs.Prelude.{nat_le, codes, if◌then◌else◌, option_and_then}
use Rattle.std.specs.List.{list_all, take_while}
use Rattle.std.specs.Option.{option_map}
use Rattle.std.specs.Str.{bytes_eq, IsUtf8}
use Rattle.std.proofs.lemmas.Bool.{cases_Bool, or_left, and_from, and_parts, leb-true}
use Rattle.std.proofs.lemmas.List.Sums.{take_while-cons}
use Rattle.ipdl_base.specs.Words.{IsWord, is_word_start, is_word_byte}
use Rattle.script_reader.proofs.Begins.{word_start}
use Rattle.script_reader.specs.declared.parts.Bracket.{Bracket}
use Rattle.script_reader.specs.declared.parts.Bracket.TheVariants as bracket
use Rattle.script_reader.specs.declared.statement.WrittenMessage.{WrittenMessage}
use Rattle.script_reader.specs.declared.statement.MessageName.{MessageName}
use Rattle.script_reader.specs.declared.statement.Statement.{Statement}
use Rattle.script_reader.specs.declared.statement.Statement.TheVariants as forms
use Rattle.script_reader.specs.declared.token.TokenClass.{TokenClass}
use Rattle.script_reader.specs.declared.token.TokenClass.TheVariants as class
use Rattle.script_reader.specs.declared.token.ScriptToken.{ScriptToken}
use Rattle.script_reader.specs.declared.token.ScriptToken.TheVariants as token
use Rattle.script_reader.specs.declared.written.Atom.{Atom}
use Rattle.script_reader.specs.declared.written.Atom.TheVariants as atom
use Rattle.script_reader.specs.declared.written.Who.{Who}
use Rattle.script_reader.specs.declared.written.Who.TheVariants as whos
use Rattle.script_reader.specs.declared.written.WrittenValue.{WrittenValue, Union', Held'}
use Rattle.script_reader.specs.declared.written.WrittenValue.TheVariants as written
use Rattle.script_reader.specs.declared.written.WrittenValues.{WrittenValues, First'}
use Rattle.script_reader.specs.declared.written.WrittenValues.TheVariants as values
use Rattle.script_reader.specs.Grammar.{is_no_name, named, name_of, name, who_named, who_of, who, message, atom_named, atom_of, value, listed, more, arguments, call, following_keyword}
use Rattle.script_reader.specs.Lines.{IsStatement}
use Rattle.script_reader.specs.Parts.{word}
use Rattle.script_reader.specs.Tokens.{class_of, IsTokenOf, IsToken, AreTokens, following, is_blank, is_digit, hex_value, hex_byte, hex_at, InSequence}
use Rattle.handler_script.specs.Valid.{IsName}

-- an actor that is referred to by name
abbrev pub IsNamed : Who → Type 0
IsNamed (whos.Name n) = IsName n
IsNamed _ = Unit {0}

-- numbers that are bytes
abbrev pub AreBytes : List ℕ → Type 0
AreBytes [] = Unit {0}
AreBytes (b ∷ bs) = (b < 256) × AreBytes bs

abbrev pub AtomNames : Atom → Type 0
AtomNames (atom.Who w) = IsNamed w
AtomNames (atom.Text text) = IsUtf8 text
AtomNames (atom.Bytes bytes) = AreBytes bytes
AtomNames _ = Unit {0}

-- all actors that values refer to by name
abbrev mutual
  pub ValueNames : WrittenValue → Type 0
  ValueNames (written.Atom a) = AtomNames a
  ValueNames (written.Struct vs) = ValuesNames vs
  ValueNames (written.Array vs) = ValuesNames vs
  ValueNames (Union' index _ v) = ValueNames v
  ValueNames (Held' _ v) = ValueNames v

  pub ValuesNames : WrittenValues → Type 0
  ValuesNames values.Nothing = Unit {0}
  ValuesNames (First' _ v _ vs) = ValueNames v × ValuesNames vs

-- and a statement
abbrev pub Names : Statement → Type 0
Names (forms.Send w c) = IsNamed w × ValuesNames c.values
Names (forms.New n w c) = IsName n × IsNamed w × ValuesNames c.values
Names (forms.Let n w) = IsName n × IsNamed w
Names (forms.Resolve vs) = ValuesNames vs
Names (forms.Keep n) = IsName n
Names (forms.ResolveKept n c) = IsName n × ValuesNames c.values
Names (forms.RejectKept n m) = IsName n
Names (forms.Return vs) = ValuesNames vs
Names _ = Unit {0}

-- tokens whose words are words, whose texts are UTF-8, and whose bytes are bytes
abbrev pub IsWordToken : ScriptToken → Type 0
IsWordToken (token.Word w) = IsWord w
IsWordToken (token.Text text) = IsUtf8 text
IsWordToken (token.Bytes bytes) = AreBytes bytes
IsWordToken _ = Unit {0}

abbrev pub AreWords : List ScriptToken → Type 0
AreWords [] = Unit {0}
AreWords (t ∷ ts) = IsWordToken t × AreWords ts

-- what is read from one token, and from parts that follow each other

tail_words : (t : ScriptToken) (from to : List ScriptToken) → from ≡ t ∷ to → AreWords from → AreWords to
tail_words t from to e ws = (subst AreWords e ws).1

head_word : (t : ScriptToken) (from to : List ScriptToken) → from ≡ t ∷ to → AreWords from → IsWordToken t
head_word t from to e ws = (subst AreWords e ws).0

named_is : (w n : List ℕ) → IsWord w → named w ≡ Some n → IsName n
named_is w n h e = elim (cases_Bool (is_no_name w)) [
  | inl t ↦ (let P : Bool → Type 0 = λ b. (if b then None else Some w) ≡ Some n in let no : None ≡ Some n = subst P t e in cc)
  | inr f ↦ (let P : Bool → Type 0 = λ b. (if b then None else Some w) ≡ Some n in let same : Some w ≡ Some n = subst P f e in let is : w ≡ n = cc in subst IsName is (h, f))
]

name_is : (n : List ℕ) (t : ScriptToken) → IsWordToken t → name_of t ≡ Some n → IsName n
name_is n (token.Word w) h e = named_is w n h e
name_is n (token.Param k) h e = cc
name_is n (token.Index k) h e = cc
name_is n (token.Number k) h e = cc
name_is n (token.Text k) h e = cc
name_is n (token.Bytes k) h e = cc
name_is n (token.Mark k) h e = cc

name_names : (n : List ℕ) (from to : List ScriptToken) → name n from to → AreWords from → IsName n × AreWords to
name_names n from to h ws = (name_is n h.0 (head_word h.0 from to h.1 ws) h.2, tail_words h.0 from to h.1 ws)

if_cases : {X : Type 0} (b : Bool) (x y z : X) → (if b then x else y) ≡ z → (x ≡ z) ⊎ (y ≡ z)
if_cases true x y z e = inl e
if_cases false x y z e = inr e

named_who : (o : Option (List ℕ)) (w : Who) → option_map whos.Name o ≡ Some w → (n : List ℕ) × (o ≡ Some n) × (whos.Name n ≡ w)
named_who None w e = absurd (let no : ⊥ = cc in no)
named_who (Some n) w e = (n, refl, (let same : whos.Name n ≡ w = cc in same))

who_word : (word : List ℕ) (w : Who) → IsWord word → who_named word ≡ Some w → IsNamed w
who_word word w h e = elim (if_cases (bytes_eq word (codes "top")) (Some whos.Top) _ (Some w) e) [
  | inl a ↦ (let same : whos.Top ≡ w = cc in subst IsNamed same tt)
  | inr b ↦ elim (if_cases (bytes_eq word (codes "this")) (Some whos.This) _ (Some w) b) [
    | inl a ↦ (let same : whos.This ≡ w = cc in subst IsNamed same tt)
    | inr d ↦ elim (if_cases (bytes_eq word (codes "made")) (Some whos.Made) _ (Some w) d) [
      | inl a ↦ (let same : whos.Made ≡ w = cc in subst IsNamed same tt)
      | inr f ↦ (let found = named_who (named word) w f in subst IsNamed found.2 (named_is word found.0 h found.1))
    ]
  ]
]

who_is : (w : Who) (t : ScriptToken) → IsWordToken t → who_of t ≡ Some w → IsNamed w
who_is w (token.Word word) h e = who_word word w h e
who_is w (token.Param k) h e = let same : whos.Param k ≡ w = cc in subst IsNamed same tt
who_is w (token.Index k) h e = cc
who_is w (token.Number k) h e = cc
who_is w (token.Text k) h e = cc
who_is w (token.Bytes k) h e = cc
who_is w (token.Mark k) h e = cc

who_names : (w : Who) (from to : List ScriptToken) → who w from to → AreWords from → IsNamed w × AreWords to
who_names w from to h ws = (who_is w h.0 (head_word h.0 from to h.1 ws) h.2, tail_words h.0 from to h.1 ws)

atom_who : (o : Option Who) (a : Atom) → option_map atom.Who o ≡ Some a → (w : Who) × (o ≡ Some w) × (atom.Who w ≡ a)
atom_who None a e = absurd (let no : ⊥ = cc in no)
atom_who (Some w) a e = (w, refl, (let same : atom.Who w ≡ a = cc in same))

atom_word : (word : List ℕ) (a : Atom) → IsWord word → atom_named word ≡ Some a → AtomNames a
atom_word word a h e = elim (if_cases (bytes_eq word (codes "true")) (Some (atom.Bool true)) _ (Some a) e) [
  | inl x ↦ (let same : atom.Bool true ≡ a = cc in subst AtomNames same tt)
  | inr e1 ↦ elim (if_cases (bytes_eq word (codes "false")) (Some (atom.Bool false)) _ (Some a) e1) [
    | inl x ↦ (let same : atom.Bool false ≡ a = cc in subst AtomNames same tt)
    | inr e2 ↦ elim (if_cases (bytes_eq word (codes "none")) (Some atom.Nothing) _ (Some a) e2) [
      | inl x ↦ (let same : atom.Nothing ≡ a = cc in subst AtomNames same tt)
      | inr e3 ↦ elim (if_cases (bytes_eq word (codes "null")) (Some atom.Null) _ (Some a) e3) [
        | inl x ↦ (let same : atom.Null ≡ a = cc in subst AtomNames same tt)
        | inr e4 ↦ (let found = atom_who (who_named word) a e4 in subst AtomNames found.2 (who_word word found.0 h found.1))
      ]
    ]
  ]
]

atom_is : (a : Atom) (t : ScriptToken) → IsWordToken t → atom_of t ≡ Some a → AtomNames a
atom_is a (token.Word word) h e = atom_word word a h e
atom_is a (token.Param k) h e = let same : atom.Who (whos.Param k) ≡ a = cc in subst AtomNames same tt
atom_is a (token.Index k) h e = cc
atom_is a (token.Number k) h e = let same : atom.Number k ≡ a = cc in subst AtomNames same tt
atom_is a (token.Text k) h e = let same : atom.Text k ≡ a = cc in subst AtomNames same h
atom_is a (token.Bytes k) h e = let same : atom.Bytes k ≡ a = cc in subst AtomNames same h
atom_is a (token.Mark k) h e = cc

mutual
  value_names : (v : WrittenValue) (from to : List ScriptToken) → value v from to → AreWords from → ValueNames v × AreWords to
  value_names (written.Atom a) from to h ws = (atom_is a h.0 (head_word h.0 from to h.1 ws) h.2, tail_words h.0 from to h.1 ws)
  value_names (written.Struct vs) from to h ws = listed_names bracket.Curly vs h.0 to h.2 (tail_words _ from h.0 h.1 ws)
  value_names (written.Array vs) from to h ws = listed_names bracket.Square vs h.0 to h.2 (tail_words _ from h.0 h.1 ws)
  value_names (Union' index _ v) from to h ws = value_names v h.0 to h.2 (tail_words _ from h.0 h.1 ws)
  value_names (Held' _ v) from to h ws = value_names v h.0 to h.2 (tail_words _ from h.0 h.1 ws)

  listed_names : (c : Bracket) (vs : WrittenValues) (from to : List ScriptToken) → listed c vs from to → AreWords from → ValuesNames vs × AreWords to
  listed_names c values.Nothing from to h ws = (tt, tail_words _ from to h ws)
  listed_names c (First' _ v _ vs) from to h ws =
      let one = value_names v from h.0 h.1 ws in
      let others = more_names c vs h.0 to h.2 one.1 in
      ((one.0, others.0), others.1)

  more_names : (c : Bracket) (vs : WrittenValues) (from to : List ScriptToken) → more c vs from to → AreWords from → ValuesNames vs × AreWords to
  more_names c values.Nothing from to h ws = (tt, tail_words _ from to h ws)
  more_names c (First' _ v _ vs) from to h ws =
      let one = value_names v h.0 h.2.0 h.2.1 (tail_words _ from h.0 h.1 ws) in
      let others = more_names c vs h.2.0 to h.2.2 one.1 in
      ((one.0, others.0), others.1)

arguments_names : (vs : WrittenValues) (from to : List ScriptToken) → arguments vs from to → AreWords from → ValuesNames vs × AreWords to
arguments_names vs from to h ws = listed_names bracket.Round vs h.0 to h.2 (tail_words _ from h.0 h.1 ws)

message_words : (m : MessageName) (from to : List ScriptToken) → message m from to → AreWords from → AreWords to
message_words m from to h ws = tail_words _ h.2.0 to h.2.2 (tail_words _ h.0 h.2.0 h.2.1 (tail_words _ from h.0 h.1 ws))

call_names : (c : WrittenMessage) (from to : List ScriptToken) → call c from to → AreWords from → ValuesNames c.values × AreWords to
call_names c from to h ws = arguments_names c.values h.0 to h.2 (message_words c.message from h.0 h.1 ws)

after_names : (s : Statement) (from to : List ScriptToken) → following_keyword s from to → AreWords from → Names s
after_names (forms.Main s) from to h ws = tt
after_names (forms.On s m) from to h ws = tt
after_names forms.End from to h ws = tt
after_names (forms.Send w c) from to h ws = let one = who_names w from h.0 h.1 ws in (one.0, (call_names c h.0 to h.2 one.1).0)
after_names (forms.New n w c) from to h ws =
    let one = name_names n from h.0 h.1 ws in
    let two = who_names w h.0 h.2.0 h.2.1 one.1 in
    (one.0, two.0, (call_names c h.2.0 to h.2.2 two.1).0)
after_names (forms.Let n w) from to h ws = let one = name_names n from h.0 h.1 ws in (one.0, (who_names w h.0 to h.2 one.1).0)
after_names (forms.Resolve vs) from to h ws = (arguments_names vs from to h ws).0
after_names forms.Reject from to h ws = tt
after_names (forms.Keep n) from to h ws = (name_names n from to h ws).0
after_names (forms.ResolveKept n c) from to h ws = let one = name_names n from h.0 h.1 ws in (one.0, (call_names c h.0 to h.2 one.1).0)
after_names (forms.RejectKept n m) from to h ws = (name_names n from h.0 h.1 ws).0
after_names forms.Close from to h ws = tt
after_names forms.Die from to h ws = tt
after_names (forms.Return vs) from to h ws = (arguments_names vs from to h ws).0

-- the words among tokens are words

words_while : (bs : List ℕ) → list_all is_word_byte (take_while is_word_byte bs) ≡ true
words_while [] = refl
words_while (b ∷ bs) = elim (cases_Bool (is_word_byte b)) [
  | inl t ↦ rw (take_while-cons is_word_byte b bs, t) (and_from (is_word_byte b) (list_all is_word_byte (take_while is_word_byte bs)) t (words_while bs))
  | inr f ↦ rw (take_while-cons is_word_byte b bs, f) refl
]

-- a word at the start of bytes
front_word : (b : ℕ) (bs : List ℕ) → is_word_start b ≡ true → IsWord (take_while is_word_byte (b ∷ bs))
front_word b bs t =
    let byte : is_word_byte b ≡ true = or_left (is_word_start b) _ t in
    rw (take_while-cons is_word_byte b bs, byte) (and_from (is_word_start b) (list_all is_word_byte (take_while is_word_byte bs)) t (words_while bs))

word_of : (c : TokenClass) (w from to : List ℕ) → class_of from ≡ c → IsTokenOf c (token.Word w) from to → IsWord w
word_of class.Word w [] to e h = absurd (let no : ⊥ = cc in no)
word_of class.Word w (b ∷ bs) to e h = (let same : take_while is_word_byte (b ∷ bs) ≡ w = cc in subst IsWord same (front_word b bs (word_start b bs e)))
word_of class.Param w from to e h = absurd (let is = h.1 in let no : ⊥ = cc in no)
word_of class.Index w from to e h = absurd (let is = h.1 in let no : ⊥ = cc in no)
word_of class.Negative w from to e h = absurd (let is = h.1 in let no : ⊥ = cc in no)
word_of class.Number w from to e h = absurd (let is = h.1 in let no : ⊥ = cc in no)
word_of class.Text w from to e h = absurd (let is = h.1 in let no : ⊥ = cc in no)
word_of class.Bytes w from to e h = absurd (let is = h.1 in let no : ⊥ = cc in no)
word_of class.Mark w from to e h = absurd (let is = h.0 in let no : ⊥ = cc in no)
word_of class.Other w from to e h = absurd h

-- and bytes are bytes

if_parts : {X : Type 0} (b : Bool) (x y z : X) → (if b then x else y) ≡ z → ((b ≡ true) × (x ≡ z)) ⊎ (y ≡ z)
if_parts true x y z e = inl (refl, e)
if_parts false x y z e = inr e

hex_value_less : (d n : ℕ) → hex_value d ≡ Some n → n < 16
hex_value_less d n e = elim (if_parts (is_digit d) (Some (d - 48)) _ (Some n) e) [
  | inl a ↦ (
      let most : d ≤ 57 = leb-true d 57 (and_parts (nat_le 48 d) (nat_le d 57) a.0).1 in
      let is = a.1 in
      let same : d - 48 ≡ n = cc in
      omega arith)
  | inr other ↦ elim (if_parts (nat_le 97 d && nat_le d 102) (Some (d - 87)) _ (Some n) other) [
    | inl a ↦ (
        let most : d ≤ 102 = leb-true d 102 (and_parts (nat_le 97 d) (nat_le d 102) a.0).1 in
        let is = a.1 in
        let same : d - 87 ≡ n = cc in
        omega arith)
    | inr last ↦ elim (if_parts (nat_le 65 d && nat_le d 70) (Some (d - 55)) None (Some n) last) [
      | inl a ↦ (
          let most : d ≤ 70 = leb-true d 70 (and_parts (nat_le 65 d) (nat_le d 70) a.0).1 in
          let is = a.1 in
          let same : d - 55 ≡ n = cc in
          omega arith)
      | inr other_byte ↦ absurd (let none : ⊥ = cc in none)
    ]
  ]
]

hex_pair_less : (high low : Option ℕ) (b : ℕ) → ((n : ℕ) → high ≡ Some n → n < 16) → ((n : ℕ) → low ≡ Some n → n < 16) → option_and_then (λ h. option_map (λ l. 16 * h + l) low) high ≡ Some b → b < 256
hex_pair_less None low b h l e = absurd (let no : ⊥ = cc in no)
hex_pair_less (Some m) None b h l e = absurd (let no : ⊥ = cc in no)
hex_pair_less (Some m) (Some n) b h l e =
    let first = h m refl in
    let second = l n refl in
    let same : 16 * m + n ≡ b = cc in
    omega arith

paired : (o : Option ℕ) (rest : List ℕ) (b : ℕ) (to : List ℕ) → option_map {U = ℕ × List ℕ} (λ c. (c, rest)) o ≡ Some (b, to) → o ≡ Some b
paired None rest b to e = absurd (let no : ⊥ = cc in no)
paired (Some c) rest b to e = let pair : (c, rest) ≡ (b, to) = cc in ap (λ (p : ℕ × List ℕ). Some p.0) pair

hex_at_less : (from : List ℕ) (b : ℕ) (to : List ℕ) → hex_at from ≡ Some (b, to) → b < 256
hex_at_less [] b to e = absurd (let no : ⊥ = cc in no)
hex_at_less (high ∷ []) b to e = absurd (let no : ⊥ = cc in no)
hex_at_less (high ∷ low ∷ rest) b to e = hex_pair_less (hex_value high) (hex_value low) b (hex_value_less high) (hex_value_less low) (paired (hex_byte high low) rest b to e)

bytes_in : (bytes from to : List ℕ) → InSequence hex_at bytes from to → AreBytes bytes
bytes_in [] from to h = tt
bytes_in (b ∷ bs) from to h = (hex_at_less from b h.0 h.1, bytes_in bs h.0 to h.2)

bytes_of : (c : TokenClass) (bytes from to : List ℕ) → IsTokenOf c (token.Bytes bytes) from to → AreBytes bytes
bytes_of class.Bytes bytes from to h = let e = h.1 in let same : h.0 ≡ bytes = cc in subst AreBytes same (bytes_in h.0 (drop 2 from) (34 ∷ to) h.2)
bytes_of class.Word bytes from to h = absurd (let is = h.0 in let no : ⊥ = cc in no)
bytes_of class.Param bytes from to h = absurd (let is = h.1 in let no : ⊥ = cc in no)
bytes_of class.Index bytes from to h = absurd (let is = h.1 in let no : ⊥ = cc in no)
bytes_of class.Negative bytes from to h = absurd (let is = h.1 in let no : ⊥ = cc in no)
bytes_of class.Number bytes from to h = absurd (let is = h.1 in let no : ⊥ = cc in no)
bytes_of class.Text bytes from to h = absurd (let is = h.1 in let no : ⊥ = cc in no)
bytes_of class.Mark bytes from to h = absurd (let is = h.0 in let no : ⊥ = cc in no)
bytes_of class.Other bytes from to h = absurd h

text_of : (c : TokenClass) (text from to : List ℕ) → IsTokenOf c (token.Text text) from to → IsUtf8 text
text_of class.Text text from to h = let e = h.1 in let same : h.0 ≡ text = cc in subst IsUtf8 same h.2
text_of class.Word text from to h = absurd (let is = h.0 in let no : ⊥ = cc in no)
text_of class.Param text from to h = absurd (let is = h.1 in let no : ⊥ = cc in no)
text_of class.Index text from to h = absurd (let is = h.1 in let no : ⊥ = cc in no)
text_of class.Negative text from to h = absurd (let is = h.1 in let no : ⊥ = cc in no)
text_of class.Number text from to h = absurd (let is = h.1 in let no : ⊥ = cc in no)
text_of class.Bytes text from to h = absurd (let is = h.1 in let no : ⊥ = cc in no)
text_of class.Mark text from to h = absurd (let is = h.0 in let no : ⊥ = cc in no)
text_of class.Other text from to h = absurd h

token_word : (t : ScriptToken) (from to : List ℕ) → IsToken t from to → IsWordToken t
token_word (token.Word w) from to h = word_of (class_of from) w from to refl h
token_word (token.Param k) from to h = tt
token_word (token.Index k) from to h = tt
token_word (token.Number k) from to h = tt
token_word (token.Text k) from to h = text_of (class_of from) k from to h
token_word (token.Bytes k) from to h = bytes_of (class_of from) k from to h
token_word (token.Mark k) from to h = tt

tokens_words : (ts : List ScriptToken) (line : List ℕ) → AreTokens ts line → AreWords ts
tokens_words [] line h = tt
tokens_words (t ∷ ts) line h = (token_word t (following is_blank line) h.0 h.1, tokens_words ts h.0 h.2)

-- the names in the statement of a line
pub statement_names : (line : List ℕ) (s : Statement) → IsStatement line s → Names s
statement_names line s h =
    let ws = tokens_words h.0 line h.1 in
    after_names s h.2.0 [] h.2.2 (tail_words h.2.1.0 h.0 h.2.0 h.2.1.1 ws)
