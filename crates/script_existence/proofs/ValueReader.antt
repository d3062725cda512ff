-- The value at the start of tokens, as a function, and that it finds a value exactly if there is one.
use Rattle.std.proofs.Common.{◌≡◌, ℕ, zero, suc, ◌<◌, ◌==◌, if◌then◌else◌, List, [], ◌∷◌, drop, length, Option, Some, None, option_map, option_and_then, inl, inr, refl, sym, ap, ◌∙◌, subst, arith}
use Rattle.std.specs.Prelude.{codes}
use Rattle.std.specs.Str.{bytes_eq}
use Rattle.std.proofs.lemmas.Bool.{cases_Bool, eqb-true, eqb-false}
use Rattle.std.proofs.lemmas.Option.{none-some}
use Rattle.std.proofs.lemmas.Slice.Eq.{bytes_eq-Decides}
use Rattle.ipdl_base.specs.Plain.{one_box}
use Rattle.script_reader.specs.declared.parts.Bracket.{Bracket}
use Rattle.script_reader.specs.declared.parts.Bracket.TheVariants as bracket
use Rattle.script_reader.specs.declared.reader.ValueForm.{ValueForm}
use Rattle.script_reader.specs.declared.reader.ValueForm.TheVariants as begin
use Rattle.script_reader.specs.declared.token.ScriptToken.{ScriptToken}
use Rattle.script_reader.specs.declared.token.ScriptToken.TheVariants as token
use Rattle.script_reader.specs.declared.written.WrittenValue.{WrittenValue, Union', Held'}
use Rattle.script_reader.specs.declared.written.WrittenValue.TheVariants as written
use Rattle.script_reader.specs.declared.written.WrittenValues.{WrittenValues, First'}
use Rattle.script_reader.specs.declared.written.WrittenValues.TheVariants as values
use Rattle.script_reader.specs.Grammar as grammar
use Rattle.script_reader.specs.Grammar.{atom_of, closing}
use Rattle.script_reader.specs.Heads.{begin_with, begin_of}
use Rattle.script_reader.specs.Parts.{mark, word, component, single}
use Rattle.script_reader.proofs.NoValues.{no_struct, no_array, no_union, no_held, no_atom, no_listed_value, no_listed_more, no_more_comma, no_more_value, no_more_more}
use Rattle.script_existence.proofs.Found.{Finds, AtFront, finds_as, finds_then}

-- One token

abbrev single_by : {X : Type 0} → Option X → List ScriptToken → Option (X × List ScriptToken)
single_by o to = option_map (λ x. (x, to)) o

-- what the first token means, and what is left
abbrev pub read_single : {X : Type 0} → (ScriptToken → Option X) → List ScriptToken → Option (X × List ScriptToken)
read_single read [] = None
read_single read (t ∷ to) = single_by (read t) to

single_by-finds : {X : Type 0} (read : ScriptToken → Option X) (t : ScriptToken) (to : List ScriptToken) (o : Option X) → read t ≡ o → Finds (AtFront (single read) (t ∷ to)) (single_by o to)
single_by-finds read t to None e = λ found h.
    let first : t ≡ h.0 = (let is = h.1 in cc) in
    none-some found.0 (sym e ∙ (ap read first ∙ h.2))
single_by-finds read t to (Some x) e = (t, refl, e)

pub single_finds : {X : Type 0} (read : ScriptToken → Option X) (from : List ScriptToken) → Finds (AtFront (single read) from) (read_single read from)
single_finds read [] = λ found h. absurd (let is = h.1 in let no : ⊥ = cc in no)
single_finds read (t ∷ to) = single_by-finds read t to (read t) refl

-- a mark at the start, and what is left
abbrev pub read_mark : ℕ → List ScriptToken → Option (Unit {0} × List ScriptToken)
read_mark b (token.Mark c ∷ to) = if c == b then Some (tt, to) else None
read_mark b _ = None

abbrev pub marked : ℕ → Unit {0} → List ScriptToken → List ScriptToken → Type 0
marked b u from to = mark b from to

pub mark_finds : (b : ℕ) (from : List ScriptToken) → Finds (AtFront (marked b) from) (read_mark b from)
mark_finds b (token.Mark c ∷ to) = elim (cases_Bool (c == b)) [
  | inl is ↦ rw is (ap (λ d. token.Mark d ∷ to) (eqb-true c b is))
  | inr other ↦ rw other (λ found h. eqb-false c b other (let same : token.Mark c ≡ token.Mark b = cc in cc))
]
mark_finds b from = λ found h. absurd (let no : ⊥ = cc in no)

-- Values

-- the readers of a value, of values up to the mark that closes them, and of what follows the first of these
record Readers : Type 0 where
  value : List ScriptToken → Option (WrittenValue × List ScriptToken)
  listed : Bracket → List ScriptToken → Option (WrittenValues × List ScriptToken)
  more : Bracket → List ScriptToken → Option (WrittenValues × List ScriptToken)

abbrev value_by : Readers → List ScriptToken → ValueForm → Option (WrittenValue × List ScriptToken)
value_by r from begin.Struct = option_map (λ found. (written.Struct found.0, found.1)) (r.listed bracket.Curly (drop 1 from))
value_by r from begin.Array = option_map (λ found. (written.Array found.0, found.1)) (r.listed bracket.Square (drop 1 from))
value_by r from (begin.Union index) = option_map (λ found. (Union' index one_box found.0, found.1)) (r.value (drop 1 from))
value_by r from begin.Held = option_map (λ found. (Held' one_box found.0, found.1)) (r.value (drop 1 from))
value_by r from begin.Atom = option_map (λ found. (written.Atom found.0, found.1)) (read_single atom_of from)

abbrev value_with : Readers → List ScriptToken → Option (WrittenValue × List ScriptToken)
value_with r from = value_by r from (begin_of from)

abbrev values_after : Readers → Bracket → WrittenValue × List ScriptToken → Option (WrittenValues × List ScriptToken)
values_after r c first = option_map (λ found. (First' one_box first.0 one_box found.0, found.1)) (r.more c first.1)

abbrev values_at : Readers → Bracket → List ScriptToken → Option (WrittenValues × List ScriptToken)
values_at r c from = option_and_then (values_after r c) (value_with r from)

abbrev listed_by : Readers → Bracket → List ScriptToken → Option (Unit {0} × List ScriptToken) → Option (WrittenValues × List ScriptToken)
listed_by r c from (Some closed) = Some (values.Nothing, closed.1)
listed_by r c from None = values_at r c from

abbrev more_by : Readers → Bracket → List ScriptToken → Option (Unit {0} × List ScriptToken) → Option (WrittenValues × List ScriptToken)
more_by r c from (Some closed) = Some (values.Nothing, closed.1)
more_by r c from None = option_and_then (λ comma. values_at r c comma.1) (read_mark 44 from)

-- the readers that use these for what is inside, and for what comes after
abbrev next_readers : Readers → Readers
next_readers r = record {
  value = value_with r;
  listed = λ c from. listed_by r c from (read_mark (closing c) from);
  more = λ c from. more_by r c from (read_mark (closing c) from);
}

-- the readers of fewer tokens than a given number
abbrev readers_below : ℕ → Readers
readers_below zero = record { value = λ from. None; listed = λ c from. None; more = λ c from. None }
readers_below (suc n) = next_readers (readers_below n)

-- values up to the mark that closes them, and what is left
abbrev pub read_listed : Bracket → List ScriptToken → Option (WrittenValues × List ScriptToken)
read_listed c from = (readers_below (suc (length from))).listed c from

-- A value takes some of the tokens, and so do values
mutual
  value_shorter : (v : WrittenValue) (from to : List ScriptToken) → grammar.value v from to → length to < length from
  value_shorter (written.Atom a) from to h = omega (arith, ap length h.1)
  value_shorter (written.Struct vs) from to h = omega (arith, ap length h.1, listed_shorter bracket.Curly vs h.0 to h.2)
  value_shorter (written.Array vs) from to h = omega (arith, ap length h.1, listed_shorter bracket.Square vs h.0 to h.2)
  value_shorter (Union' index _ v) from to h = omega (arith, ap length h.1, value_shorter v h.0 to h.2)
  value_shorter (Held' _ v) from to h = omega (arith, ap length h.1, value_shorter v h.0 to h.2)

  listed_shorter : (c : Bracket) (vs : WrittenValues) (from to : List ScriptToken) → grammar.listed c vs from to → length to < length from
  listed_shorter c values.Nothing from to h = omega (arith, ap length h)
  listed_shorter c (First' _ v _ vs) from to h = omega (arith, value_shorter v from h.0 h.1, more_shorter c vs h.0 to h.2)

  more_shorter : (c : Bracket) (vs : WrittenValues) (from to : List ScriptToken) → grammar.more c vs from to → length to < length from
  more_shorter c values.Nothing from to h = omega (arith, ap length h)
  more_shorter c (First' _ v _ vs) from to h = omega (arith, ap length h.1, value_shorter v h.0 h.2.0 h.2.1, more_shorter c vs h.2.0 to h.2.2)

-- What begins as such a form has its first token
abbrev Opens : ValueForm → List ScriptToken → Type 0
Opens begin.Struct from = mark 123 from (drop 1 from)
Opens begin.Array from = mark 91 from (drop 1 from)
Opens (begin.Union index) from = component index from (drop 1 from)
Opens begin.Held from = word (codes "some") from (drop 1 from)
Opens begin.Atom from = Unit {0}

opens_with : (t : ScriptToken) (rest : List ScriptToken) → Opens (begin_with t) (t ∷ rest)
opens_with (token.Mark b) rest = elim (cases_Bool (b == 123)) [
  | inl curly ↦ rw curly (ap (λ c. token.Mark c ∷ rest) (eqb-true b 123 curly))
  | inr other ↦ elim (cases_Bool (b == 91)) [
    | inl square ↦ rw (other, square) (ap (λ c. token.Mark c ∷ rest) (eqb-true b 91 square))
    | inr neither ↦ rw (other, neither) tt
  ]
]
opens_with (token.Index n) rest = refl
opens_with (token.Word w) rest = elim (cases_Bool (bytes_eq w (codes "some"))) [
  | inl is ↦ rw is (ap (λ v. token.Word v ∷ rest) ((bytes_eq-Decides w (codes "some")).0 is))
  | inr other ↦ rw other tt
]
opens_with t rest = tt

opens_at : (from : List ScriptToken) → Opens (begin_of from) from
opens_at [] = tt
opens_at (t ∷ rest) = opens_with t rest

opens_as : (from : List ScriptToken) (form : ValueForm) → begin_of from ≡ form → Opens form from
opens_as from form e = let P : ValueForm → Type 0 = λ f. Opens f from in subst P e (opens_at from)

-- the readers find what there is, in fewer tokens than a given number
record FindBelow (n : ℕ) (r : Readers) : Type 0 where
  value : (from : List ScriptToken) → length from < n → Finds (AtFront grammar.value from) (r.value from)
  listed : (c : Bracket) (from : List ScriptToken) → length from < n → Finds (AtFront (grammar.listed c) from) (r.listed c from)
  more : (c : Bracket) (from : List ScriptToken) → length from < n → Finds (AtFront (grammar.more c) from) (r.more c from)

module _ (n : ℕ) (r : Readers) (find : FindBelow n r) where
  value_by-finds : (from : List ScriptToken) → length from < suc n → (form : ValueForm) → begin_of from ≡ form → Finds (AtFront grammar.value from) (value_by r from form)
  value_by-finds from below begin.Struct e =
      let opens = opens_as from begin.Struct e in
      let size = ap length opens in
      finds_as (AtFront (grammar.listed bracket.Curly) (drop 1 from)) (AtFront grammar.value from) (λ found. (written.Struct found.0, found.1)) (λ found h. (drop 1 from, opens, h))
      (λ none found. no_struct from (drop 1 from) e refl (λ vs to. none (vs, to)) found.0 found.1)
      (r.listed bracket.Curly (drop 1 from))
      (find.listed bracket.Curly (drop 1 from) (omega arith))
  value_by-finds from below begin.Array e =
      let opens = opens_as from begin.Array e in
      let size = ap length opens in
      finds_as (AtFront (grammar.listed bracket.Square) (drop 1 from)) (AtFront grammar.value from) (λ found. (written.Array found.0, found.1)) (λ found h. (drop 1 from, opens, h))
      (λ none found. no_array from (drop 1 from) e refl (λ vs to. none (vs, to)) found.0 found.1)
      (r.listed bracket.Square (drop 1 from))
      (find.listed bracket.Square (drop 1 from) (omega arith))
  value_by-finds from below (begin.Union index) e =
      let opens = opens_as from (begin.Union index) e in
      let size = ap length opens in
      finds_as (AtFront grammar.value (drop 1 from)) (AtFront grammar.value from) (λ found. (Union' index one_box found.0, found.1)) (λ found h. (drop 1 from, opens, h))
      (λ none found. no_union from (drop 1 from) index e refl (λ v to. none (v, to)) found.0 found.1)
      (r.value (drop 1 from))
      (find.value (drop 1 from) (omega arith))
  value_by-finds from below begin.Held e =
      let opens = opens_as from begin.Held e in
      let size = ap length opens in
      finds_as (AtFront grammar.value (drop 1 from)) (AtFront grammar.value from) (λ found. (Held' one_box found.0, found.1)) (λ found h. (drop 1 from, opens, h))
      (λ none found. no_held from (drop 1 from) e refl (λ v to. none (v, to)) found.0 found.1)
      (r.value (drop 1 from))
      (find.value (drop 1 from) (omega arith))
  value_by-finds from below begin.Atom e =
      finds_as (AtFront (single atom_of) from) (AtFront grammar.value from) (λ found. (written.Atom found.0, found.1)) (λ found h. h)
      (λ none found. no_atom from e (λ a to. none (a, to)) found.0 found.1)
      (read_single atom_of from)
      (single_finds atom_of from)

  value_with-finds : (from : List ScriptToken) → length from < suc n → Finds (AtFront grammar.value from) (value_with r from)
  value_with-finds from below = value_by-finds from below (begin_of from) refl

  listed_by-finds : (c : Bracket) (from : List ScriptToken) → length from < suc n → (o : Option (Unit {0} × List ScriptToken)) → Finds (AtFront (marked (closing c)) from) o → Finds (AtFront (grammar.listed c) from) (listed_by r c from o)
  listed_by-finds c from below (Some closed) h = h
  listed_by-finds c from below None unclosed =
      finds_then (AtFront grammar.value from) (AtFront (grammar.listed c) from) (values_after r c)
      (λ first h.
      let shorter = value_shorter first.0 from first.1 h in
      finds_as (AtFront (grammar.more c) first.1) (AtFront (grammar.listed c) from) (λ found. (First' one_box first.0 one_box found.0, found.1)) (λ found k. (first.1, h, k))
      (λ none found. no_listed_more c (closing c) from from first.1 first.0 refl (λ to. unclosed (tt, to)) refl h (λ vs to. none (vs, to)) found.0 found.1)
      (r.more c first.1)
      (find.more c first.1 (omega arith)))
      (λ none found. no_listed_value c (closing c) from from refl (λ to. unclosed (tt, to)) refl (λ v to. none (v, to)) found.0 found.1)
      (value_with r from)
      (value_with-finds from below)

  more_by-finds : (c : Bracket) (from : List ScriptToken) → length from < suc n → (o : Option (Unit {0} × List ScriptToken)) → Finds (AtFront (marked (closing c)) from) o → Finds (AtFront (grammar.more c) from) (more_by r c from o)
  more_by-finds c from below (Some closed) h = h
  more_by-finds c from below None unclosed =
      finds_then (AtFront (marked 44) from) (AtFront (grammar.more c) from) (λ comma. values_at r c comma.1)
      (λ comma at.
      let size = ap length at in
      finds_then (AtFront grammar.value comma.1) (AtFront (grammar.more c) from) (values_after r c)
      (λ first h.
      let shorter = value_shorter first.0 comma.1 first.1 h in
      finds_as (AtFront (grammar.more c) first.1) (AtFront (grammar.more c) from) (λ found. (First' one_box first.0 one_box found.0, found.1)) (λ found k. (comma.1, at, (first.1, h, k)))
      (λ none found. no_more_more c (closing c) from from comma.1 first.1 first.0 refl (λ to. unclosed (tt, to)) refl at h (λ vs to. none (vs, to)) found.0 found.1)
      (r.more c first.1)
      (find.more c first.1 (omega arith)))
      (λ none found. no_more_value c (closing c) from from comma.1 refl (λ to. unclosed (tt, to)) refl at (λ v to. none (v, to)) found.0 found.1)
      (value_with r comma.1)
      (value_with-finds comma.1 (omega arith)))
      (λ none found. no_more_comma c (closing c) from from refl (λ to. unclosed (tt, to)) refl (λ to. none (tt, to)) found.0 found.1)
      (read_mark 44 from)
      (mark_finds 44 from)

  next_find : FindBelow (suc n) (next_readers r)
  next_find = record {
    value = value_with-finds;
    listed = λ c from below. listed_by-finds c from below (read_mark (closing c) from) (mark_finds (closing c) from);
    more = λ c from below. more_by-finds c from below (read_mark (closing c) from) (mark_finds (closing c) from);
  }

readers_find : (n : ℕ) → FindBelow n (readers_below n)
readers_find zero = record { value = λ from below. absurd (omega arith); listed = λ c from below. absurd (omega arith); more = λ c from below. absurd (omega arith) }
readers_find (suc n) = next_find n (readers_below n) (readers_find n)

-- the values are found exactly if there are some
pub listed_finds : (c : Bracket) (from : List ScriptToken) → Finds (AtFront (grammar.listed c) from) (read_listed c from)
listed_finds c from = (readers_find (suc (length from))).listed c from (omega arith)
