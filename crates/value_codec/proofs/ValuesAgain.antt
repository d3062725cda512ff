-- A value is read again from its bytes, whatever follows them.
use Rattle.std.proofs.Common.{◌≡◌, ◌≤◌, ◌<◌, ℕ, zero, suc, ◌^◌, ℤ, Bool, true, false, cond, ltb, List, [], ◌∷◌, ◌++◌, length, replicate, Option, Some, None, Result, Ok, refl, ap, subst, ◌∙◌, arith, append_assoc, length-append, unwrap_or, inl, inr}
use Rattle.std.proofs.lemmas.Bool.{cases_lt, le-ltb}
use Rattle.std.specs.Prelude.{IsSomeAnd, slice_get, option_and_then}
use Rattle.std.specs.Int.{w128, cast_unsigned}
use Rattle.std.specs.List.{AllByRecursion}
use Rattle.std.specs.Option.{option_map_or}
use Rattle.byteorder.specs.Endian.{little_bytes}
use Rattle.ipdl_base.specs.declared.builtin.Builtin.{Builtin as BuiltinType}
use Rattle.ipdl_base.specs.declared.builtin.Builtin.TheVariants as builtin
use Rattle.ipdl_base.specs.declared.schema.ParamRow.{ParamRow}
use Rattle.ipdl_base.specs.declared.schema.Schema.{Schema}
use Rattle.ipdl_base.specs.declared.schema.Shape.{Shape, Builtin, Using, Actor, Named, Array', Maybe', Unique', Endpoint}
use Rattle.ipdl_base.specs.declared.schema.TypeRow.{TypeRow}
use Rattle.ipdl_base.specs.declared.schema.TypeRow.TheVariants.{Struct, Union}
use Rattle.ipdl_base.specs.declared.value.Value.{Value, Held-Value-Maybe-0, None', Some'}
use Rattle.ipdl_base.specs.declared.value.Value as boxed
use Rattle.ipdl_base.specs.declared.value.Value.TheVariants as value
use Rattle.ipdl_base.specs.declared.value.Values.{Values, First'}
use Rattle.ipdl_base.specs.declared.value.Values.TheVariants as values
use Rattle.ipdl_base.specs.Plain.{one_box, plain, plain_held, plain_values}
use Rattle.value_types.specs.declared.layout.Layout.{Layout}
use Rattle.value_types.specs.Fits.{actor_ids, held_actor_ids, all_actor_ids, IsCarriedId}
use Rattle.value_types.specs.HasType.{HasType, HeldHasType, AllHaveType, HaveTypes, IsInRange, IsWithinBits}
use Rattle.value_types.specs.Shapes.{builtin_of, fields_in, component_in}
use Rattle.value_codec.specs.declared.fault.Fault.{Fault}
use Rattle.value_codec.specs.Reading.{◌>>=◌, Inside, elements_at, values_at, array_at, held_at, maybe_at, fields_at, component_at, union_at, row_at, value_at}
use Rattle.value_codec.specs.Spelling.{part, word, index_bytes, counted, struct_byte, count, width, value_bytes, held_bytes, elements_bytes, values_bytes}
use Rattle.value_codec.proofs.LittleEndian.{IsBytes, length-little}
use Rattle.value_codec.proofs.Lengths.{part_length, counted_length}
use Rattle.value_codec.proofs.Taken.{word_again, flag_again, struct_again}
use Rattle.value_codec.proofs.BuiltinsAgain.{number_again, float_again, truth_again, text_again, bytes_again, actor_again, number_some, float_some}
use Rattle.value_codec.proofs.ValuesRead.{index_word}

IsBytes-left : (xs ys : List ℕ) → IsBytes (xs ++ ys) → IsBytes xs
IsBytes-left [] ys h i = omega arith
IsBytes-left (x ∷ xs) ys h zero = h 0
IsBytes-left (x ∷ xs) ys h (suc i) = IsBytes-left xs ys (λ j. h (suc j)) i

pub IsBytes-right : (xs ys : List ℕ) → IsBytes (xs ++ ys) → IsBytes ys
IsBytes-right [] ys h = h
IsBytes-right (x ∷ xs) ys h = IsBytes-right xs ys (λ j. h (suc j))

-- Bytes that may be read at a depth.
pub record IsRoomy (depth : ℕ) (bytes : List ℕ) : Type 0 where
  pub fits : IsBytes bytes
  pub less : length bytes < depth
  pub small : length bytes < 2 ^ 32

pub roomy_left : (depth : ℕ) (xs ys : List ℕ) → IsRoomy depth (xs ++ ys) → IsRoomy depth xs
roomy_left depth xs ys h = record { fits = IsBytes-left xs ys h.fits; less = omega (arith, length-append xs ys, h.less); small = omega (arith, length-append xs ys, h.small) }

pub roomy_right : (depth : ℕ) (xs ys : List ℕ) → IsRoomy depth (xs ++ ys) → IsRoomy depth ys
roomy_right depth xs ys h = record { fits = IsBytes-right xs ys h.fits; less = omega (arith, length-append xs ys, h.less); small = omega (arith, length-append xs ys, h.small) }

-- after a byte, one depth less is enough
roomy_inside : (depth : ℕ) (xs ys : List ℕ) → 0 < length xs → IsRoomy (suc depth) (xs ++ ys) → IsRoomy depth ys
roomy_inside depth xs ys some h = record { fits = IsBytes-right xs ys h.fits; less = omega (arith, length-append xs ys, h.less); small = omega (arith, length-append xs ys, h.small) }

some_part : (layout : Layout) (bytes : List ℕ) → 0 < length bytes → 0 < length (part layout bytes)
some_part layout bytes some = omega (arith, part_length layout bytes)

all_left : (P : ℤ → Type 0) (xs ys : List ℤ) → AllByRecursion P (xs ++ ys) → AllByRecursion P xs
all_left P [] ys h = tt
all_left P (x ∷ xs) ys h = (h.0, all_left P xs ys h.1)

all_right : (P : ℤ → Type 0) (xs ys : List ℤ) → AllByRecursion P (xs ++ ys) → AllByRecursion P ys
all_right P [] ys h = h
all_right P (x ∷ xs) ys h = all_right P xs ys h.1

-- Each value has a byte

int_some : (layout : Layout) (schema : Schema) (shape : Shape) (z : ℤ) → IsInRange shape z → 0 < length (value_bytes layout schema shape (value.Int z))
int_some layout schema (Builtin b) z h = some_part layout (little_bytes (width (Builtin b)) (cast_unsigned w128 z)) (omega (arith, length-little (width (Builtin b)) (cast_unsigned w128 z), number_some b z h))
int_some layout schema (Using name) z h = absurd h
int_some layout schema (Actor p nullable) z h = absurd h
int_some layout schema (Named t) z h = absurd h
int_some layout schema (Array' at s) z h = absurd h
int_some layout schema (Maybe' at s) z h = absurd h
int_some layout schema (Unique' at s) z h = absurd h
int_some layout schema (Endpoint p managed) z h = absurd h

bits_some : (layout : Layout) (schema : Schema) (shape : Shape) (x : ℕ) → IsWithinBits shape x → 0 < length (value_bytes layout schema shape (value.Bits x))
bits_some layout schema (Builtin b) x h = some_part layout (little_bytes (width (Builtin b)) x) (omega (arith, length-little (width (Builtin b)) x, float_some b x h))
bits_some layout schema (Using name) x h = absurd h
bits_some layout schema (Actor p nullable) x h = absurd h
bits_some layout schema (Named t) x h = absurd h
bits_some layout schema (Array' at s) x h = absurd h
bits_some layout schema (Maybe' at s) x h = absurd h
bits_some layout schema (Unique' at s) x h = absurd h
bits_some layout schema (Endpoint p managed) x h = absurd h

index_some : (index : ℕ) → 0 < length (index_bytes index)
index_some index = elim (ltb index (2 ^ 32)) as (λ b. 0 < length (cond b (word index) (replicate 4 index))) [ true ↦ omega arith | false ↦ omega arith ]

some_first : (xs ys : List ℕ) → 0 < length xs → 0 < length (xs ++ ys)
some_first xs ys some = omega (arith, length-append xs ys)

held_some : (layout : Layout) (schema : Schema) (inner : Option Shape) (held : Held-Value-Maybe-0) → 0 < length (held_bytes layout schema inner held)
held_some layout schema inner None' = omega arith
held_some layout schema inner (Some' at v) = omega arith

value_some : (layout : Layout) (schema : Schema) (shape : Shape) (v : Value) → HasType schema shape v → 0 < length (value_bytes layout schema shape v)
value_some layout schema shape (value.Bool b) h = omega arith
value_some layout schema shape (value.Int z) h = int_some layout schema shape z h
value_some layout schema shape (value.Text text) h = omega arith
value_some layout schema shape (value.Bytes bytes) h = omega arith
value_some layout schema shape (value.Bits x) h = bits_some layout schema shape x h
value_some layout schema shape (value.Struct vs) h = omega arith
value_some layout schema shape (boxed.Union' index at v) h = some_first (index_bytes index) _ (index_some index)
value_some layout schema shape (value.Array vs) h = omega arith
value_some layout schema shape (boxed.Maybe' held) h = held_some layout schema _ held
value_some layout schema shape (value.Actor id) h = omega arith

count_small : (layout : Layout) (schema : Schema) (shape : Shape) (vs : Values) → AllHaveType schema shape vs → count vs ≤ length (elements_bytes layout schema shape vs)
count_small layout schema shape values.Nothing h = omega arith
count_small layout schema shape (First' _ v _ vs) h =
    omega (arith, length-append (value_bytes layout schema shape v) (elements_bytes layout schema shape vs), value_some layout schema shape v h.0, count_small layout schema shape vs h.1)

text_small : (layout : Layout) (text : List ℕ) → length (counted layout text) < 2 ^ 32 → length text < 2 ^ 32
text_small layout text small = omega (arith, counted_length layout text)

index_fits : (index : ℕ) → IsBytes (index_bytes index) → index < 2 ^ 32
index_fits index fits =
    elim (cases_lt index (2 ^ 32)) [
      | inl lt ↦ lt
      | inr ge ↦
          let large : ltb index (2 ^ 32) ≡ false = le-ltb index (2 ^ 32) ge in
          let copies : index_bytes index ≡ replicate 4 index = λ i. cond (large i) (word index) (replicate 4 index) in
          let first : IsBytes (replicate 4 index) = subst IsBytes copies fits in
          let byte : index < 256 = first 0 in
          absurd (omega arith)
    ]

-- The parts of values that contain others

abbrev ReadAgain : {A : Type 0} → Result (A × List ℕ) Fault → A → List ℕ → Type 0
ReadAgain read x rest = read ≡ Ok (x, rest)

array_part : (inside : Inside) (shape : Shape) (n : ℕ) (bytes rest : List ℕ) (vs : Values) → n < 2 ^ 32 → ReadAgain (elements_at inside shape n (bytes ++ rest)) vs rest → ReadAgain (array_at inside shape ((word n ++ bytes) ++ rest)) (value.Array vs) rest
unfolding array_at
array_part inside shape n bytes rest vs small again =
    ap (array_at inside shape) (append_assoc (word n) bytes rest)
    ∙ ap (λ (r : Result (ℕ × List ℕ) Fault). r >>= λ n. elements_at inside shape n.0 n.1 >>= λ elements. Ok (value.Array elements.0, elements.1)) (word_again n (bytes ++ rest) small)
    ∙ ap (λ (r : Result (Values × List ℕ) Fault). r >>= λ elements. Ok (value.Array elements.0, elements.1)) again

none_part : (inside : Inside) (layout : Layout) (shape : Shape) (rest : List ℕ) → ReadAgain (maybe_at inside layout shape (part layout (0 ∷ []) ++ rest)) (boxed.Maybe' None') rest
unfolding maybe_at held_at
none_part inside layout shape rest = ap (λ (r : Result (Bool × List ℕ) Fault). r >>= λ flag. held_at inside shape flag.0 flag.1) (flag_again layout false rest)

some_held : (inside : Inside) (layout : Layout) (shape : Shape) (bytes rest : List ℕ) (v : Value) → ReadAgain (inside shape (bytes ++ rest)) v rest → ReadAgain (maybe_at inside layout shape ((part layout (1 ∷ []) ++ bytes) ++ rest)) (boxed.Maybe' (Some' one_box v)) rest
unfolding maybe_at held_at
some_held inside layout shape bytes rest v again =
    ap (maybe_at inside layout shape) (append_assoc (part layout (1 ∷ [])) bytes rest)
    ∙ ap (λ (r : Result (Bool × List ℕ) Fault). r >>= λ flag. held_at inside shape flag.0 flag.1) (flag_again layout true (bytes ++ rest))
    ∙ ap (λ (r : Result (Value × List ℕ) Fault). r >>= λ held. Ok (boxed.Maybe' (Some' one_box held.0), held.1)) again

fields_part : (inside : Inside) (layout : Layout) (fields : List ParamRow) (bytes rest : List ℕ) (vs : Values) → ReadAgain (values_at inside fields (bytes ++ rest)) vs rest → ReadAgain (fields_at inside layout fields ((part layout (struct_byte ∷ []) ++ bytes) ++ rest)) (value.Struct vs) rest
unfolding fields_at
fields_part inside layout fields bytes rest vs again =
    ap (fields_at inside layout fields) (append_assoc (part layout (struct_byte ∷ [])) bytes rest)
    ∙ ap (λ (r : Result (List ℕ) Fault). r >>= λ following. values_at inside fields following >>= λ found. Ok (value.Struct found.0, found.1)) (struct_again layout (bytes ++ rest))
    ∙ ap (λ (r : Result (Values × List ℕ) Fault). r >>= λ found. Ok (value.Struct found.0, found.1)) again

union_part : (inside : Inside) (components : List Shape) (index : ℕ) (shape : Shape) (bytes rest : List ℕ) (v : Value) → slice_get components index ≡ Some shape → index < 2 ^ 32 → ReadAgain (inside shape (bytes ++ rest)) v rest → ReadAgain (union_at inside components ((index_bytes index ++ bytes) ++ rest)) (boxed.Union' index one_box v) rest
unfolding union_at component_at
union_part inside components index shape bytes rest v found small again =
    let whole : (index_bytes index ++ bytes) ++ rest ≡ word index ++ (bytes ++ rest) = append_assoc (index_bytes index) bytes rest ∙ ap (λ (xs : List ℕ). xs ++ (bytes ++ rest)) (index_word index small) in
    let start : List ℕ = word index ++ (bytes ++ rest) in
    ap (union_at inside components) whole
    ∙ ap (λ (r : Result (ℕ × List ℕ) Fault). r >>= λ i. component_at inside (slice_get components i.0) i.0 start i.1) (word_again index (bytes ++ rest) small)
    ∙ ap (λ (o : Option Shape). component_at inside o index start (bytes ++ rest)) found
    ∙ ap (λ (r : Result (Value × List ℕ) Fault). r >>= λ held. Ok (boxed.Union' index one_box held.0, held.1)) again

-- a struct by the row of its type
struct_part : (inside : Inside) (layout : Layout) (schema : Schema) (row : Option TypeRow) (vs read : Values) (depth : ℕ) (rest : List ℕ)
    → IsSomeAnd (option_and_then fields_in row) (λ fields. HaveTypes schema fields vs)
    → IsRoomy (suc depth) (part layout (struct_byte ∷ []) ++ values_bytes layout schema (unwrap_or (option_and_then fields_in row) []) vs)
    → ((fields : List ParamRow) → HaveTypes schema fields vs → IsRoomy depth (values_bytes layout schema fields vs) → ReadAgain (values_at inside fields (values_bytes layout schema fields vs ++ rest)) read rest)
    → ReadAgain (row_at inside layout row ((part layout (struct_byte ∷ []) ++ values_bytes layout schema (unwrap_or (option_and_then fields_in row) []) vs) ++ rest)) (value.Struct read) rest
struct_part inside layout schema None vs read depth rest h room again = absurd h
struct_part inside layout schema (Some (Union name components)) vs read depth rest h room again = absurd h
struct_part inside layout schema (Some (Struct name fields)) vs read depth rest h room again =
    fields_part inside layout fields (values_bytes layout schema fields vs) rest read (again fields h (roomy_inside depth (part layout (struct_byte ∷ [])) (values_bytes layout schema fields vs) (omega arith) room))

-- a union by the row of its type
component_part : (inside : Inside) (layout : Layout) (schema : Schema) (components : List Shape) (index : ℕ) (found : Option Shape) (v read : Value) (depth : ℕ) (rest : List ℕ)
    → slice_get components index ≡ found
    → IsSomeAnd found (λ component. HasType schema component v)
    → IsRoomy (suc depth) (index_bytes index ++ option_map_or (λ component. value_bytes layout schema component v) found [])
    → ((shape : Shape) → HasType schema shape v → IsRoomy depth (value_bytes layout schema shape v) → ReadAgain (inside shape (value_bytes layout schema shape v ++ rest)) read rest)
    → ReadAgain (union_at inside components ((index_bytes index ++ option_map_or (λ component. value_bytes layout schema component v) found []) ++ rest)) (boxed.Union' index one_box read) rest
component_part inside layout schema components index None v read depth rest is h room again = absurd h
component_part inside layout schema components index (Some shape) v read depth rest is h room again =
    let bytes : List ℕ = value_bytes layout schema shape v in
    union_part inside components index shape bytes rest read is (index_fits index (IsBytes-left (index_bytes index) bytes room.fits)) (again shape h (roomy_inside depth (index_bytes index) bytes (index_some index) room))

union_row : (inside : Inside) (layout : Layout) (schema : Schema) (row : Option TypeRow) (index : ℕ) (v read : Value) (depth : ℕ) (rest : List ℕ)
    → IsSomeAnd (option_and_then (component_in index) row) (λ component. HasType schema component v)
    → IsRoomy (suc depth) (index_bytes index ++ option_map_or (λ component. value_bytes layout schema component v) (option_and_then (component_in index) row) [])
    → ((shape : Shape) → HasType schema shape v → IsRoomy depth (value_bytes layout schema shape v) → ReadAgain (inside shape (value_bytes layout schema shape v ++ rest)) read rest)
    → ReadAgain (row_at inside layout row ((index_bytes index ++ option_map_or (λ component. value_bytes layout schema component v) (option_and_then (component_in index) row) []) ++ rest)) (boxed.Union' index one_box read) rest
union_row inside layout schema None index v read depth rest h room again = absurd h
union_row inside layout schema (Some (Struct name fields)) index v read depth rest h room again = absurd h
union_row inside layout schema (Some (Union name components)) index v read depth rest h room again = component_part inside layout schema components index (slice_get components index) v read depth rest refl h room again

builtin_shape : (shape : Shape) (b : BuiltinType) → builtin_of shape ≡ Some b → Builtin b ≡ shape
builtin_shape (Builtin c) b e = cc
builtin_shape (Using name) b e = absurd cc
builtin_shape (Actor p nullable) b e = absurd cc
builtin_shape (Named t) b e = absurd cc
builtin_shape (Array' at s) b e = absurd cc
builtin_shape (Maybe' at s) b e = absurd cc
builtin_shape (Unique' at s) b e = absurd cc
builtin_shape (Endpoint p managed) b e = absurd cc

module _ (layout : Layout) (schema : Schema) where
  abbrev IsAgain : ℕ → Shape → Value → List ℕ → Type 0
  IsAgain depth shape v rest = ReadAgain (value_at depth layout schema shape (value_bytes layout schema shape v ++ rest)) (plain v) rest

  bool_again : (shape : Shape) (depth : ℕ) (b : Bool) (rest : List ℕ) → builtin_of shape ≡ Some builtin.Bool → IsAgain (suc depth) shape (value.Bool b) rest
  unfolding value_at
  bool_again shape depth b rest e =
      let here : IsAgain (suc depth) (Builtin builtin.Bool) (value.Bool b) rest = truth_again layout b rest in
      subst (λ (s : Shape). IsAgain (suc depth) s (value.Bool b) rest) (builtin_shape shape builtin.Bool e) here

  string_again : (shape : Shape) (depth : ℕ) (text rest : List ℕ) → HasType schema shape (value.Text text) → IsRoomy (suc depth) (counted layout text) → IsAgain (suc depth) shape (value.Text text) rest
  unfolding value_at
  string_again shape depth text rest h room =
      let here : IsAgain (suc depth) (Builtin builtin.NsString) (value.Text text) rest = text_again layout text rest h.1 (text_small layout text room.small) in
      subst (λ (s : Shape). IsAgain (suc depth) s (value.Text text) rest) (builtin_shape shape builtin.NsString h.0) here

  int_again : (shape : Shape) (depth : ℕ) (z : ℤ) (rest : List ℕ) → IsInRange shape z → IsAgain (suc depth) shape (value.Int z) rest
  unfolding value_at
  int_again (Builtin b) depth z rest h = number_again layout b z rest h
  int_again (Using name) depth z rest h = absurd h
  int_again (Actor p nullable) depth z rest h = absurd h
  int_again (Named t) depth z rest h = absurd h
  int_again (Array' at s) depth z rest h = absurd h
  int_again (Maybe' at s) depth z rest h = absurd h
  int_again (Unique' at s) depth z rest h = absurd h
  int_again (Endpoint p managed) depth z rest h = absurd h

  bits_again : (shape : Shape) (depth x : ℕ) (rest : List ℕ) → IsWithinBits shape x → IsAgain (suc depth) shape (value.Bits x) rest
  unfolding value_at
  bits_again (Builtin b) depth x rest h = float_again layout b x rest h
  bits_again (Using name) depth x rest h = absurd h
  bits_again (Actor p nullable) depth x rest h = absurd h
  bits_again (Named t) depth x rest h = absurd h
  bits_again (Array' at s) depth x rest h = absurd h
  bits_again (Maybe' at s) depth x rest h = absurd h
  bits_again (Unique' at s) depth x rest h = absurd h
  bits_again (Endpoint p managed) depth x rest h = absurd h

  any_bytes_again : (shape : Shape) (depth : ℕ) (bytes rest : List ℕ) → HasType schema shape (value.Bytes bytes) → IsRoomy (suc depth) (counted layout bytes) → IsAgain (suc depth) shape (value.Bytes bytes) rest
  unfolding value_at
  any_bytes_again (Builtin builtin.Bool) depth bytes rest h room = absurd cc
  any_bytes_again (Builtin builtin.Char) depth bytes rest h room = absurd cc
  any_bytes_again (Builtin builtin.Int8) depth bytes rest h room = absurd cc
  any_bytes_again (Builtin builtin.Uint8) depth bytes rest h room = absurd cc
  any_bytes_again (Builtin builtin.Short) depth bytes rest h room = absurd cc
  any_bytes_again (Builtin builtin.Int16) depth bytes rest h room = absurd cc
  any_bytes_again (Builtin builtin.Uint16) depth bytes rest h room = absurd cc
  any_bytes_again (Builtin builtin.Int) depth bytes rest h room = absurd cc
  any_bytes_again (Builtin builtin.Int32) depth bytes rest h room = absurd cc
  any_bytes_again (Builtin builtin.Uint32) depth bytes rest h room = absurd cc
  any_bytes_again (Builtin builtin.NsResult) depth bytes rest h room = absurd cc
  any_bytes_again (Builtin builtin.Long) depth bytes rest h room = absurd cc
  any_bytes_again (Builtin builtin.Int64) depth bytes rest h room = absurd cc
  any_bytes_again (Builtin builtin.IntPtr) depth bytes rest h room = absurd cc
  any_bytes_again (Builtin builtin.Uint64) depth bytes rest h room = absurd cc
  any_bytes_again (Builtin builtin.UintPtr) depth bytes rest h room = absurd cc
  any_bytes_again (Builtin builtin.Float) depth bytes rest h room = absurd cc
  any_bytes_again (Builtin builtin.Double) depth bytes rest h room = absurd cc
  any_bytes_again (Builtin builtin.NsString) depth bytes rest h room = absurd cc
  any_bytes_again (Builtin builtin.NsCString) depth bytes rest h room = bytes_again layout bytes rest (text_small layout bytes room.small)
  any_bytes_again (Builtin builtin.ByteBuf) depth bytes rest h room = bytes_again layout bytes rest (text_small layout bytes room.small)
  any_bytes_again (Builtin builtin.Shmem) depth bytes rest h room = absurd cc
  any_bytes_again (Builtin builtin.FileDescriptor) depth bytes rest h room = absurd cc
  any_bytes_again (Using name) depth bytes rest h room = bytes_again layout bytes rest (text_small layout bytes room.small)
  any_bytes_again (Actor p nullable) depth bytes rest h room = absurd cc
  any_bytes_again (Named t) depth bytes rest h room = absurd cc
  any_bytes_again (Array' at s) depth bytes rest h room = absurd cc
  any_bytes_again (Maybe' at s) depth bytes rest h room = absurd cc
  any_bytes_again (Unique' at s) depth bytes rest h room = absurd cc
  any_bytes_again (Endpoint p managed) depth bytes rest h room = absurd cc

  id_again : (shape : Shape) (depth : ℕ) (id : ℤ) (rest : List ℕ) → HasType schema shape (value.Actor id) → IsCarriedId id → IsAgain (suc depth) shape (value.Actor id) rest
  unfolding value_at
  id_again (Builtin b) depth id rest h carried = absurd h
  id_again (Using name) depth id rest h carried = absurd h
  id_again (Actor p nullable) depth id rest h carried = actor_again nullable id rest h carried
  id_again (Named t) depth id rest h carried = absurd h
  id_again (Array' at s) depth id rest h carried = absurd h
  id_again (Maybe' at s) depth id rest h carried = absurd h
  id_again (Unique' at s) depth id rest h carried = absurd h
  id_again (Endpoint p managed) depth id rest h carried = absurd h

  mutual
    unfolding value_at elements_at values_at

    pub value_again : (v : Value) (shape : Shape) (depth : ℕ) (rest : List ℕ) → HasType schema shape v → AllByRecursion IsCarriedId (actor_ids v) → IsRoomy depth (value_bytes layout schema shape v) → IsAgain depth shape v rest
    value_again v shape zero rest h ids room = absurd (omega (arith, room.less))
    value_again (value.Bool b) shape (suc depth) rest h ids room = bool_again shape depth b rest h
    value_again (value.Int z) shape (suc depth) rest h ids room = int_again shape depth z rest h
    value_again (value.Text text) shape (suc depth) rest h ids room = string_again shape depth text rest h room
    value_again (value.Bytes bytes) shape (suc depth) rest h ids room = any_bytes_again shape depth bytes rest h room
    value_again (value.Bits x) shape (suc depth) rest h ids room = bits_again shape depth x rest h
    value_again (value.Struct vs) (Named t) (suc depth) rest h ids room =
        struct_part (value_at depth layout schema) layout schema (slice_get schema.types t) vs (plain_values vs) depth rest h room (λ fields types fields_room. values_again vs fields depth rest types ids fields_room)
    value_again (value.Struct vs) (Builtin b) (suc depth) rest h ids room = absurd h
    value_again (value.Struct vs) (Using name) (suc depth) rest h ids room = absurd h
    value_again (value.Struct vs) (Actor p nullable) (suc depth) rest h ids room = absurd h
    value_again (value.Struct vs) (Array' at s) (suc depth) rest h ids room = absurd h
    value_again (value.Struct vs) (Maybe' at s) (suc depth) rest h ids room = absurd h
    value_again (value.Struct vs) (Unique' at s) (suc depth) rest h ids room = absurd h
    value_again (value.Struct vs) (Endpoint p managed) (suc depth) rest h ids room = absurd h
    value_again (boxed.Union' index _ v) (Named t) (suc depth) rest h ids room =
        union_row (value_at depth layout schema) layout schema (slice_get schema.types t) index v (plain v) depth rest h room (λ shape type shape_room. value_again v shape depth rest type ids shape_room)
    value_again (boxed.Union' index _ v) (Builtin b) (suc depth) rest h ids room = absurd h
    value_again (boxed.Union' index _ v) (Using name) (suc depth) rest h ids room = absurd h
    value_again (boxed.Union' index _ v) (Actor p nullable) (suc depth) rest h ids room = absurd h
    value_again (boxed.Union' index _ v) (Array' at s) (suc depth) rest h ids room = absurd h
    value_again (boxed.Union' index _ v) (Maybe' at s) (suc depth) rest h ids room = absurd h
    value_again (boxed.Union' index _ v) (Unique' at s) (suc depth) rest h ids room = absurd h
    value_again (boxed.Union' index _ v) (Endpoint p managed) (suc depth) rest h ids room = absurd h
    value_again (value.Array vs) (Array' at s) (suc depth) rest h ids room =
        let bytes : List ℕ = elements_bytes layout schema s vs in
        let inner : IsRoomy depth bytes = roomy_inside depth (word (count vs)) bytes (omega arith) room in
        array_part (value_at depth layout schema) s (count vs) bytes rest (plain_values vs) (omega (arith, count_small layout schema s vs h, inner.small)) (elements_again vs s depth rest h ids inner)
    value_again (value.Array vs) (Builtin b) (suc depth) rest h ids room = absurd h
    value_again (value.Array vs) (Using name) (suc depth) rest h ids room = absurd h
    value_again (value.Array vs) (Actor p nullable) (suc depth) rest h ids room = absurd h
    value_again (value.Array vs) (Named t) (suc depth) rest h ids room = absurd h
    value_again (value.Array vs) (Maybe' at s) (suc depth) rest h ids room = absurd h
    value_again (value.Array vs) (Unique' at s) (suc depth) rest h ids room = absurd h
    value_again (value.Array vs) (Endpoint p managed) (suc depth) rest h ids room = absurd h
    value_again (boxed.Maybe' held) (Maybe' at s) (suc depth) rest h ids room = held_again held s depth rest h ids room
    value_again (boxed.Maybe' held) (Unique' at s) (suc depth) rest h ids room = held_again held s depth rest h ids room
    value_again (boxed.Maybe' held) (Builtin b) (suc depth) rest h ids room = absurd h
    value_again (boxed.Maybe' held) (Using name) (suc depth) rest h ids room = absurd h
    value_again (boxed.Maybe' held) (Actor p nullable) (suc depth) rest h ids room = absurd h
    value_again (boxed.Maybe' held) (Named t) (suc depth) rest h ids room = absurd h
    value_again (boxed.Maybe' held) (Array' at s) (suc depth) rest h ids room = absurd h
    value_again (boxed.Maybe' held) (Endpoint p managed) (suc depth) rest h ids room = absurd h
    value_again (value.Actor id) shape (suc depth) rest h ids room = id_again shape depth id rest h ids.0

    held_again : (held : Held-Value-Maybe-0) (shape : Shape) (depth : ℕ) (rest : List ℕ) → HeldHasType schema shape held → AllByRecursion IsCarriedId (held_actor_ids held) → IsRoomy (suc depth) (held_bytes layout schema (Some shape) held)
        → ReadAgain (maybe_at (value_at depth layout schema) layout shape (held_bytes layout schema (Some shape) held ++ rest)) (boxed.Maybe' (plain_held held)) rest
    held_again None' shape depth rest h ids room = none_part (value_at depth layout schema) layout shape rest
    held_again (Some' _ v) shape depth rest h ids room =
        let bytes : List ℕ = value_bytes layout schema shape v in
        some_held (value_at depth layout schema) layout shape bytes rest (plain v) (value_again v shape depth rest h ids (roomy_inside depth (part layout (1 ∷ [])) bytes (omega arith) room))

    elements_again : (vs : Values) (shape : Shape) (depth : ℕ) (rest : List ℕ) → AllHaveType schema shape vs → AllByRecursion IsCarriedId (all_actor_ids vs) → IsRoomy depth (elements_bytes layout schema shape vs)
        → ReadAgain (elements_at (value_at depth layout schema) shape (count vs) (elements_bytes layout schema shape vs ++ rest)) (plain_values vs) rest
    elements_again values.Nothing shape depth rest h ids room = refl
    elements_again (First' _ v _ vs) shape depth rest h ids room =
        let inside : Inside = value_at depth layout schema in
        let front : List ℕ = value_bytes layout schema shape v in
        let others : List ℕ = elements_bytes layout schema shape vs in
        ap (elements_at inside shape (suc (count vs))) (append_assoc front others rest)
        ∙ ap (λ (r : Result (Value × List ℕ) Fault). r >>= λ first. elements_at inside shape (count vs) first.1 >>= λ more. Ok (First' one_box first.0 one_box more.0, more.1)) (value_again v shape depth (others ++ rest) h.0 (all_left IsCarriedId (actor_ids v) (all_actor_ids vs) ids) (roomy_left depth front others room))
        ∙ ap (λ (r : Result (Values × List ℕ) Fault). r >>= λ more. Ok (First' one_box (plain v) one_box more.0, more.1)) (elements_again vs shape depth rest h.1 (all_right IsCarriedId (actor_ids v) (all_actor_ids vs) ids) (roomy_right depth front others room))

    pub values_again : (vs : Values) (fields : List ParamRow) (depth : ℕ) (rest : List ℕ) → HaveTypes schema fields vs → AllByRecursion IsCarriedId (all_actor_ids vs) → IsRoomy depth (values_bytes layout schema fields vs)
        → ReadAgain (values_at (value_at depth layout schema) fields (values_bytes layout schema fields vs ++ rest)) (plain_values vs) rest
    values_again values.Nothing [] depth rest h ids room = refl
    values_again values.Nothing (field ∷ fields) depth rest h ids room = absurd h
    values_again (First' _ v _ vs) [] depth rest h ids room = absurd h
    values_again (First' _ v _ vs) (field ∷ fields) depth rest h ids room =
        let inside : Inside = value_at depth layout schema in
        let front : List ℕ = value_bytes layout schema field.shape v in
        let others : List ℕ = values_bytes layout schema fields vs in
        ap (values_at inside (field ∷ fields)) (append_assoc front others rest)
        ∙ ap (λ (r : Result (Value × List ℕ) Fault). r >>= λ first. values_at inside fields first.1 >>= λ more. Ok (First' one_box first.0 one_box more.0, more.1)) (value_again v field.shape depth (others ++ rest) h.0 (all_left IsCarriedId (actor_ids v) (all_actor_ids vs) ids) (roomy_left depth front others room))
        ∙ ap (λ (r : Result (Values × List ℕ) Fault). r >>= λ more. Ok (First' one_box (plain v) one_box more.0, more.1)) (values_again vs fields depth rest h.1 (all_right IsCarriedId (actor_ids v) (all_actor_ids vs) ids) (roomy_right depth front others room))
