-- The form of the values of a type, and the part of a value that a text gives whose length is not fixed.
use Rattle.std.proofs.Common.{◌≡◌, ℕ, ◌-◌, ◌<◌, ◌^◌, nat_abs, ℤ, pos, negsuc, ◌≤ℤ◌, List, Option, Some, None, IsSomeAnd, IsTrue, refl, sym, ap, subst, ◌∙◌, arith}
use Rattle.std.specs.Prelude.{slice_get, option_and_then}
use Rattle.std.proofs.lemmas.Int.{ints}
use Rattle.ipdl_base.specs.declared.builtin.Builtin.{Builtin as BuiltinType}
use Rattle.ipdl_base.specs.declared.builtin.Builtin.TheVariants as builtin
use Rattle.ipdl_base.specs.declared.schema.ParamRow.{ParamRow}
use Rattle.ipdl_base.specs.declared.schema.Schema.{Schema}
use Rattle.ipdl_base.specs.declared.schema.Shape.{Shape, Builtin, Using, Actor, Named, Array', Maybe', Unique', Endpoint}
use Rattle.ipdl_base.specs.declared.schema.TypeRow.{TypeRow}
use Rattle.ipdl_base.specs.declared.schema.TypeRow.TheVariants.{Struct, Union}
use Rattle.ipdl_base.specs.declared.value.Value.{Value, Union', Held-Value-Maybe-0, None', Some'}
use Rattle.ipdl_base.specs.declared.value.Value as boxed
use Rattle.ipdl_base.specs.declared.value.Value.TheVariants as value
use Rattle.value_types.specs.HasType.{HasType, IsActorOf, IsInRange, IsWithinBits}
use Rattle.value_types.specs.Shapes.{builtin_of, component_in, component_of, element_of, fields_in, fields_of, float_bits, held_by, is_byte_builtin, is_bytes, range_of}
use Rattle.value_types.specs.ValueText.{digit_count_of}

-- the number of a value's form
abbrev pub form : Value → ℕ
form (value.Bool b) = 0
form (value.Int n) = 1
form (value.Text text) = 2
form (value.Bytes bytes) = 3
form (value.Bits bits) = 4
form (value.Struct vs) = 5
form (Union' index at v) = 6
form (value.Array vs) = 7
form (boxed.Maybe' held) = 8
form (value.Actor id) = 9

-- the form of a type's values, and 10 if it has none
abbrev builtin_form : BuiltinType → ℕ
builtin_form builtin.Bool = 0
builtin_form builtin.Char = 1
builtin_form builtin.Int8 = 1
builtin_form builtin.Uint8 = 1
builtin_form builtin.Short = 1
builtin_form builtin.Int16 = 1
builtin_form builtin.Uint16 = 1
builtin_form builtin.Int = 1
builtin_form builtin.Int32 = 1
builtin_form builtin.Uint32 = 1
builtin_form builtin.NsResult = 1
builtin_form builtin.Long = 1
builtin_form builtin.Int64 = 1
builtin_form builtin.IntPtr = 1
builtin_form builtin.Uint64 = 1
builtin_form builtin.UintPtr = 1
builtin_form builtin.Float = 4
builtin_form builtin.Double = 4
builtin_form builtin.NsString = 2
builtin_form builtin.NsCString = 3
builtin_form builtin.ByteBuf = 3
builtin_form builtin.Shmem = 10
builtin_form builtin.FileDescriptor = 10

abbrev row_form : Option TypeRow → ℕ
row_form None = 10
row_form (Some (Struct name fields)) = 5
row_form (Some (Union name components)) = 6

abbrev form_of : Schema → Shape → ℕ
form_of s (Builtin b) = builtin_form b
form_of s (Using name) = 3
form_of s (Actor p nullable) = 9
form_of s (Named t) = row_form (slice_get s.types t)
form_of s (Array' at e) = 7
form_of s (Maybe' at e) = 8
form_of s (Unique' at e) = 8
form_of s (Endpoint p managed) = 10

of-builtin : (s : Schema) (shape : Shape) (b : BuiltinType) → builtin_of shape ≡ Some b → form_of s shape ≡ builtin_form b
of-builtin s (Builtin b) x h = ap builtin_form (let is = h in cc)
of-builtin s (Using name) x h = cc
of-builtin s (Actor p nullable) x h = cc
of-builtin s (Named t) x h = cc
of-builtin s (Array' at e) x h = cc
of-builtin s (Maybe' at e) x h = cc
of-builtin s (Unique' at e) x h = cc
of-builtin s (Endpoint p managed) x h = cc

of-ranged : (s : Schema) (shape : Shape) (b : BuiltinType) (n : ℤ) → builtin_of shape ≡ Some b → IsSomeAnd (range_of b) (λ range. (range.0 ≤ℤ n) × (n ≤ℤ range.1)) → builtin_form b ≡ 1
of-ranged s shape builtin.Bool n is h = absurd h
of-ranged s shape builtin.Char n is h = refl
of-ranged s shape builtin.Int8 n is h = refl
of-ranged s shape builtin.Uint8 n is h = refl
of-ranged s shape builtin.Short n is h = refl
of-ranged s shape builtin.Int16 n is h = refl
of-ranged s shape builtin.Uint16 n is h = refl
of-ranged s shape builtin.Int n is h = refl
of-ranged s shape builtin.Int32 n is h = refl
of-ranged s shape builtin.Uint32 n is h = refl
of-ranged s shape builtin.NsResult n is h = refl
of-ranged s shape builtin.Long n is h = refl
of-ranged s shape builtin.Int64 n is h = refl
of-ranged s shape builtin.IntPtr n is h = refl
of-ranged s shape builtin.Uint64 n is h = refl
of-ranged s shape builtin.UintPtr n is h = refl
of-ranged s shape builtin.Float n is h = absurd h
of-ranged s shape builtin.Double n is h = absurd h
of-ranged s shape builtin.NsString n is h = absurd h
of-ranged s shape builtin.NsCString n is h = absurd h
of-ranged s shape builtin.ByteBuf n is h = absurd h
of-ranged s shape builtin.Shmem n is h = absurd h
of-ranged s shape builtin.FileDescriptor n is h = absurd h

within : (n low high : ℤ) → low ≤ℤ n → n ≤ℤ high → nat_abs low < 2 ^ 64 → nat_abs high < 2 ^ 64 → nat_abs n < 2 ^ 64
within (pos m) low high h k l u = grind (arith, ints)
within (negsuc m) low high h k l u = grind (arith, ints)

ranged-small : (b : BuiltinType) (n : ℤ) → IsSomeAnd (range_of b) (λ range. (range.0 ≤ℤ n) × (n ≤ℤ range.1)) → nat_abs n < 2 ^ 64
ranged-small builtin.Bool n h = absurd h
ranged-small builtin.Char n h = within n (negsuc (2 ^ 7 - 1)) (pos (2 ^ 7 - 1)) h.0 h.1 (omega arith) (omega arith)
ranged-small builtin.Int8 n h = within n (negsuc (2 ^ 7 - 1)) (pos (2 ^ 7 - 1)) h.0 h.1 (omega arith) (omega arith)
ranged-small builtin.Uint8 n h = within n (pos 0) (pos (2 ^ 8 - 1)) h.0 h.1 (omega arith) (omega arith)
ranged-small builtin.Short n h = within n (negsuc (2 ^ 15 - 1)) (pos (2 ^ 15 - 1)) h.0 h.1 (omega arith) (omega arith)
ranged-small builtin.Int16 n h = within n (negsuc (2 ^ 15 - 1)) (pos (2 ^ 15 - 1)) h.0 h.1 (omega arith) (omega arith)
ranged-small builtin.Uint16 n h = within n (pos 0) (pos (2 ^ 16 - 1)) h.0 h.1 (omega arith) (omega arith)
ranged-small builtin.Int n h = within n (negsuc (2 ^ 31 - 1)) (pos (2 ^ 31 - 1)) h.0 h.1 (omega arith) (omega arith)
ranged-small builtin.Int32 n h = within n (negsuc (2 ^ 31 - 1)) (pos (2 ^ 31 - 1)) h.0 h.1 (omega arith) (omega arith)
ranged-small builtin.Uint32 n h = within n (pos 0) (pos (2 ^ 32 - 1)) h.0 h.1 (omega arith) (omega arith)
ranged-small builtin.NsResult n h = within n (pos 0) (pos (2 ^ 32 - 1)) h.0 h.1 (omega arith) (omega arith)
ranged-small builtin.Long n h = within n (negsuc (2 ^ 63 - 1)) (pos (2 ^ 63 - 1)) h.0 h.1 (omega arith) (omega arith)
ranged-small builtin.Int64 n h = within n (negsuc (2 ^ 63 - 1)) (pos (2 ^ 63 - 1)) h.0 h.1 (omega arith) (omega arith)
ranged-small builtin.IntPtr n h = within n (negsuc (2 ^ 63 - 1)) (pos (2 ^ 63 - 1)) h.0 h.1 (omega arith) (omega arith)
ranged-small builtin.Uint64 n h = within n (pos 0) (pos (2 ^ 64 - 1)) h.0 h.1 (omega arith) (omega arith)
ranged-small builtin.UintPtr n h = within n (pos 0) (pos (2 ^ 64 - 1)) h.0 h.1 (omega arith) (omega arith)
ranged-small builtin.Float n h = absurd h
ranged-small builtin.Double n h = absurd h
ranged-small builtin.NsString n h = absurd h
ranged-small builtin.NsCString n h = absurd h
ranged-small builtin.ByteBuf n h = absurd h
ranged-small builtin.Shmem n h = absurd h
ranged-small builtin.FileDescriptor n h = absurd h

-- what is true of some builtin is true of the builtin of a type
by-builtin : (P : BuiltinType → Type 0) (Q : Type 0) (found : Option BuiltinType) → ((b : BuiltinType) → found ≡ Some b → P b → Q) → IsSomeAnd found P → Q
by-builtin P Q None f h = absurd h
by-builtin P Q (Some b) f h = f b refl h

both-some : {A B : Type 0} (f : A → Option B) (P : B → Type 0) (found : Option A) → IsSomeAnd (option_and_then f found) P → IsSomeAnd found (λ a. IsSomeAnd (f a) P)
both-some f P None h = h
both-some f P (Some a) h = h

pub range-small : (shape : Shape) (n : ℤ) → IsInRange shape n → nat_abs n < 2 ^ 64
range-small shape n h =
    by-builtin (λ b. IsSomeAnd (range_of b) (λ range. (range.0 ≤ℤ n) × (n ≤ℤ range.1))) (nat_abs n < 2 ^ 64) (builtin_of shape) (λ b is k. ranged-small b n k)
    (both-some range_of (λ range. (range.0 ≤ℤ n) × (n ≤ℤ range.1)) (builtin_of shape) h)

of-range : (s : Schema) (shape : Shape) (n : ℤ) → IsInRange shape n → form_of s shape ≡ 1
of-range s shape n h =
    by-builtin (λ b. IsSomeAnd (range_of b) (λ range. (range.0 ≤ℤ n) × (n ≤ℤ range.1))) (form_of s shape ≡ 1) (builtin_of shape) (λ b is k. of-builtin s shape b is ∙ of-ranged s shape b n is k)
    (both-some range_of (λ range. (range.0 ≤ℤ n) × (n ≤ℤ range.1)) (builtin_of shape) h)

float-form : (b : BuiltinType) (n : ℕ) → IsSomeAnd (float_bits b) (λ bits. n < 2 ^ bits) → builtin_form b ≡ 4
float-form builtin.Bool n h = absurd h
float-form builtin.Char n h = absurd h
float-form builtin.Int8 n h = absurd h
float-form builtin.Uint8 n h = absurd h
float-form builtin.Short n h = absurd h
float-form builtin.Int16 n h = absurd h
float-form builtin.Uint16 n h = absurd h
float-form builtin.Int n h = absurd h
float-form builtin.Int32 n h = absurd h
float-form builtin.Uint32 n h = absurd h
float-form builtin.NsResult n h = absurd h
float-form builtin.Long n h = absurd h
float-form builtin.Int64 n h = absurd h
float-form builtin.IntPtr n h = absurd h
float-form builtin.Uint64 n h = absurd h
float-form builtin.UintPtr n h = absurd h
float-form builtin.Float n h = refl
float-form builtin.Double n h = refl
float-form builtin.NsString n h = absurd h
float-form builtin.NsCString n h = absurd h
float-form builtin.ByteBuf n h = absurd h
float-form builtin.Shmem n h = absurd h
float-form builtin.FileDescriptor n h = absurd h

float-small : (b : BuiltinType) (n : ℕ) → IsSomeAnd (float_bits b) (λ bits. n < 2 ^ bits) → n < 16 ^ digit_count_of (Some b)
float-small builtin.Bool n h = absurd h
float-small builtin.Char n h = absurd h
float-small builtin.Int8 n h = absurd h
float-small builtin.Uint8 n h = absurd h
float-small builtin.Short n h = absurd h
float-small builtin.Int16 n h = absurd h
float-small builtin.Uint16 n h = absurd h
float-small builtin.Int n h = absurd h
float-small builtin.Int32 n h = absurd h
float-small builtin.Uint32 n h = absurd h
float-small builtin.NsResult n h = absurd h
float-small builtin.Long n h = absurd h
float-small builtin.Int64 n h = absurd h
float-small builtin.IntPtr n h = absurd h
float-small builtin.Uint64 n h = absurd h
float-small builtin.UintPtr n h = absurd h
float-small builtin.Float n h = omega (arith, h)
float-small builtin.Double n h = omega (arith, h)
float-small builtin.NsString n h = absurd h
float-small builtin.NsCString n h = absurd h
float-small builtin.ByteBuf n h = absurd h
float-small builtin.Shmem n h = absurd h
float-small builtin.FileDescriptor n h = absurd h

of-bits : (s : Schema) (shape : Shape) (n : ℕ) → IsWithinBits shape n → form_of s shape ≡ 4
of-bits s shape n h =
    by-builtin (λ b. IsSomeAnd (float_bits b) (λ bits. n < 2 ^ bits)) (form_of s shape ≡ 4) (builtin_of shape) (λ b is k. of-builtin s shape b is ∙ float-form b n k)
    (both-some float_bits (λ bits. n < 2 ^ bits) (builtin_of shape) h)

pub bits-small : (shape : Shape) (n : ℕ) → IsWithinBits shape n → n < 16 ^ digit_count_of (builtin_of shape)
bits-small shape n h =
    by-builtin (λ b. IsSomeAnd (float_bits b) (λ bits. n < 2 ^ bits)) (n < 16 ^ digit_count_of (builtin_of shape)) (builtin_of shape)
    (λ b is k. subst (λ (found : Option BuiltinType). n < 16 ^ digit_count_of found) (sym is) (float-small b n k))
    (both-some float_bits (λ bits. n < 2 ^ bits) (builtin_of shape) h)

byte-form : (b : BuiltinType) → IsTrue (is_byte_builtin b) → builtin_form b ≡ 3
byte-form builtin.Bool h = cc
byte-form builtin.Char h = cc
byte-form builtin.Int8 h = cc
byte-form builtin.Uint8 h = cc
byte-form builtin.Short h = cc
byte-form builtin.Int16 h = cc
byte-form builtin.Uint16 h = cc
byte-form builtin.Int h = cc
byte-form builtin.Int32 h = cc
byte-form builtin.Uint32 h = cc
byte-form builtin.NsResult h = cc
byte-form builtin.Long h = cc
byte-form builtin.Int64 h = cc
byte-form builtin.IntPtr h = cc
byte-form builtin.Uint64 h = cc
byte-form builtin.UintPtr h = cc
byte-form builtin.Float h = cc
byte-form builtin.Double h = cc
byte-form builtin.NsString h = cc
byte-form builtin.NsCString h = refl
byte-form builtin.ByteBuf h = refl
byte-form builtin.Shmem h = cc
byte-form builtin.FileDescriptor h = cc

of-bytes : (s : Schema) (shape : Shape) → IsTrue (is_bytes shape) → form_of s shape ≡ 3
of-bytes s (Builtin b) h = byte-form b h
of-bytes s (Using name) h = refl
of-bytes s (Actor p nullable) h = cc
of-bytes s (Named t) h = cc
of-bytes s (Array' at e) h = cc
of-bytes s (Maybe' at e) h = cc
of-bytes s (Unique' at e) h = cc
of-bytes s (Endpoint p managed) h = cc

row-fields : (found : Option TypeRow) (P : List ParamRow → Type 0) → IsSomeAnd (option_and_then fields_in found) P → row_form found ≡ 5
row-fields None P h = absurd h
row-fields (Some (Struct name fields)) P h = refl
row-fields (Some (Union name components)) P h = absurd h

row-components : (found : Option TypeRow) (index : ℕ) (P : Shape → Type 0) → IsSomeAnd (option_and_then (component_in index) found) P → row_form found ≡ 6
row-components None index P h = absurd h
row-components (Some (Struct name fields)) index P h = absurd h
row-components (Some (Union name components)) index P h = refl

of-fields : (s : Schema) (shape : Shape) (P : List ParamRow → Type 0) → IsSomeAnd (fields_of s shape) P → form_of s shape ≡ 5
of-fields s (Builtin b) P h = absurd h
of-fields s (Using name) P h = absurd h
of-fields s (Actor p nullable) P h = absurd h
of-fields s (Named t) P h = row-fields (slice_get s.types t) P h
of-fields s (Array' at e) P h = absurd h
of-fields s (Maybe' at e) P h = absurd h
of-fields s (Unique' at e) P h = absurd h
of-fields s (Endpoint p managed) P h = absurd h

of-components : (s : Schema) (shape : Shape) (index : ℕ) (P : Shape → Type 0) → IsSomeAnd (component_of s shape index) P → form_of s shape ≡ 6
of-components s (Builtin b) index P h = absurd h
of-components s (Using name) index P h = absurd h
of-components s (Actor p nullable) index P h = absurd h
of-components s (Named t) index P h = row-components (slice_get s.types t) index P h
of-components s (Array' at e) index P h = absurd h
of-components s (Maybe' at e) index P h = absurd h
of-components s (Unique' at e) index P h = absurd h
of-components s (Endpoint p managed) index P h = absurd h

of-elements : (s : Schema) (shape : Shape) (P : Shape → Type 0) → IsSomeAnd (element_of shape) P → form_of s shape ≡ 7
of-elements s (Builtin b) P h = absurd h
of-elements s (Using name) P h = absurd h
of-elements s (Actor p nullable) P h = absurd h
of-elements s (Named t) P h = absurd h
of-elements s (Array' at e) P h = refl
of-elements s (Maybe' at e) P h = absurd h
of-elements s (Unique' at e) P h = absurd h
of-elements s (Endpoint p managed) P h = absurd h

of-held : (s : Schema) (shape : Shape) (P : Shape → Type 0) → IsSomeAnd (held_by shape) P → form_of s shape ≡ 8
of-held s (Builtin b) P h = absurd h
of-held s (Using name) P h = absurd h
of-held s (Actor p nullable) P h = absurd h
of-held s (Named t) P h = absurd h
of-held s (Array' at e) P h = absurd h
of-held s (Maybe' at e) P h = refl
of-held s (Unique' at e) P h = refl
of-held s (Endpoint p managed) P h = absurd h

of-actor : (s : Schema) (shape : Shape) (id : ℤ) → IsActorOf shape id → form_of s shape ≡ 9
of-actor s (Builtin b) id h = absurd h
of-actor s (Using name) id h = absurd h
of-actor s (Actor p nullable) id h = refl
of-actor s (Named t) id h = absurd h
of-actor s (Array' at e) id h = absurd h
of-actor s (Maybe' at e) id h = absurd h
of-actor s (Unique' at e) id h = absurd h
of-actor s (Endpoint p managed) id h = absurd h

-- the form of a value is that of its type
form-told : (s : Schema) (shape : Shape) (v : Value) → HasType s shape v → form v ≡ form_of s shape
form-told s shape (value.Bool b) h = sym (of-builtin s shape builtin.Bool h)
form-told s shape (value.Int n) h = sym (of-range s shape n h)
form-told s shape (value.Text text) h = sym (of-builtin s shape builtin.NsString h.0)
form-told s shape (value.Bytes bytes) h = sym (of-bytes s shape h)
form-told s shape (value.Bits bits) h = sym (of-bits s shape bits h)
form-told s shape (value.Struct vs) h = sym (of-fields s shape _ h)
form-told s shape (Union' index at v) h = sym (of-components s shape index _ h)
form-told s shape (value.Array vs) h = sym (of-elements s shape _ h)
form-told s shape (boxed.Maybe' held) h = sym (of-held s shape _ h)
form-told s shape (value.Actor id) h = sym (of-actor s shape id h)

pub same-form : (s : Schema) (shape : Shape) (v w : Value) → HasType s shape v → HasType s shape w → form w ≡ form v
same-form s shape v w h k = form-told s shape w k ∙ sym (form-told s shape v h)
