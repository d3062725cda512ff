-- The test of types decides them.
use Rattle.std.proofs.Common.{◌≡◌, ℕ, ◌<◌, ◌^◌, ℤ, pos, ◌≤ℤ◌, T, Bool, true, false, not, ◌&&◌, int_le, nat_lt, IsTrue, Decides, List, [], ◌∷◌, Option, Some, None, refl, sym, subst, option_and_then}
use Rattle.std.specs.Int.Signed.{le_z_yes}
use Rattle.std.specs.Option.{option_map_or, IsSomeAnd}
use Rattle.std.specs.Ordering.{int_eq}
use Rattle.std.specs.Str.{IsUtf8, is_utf8}
use Rattle.std.proofs.lemmas.Bool.{false≢true}
use Rattle.std.proofs.lemmas.Bool.Decides.{Decides-and, Decides-not, Decides-int_eq, Decides-ltb}
use Rattle.std.proofs.lemmas.Str.{IsUtf8-from_is_utf8, is_utf8-from_IsUtf8}
use Rattle.ipdl_base.specs.declared.builtin.Builtin.TheVariants as builtin
use Rattle.ipdl_base.specs.declared.schema.ParamRow.{ParamRow}
use Rattle.ipdl_base.specs.declared.schema.Schema.{Schema}
use Rattle.ipdl_base.specs.declared.schema.Shape.{Shape, Builtin, Actor}
use Rattle.ipdl_base.specs.declared.value.Value.{Value, Union', Held-Value-Maybe-0, None', Some'}
use Rattle.ipdl_base.specs.declared.value.Value as boxed
use Rattle.ipdl_base.specs.declared.value.Value.TheVariants as value
use Rattle.ipdl_base.specs.declared.value.Values.{Values, First'}
use Rattle.ipdl_base.specs.declared.value.Values.TheVariants as values
use Rattle.value_types.specs.HasType.{IsInRange, IsWithinBits, IsActorOf, HasType, HeldHasType, AllHaveType, HaveTypes}
use Rattle.value_types.specs.Shapes.{range_of, float_bits, builtin_of, is_bytes, element_of, held_by, fields_of, component_of}
use Rattle.channel_model.specs.Laws.{DecidesTypes}
use Rattle.channel_model.specs.Typed.{is_bool, is_text, is_within, is_in_range, is_within_bits, is_actor_of, has_type, held_has_type, all_have_type, have_types}

-- a test of an optional value decides a fact of it
some_decides : {A : Type 0} (o : Option A) (f : A → Bool) (P : A → Type 0) → ((x : A) → Decides (f x) (P x)) → Decides (option_map_or f o false) (IsSomeAnd o P)
some_decides None f P h = (λ e. cc, λ none. absurd none)
some_decides (Some x) f P h = h x

holds_as_test : (b : Bool) → T b → b ≡ true
holds_as_test true t = refl
holds_as_test false t = absurd t

int_le_decides : (a b : ℤ) → Decides (int_le a b) (a ≤ℤ b)
int_le_decides a b = (λ e. le_z_yes (subst T (sym e) tt), λ h. holds_as_test (int_le a b) h.le)

within_decides : (n : ℤ) (range : ℤ × ℤ) → Decides (is_within n range) ((range.0 ≤ℤ n) × (n ≤ℤ range.1))
within_decides n range = Decides-and (int_le range.0 n) (int_le n range.1) (int_le_decides range.0 n) (int_le_decides n range.1)

in_range_decides : (shape : Shape) (n : ℤ) → Decides (is_in_range shape n) (IsInRange shape n)
in_range_decides shape n = some_decides (option_and_then range_of (builtin_of shape)) (is_within n) (λ range. (range.0 ≤ℤ n) × (n ≤ℤ range.1)) (within_decides n)

within_bits_decides : (shape : Shape) (n : ℕ) → Decides (is_within_bits shape n) (IsWithinBits shape n)
within_bits_decides shape n = some_decides (option_and_then float_bits (builtin_of shape)) (λ bits. nat_lt n (2 ^ bits)) (λ bits. n < 2 ^ bits) (λ bits. Decides-ltb n (2 ^ bits))

bool_decides : (shape : Shape) → Decides (is_bool shape) (builtin_of shape ≡ Some builtin.Bool)
bool_decides (Builtin builtin.Bool) = (λ e. refl, λ e. refl)
bool_decides (Builtin _) = (λ e. cc, λ e. cc)
bool_decides _ = (λ e. cc, λ e. cc)

string_decides : (shape : Shape) → Decides (is_text shape) (builtin_of shape ≡ Some builtin.NsString)
string_decides (Builtin builtin.NsString) = (λ e. refl, λ e. refl)
string_decides (Builtin _) = (λ e. cc, λ e. cc)
string_decides _ = (λ e. cc, λ e. cc)

utf8_decides : (text : List ℕ) → Decides (is_utf8 text) (IsUtf8 text)
utf8_decides text = (IsUtf8-from_is_utf8 text, is_utf8-from_IsUtf8 text)

text_decides : (shape : Shape) (text : List ℕ) → Decides (is_text shape && is_utf8 text) ((builtin_of shape ≡ Some builtin.NsString) × IsUtf8 text)
text_decides shape text = Decides-and (is_text shape) (is_utf8 text) (string_decides shape) (utf8_decides text)

bytes_decides : (shape : Shape) → Decides (is_bytes shape) (IsTrue (is_bytes shape))
bytes_decides shape = (λ e. e, λ e. e)

actor_decides : (shape : Shape) (id : ℤ) → Decides (is_actor_of shape id) (IsActorOf shape id)
actor_decides (Actor p true) id = (λ e zero. refl, λ h. refl)
actor_decides (Actor p false) id =
    let d : Decides (not (int_eq id (pos 0))) (¬ (id ≡ pos 0)) = Decides-not (int_eq id (pos 0)) (Decides-int_eq id (pos 0)) in
    (λ e zero. absurd (d.0 e zero), λ h. d.1 (λ zero. false≢true (h zero)))
actor_decides _ id = (λ e. cc, λ none. absurd none)

mutual
  value_decides : (schema : Schema) (shape : Shape) (v : Value) → Decides (has_type schema shape v) (HasType schema shape v)
  value_decides schema shape (value.Bool b) = bool_decides shape
  value_decides schema shape (value.Int n) = in_range_decides shape n
  value_decides schema shape (value.Text text) = text_decides shape text
  value_decides schema shape (value.Bytes bytes) = bytes_decides shape
  value_decides schema shape (value.Bits bits) = within_bits_decides shape bits
  value_decides schema shape (value.Struct vs) = some_decides (fields_of schema shape) (λ fields. have_types schema fields vs) (λ fields. HaveTypes schema fields vs) (λ fields. values_decide schema fields vs)
  value_decides schema shape (Union' index _ v) = some_decides (component_of schema shape index) (λ component. has_type schema component v) (λ component. HasType schema component v) (λ component. value_decides schema component v)
  value_decides schema shape (value.Array vs) = some_decides (element_of shape) (λ element. all_have_type schema element vs) (λ element. AllHaveType schema element vs) (λ element. all_decide schema element vs)
  value_decides schema shape (boxed.Maybe' held) = some_decides (held_by shape) (λ inner. held_has_type schema inner held) (λ inner. HeldHasType schema inner held) (λ inner. held_decides schema inner held)
  value_decides schema shape (value.Actor id) = actor_decides shape id

  held_decides : (schema : Schema) (shape : Shape) (held : Held-Value-Maybe-0) → Decides (held_has_type schema shape held) (HeldHasType schema shape held)
  held_decides schema shape None' = (λ e. tt, λ h. refl)
  held_decides schema shape (Some' _ v) = value_decides schema shape v

  all_decide : (schema : Schema) (shape : Shape) (vs : Values) → Decides (all_have_type schema shape vs) (AllHaveType schema shape vs)
  all_decide schema shape values.Nothing = (λ e. tt, λ h. refl)
  all_decide schema shape (First' _ v _ vs) = Decides-and (has_type schema shape v) (all_have_type schema shape vs) (value_decides schema shape v) (all_decide schema shape vs)

  values_decide : (schema : Schema) (fields : List ParamRow) (vs : Values) → Decides (have_types schema fields vs) (HaveTypes schema fields vs)
  values_decide schema [] values.Nothing = (λ e. tt, λ h. refl)
  values_decide schema (field ∷ fields) values.Nothing = (λ e. cc, λ none. absurd none)
  values_decide schema [] (First' _ v _ vs) = (λ e. cc, λ none. absurd none)
  values_decide schema (field ∷ fields) (First' _ v _ vs) = Decides-and (has_type schema field.shape v) (have_types schema fields vs) (value_decides schema field.shape v) (values_decide schema fields vs)

pub decides_types : DecidesTypes
decides_types = record {
  value = λ schema shape v. value_decides schema shape v;
  values = λ schema fields vs. values_decide schema fields vs;
}
