-- Whether written values fit types is decided.
use Rattle.std.proofs.Common.{◌≡◌, ◌*◌, ℕ, true, List, [], ◌∷◌, length, Some, ℤ, pos, ◌≤ℤ◌, inl, inr, refl}
use Rattle.std.specs.Prelude.{is_some, option_and_then}
use Rattle.std.specs.Str.{IsUtf8, is_utf8}
use Rattle.std.proofs.lemmas.Bool.{cases_eq}
use Rattle.std.proofs.lemmas.Str.{IsUtf8-from_is_utf8, is_utf8-from_IsUtf8}
use Rattle.ipdl_base.specs.declared.builtin.Builtin.TheVariants as builtin
use Rattle.ipdl_base.specs.declared.schema.ParamRow.{ParamRow}
use Rattle.ipdl_base.specs.declared.schema.Schema.{Schema}
use Rattle.ipdl_base.specs.declared.schema.Shape.{Shape, Builtin, Actor}
use Rattle.script_reader.specs.declared.written.Atom.{Atom}
use Rattle.script_reader.specs.declared.written.Atom.TheVariants as atom
use Rattle.script_reader.specs.declared.written.Who.{Who}
use Rattle.script_reader.specs.declared.written.Who.TheVariants as whos
use Rattle.script_reader.specs.declared.written.WrittenValue.{WrittenValue, Union', Held'}
use Rattle.script_reader.specs.declared.written.WrittenValue.TheVariants as written
use Rattle.script_reader.specs.declared.written.WrittenValues.{WrittenValues, First'}
use Rattle.script_reader.specs.declared.written.WrittenValues.TheVariants as values
use Rattle.value_types.specs.HasType.{IsInRange, IsActorOf}
use Rattle.value_types.specs.Shapes.{range_of, float_bits, builtin_of, is_bytes, element_of, held_by, fields_of, component_of}
use Rattle.handler_script.specs.Terms.{Fits, AllFit, EachFits, AtomFits, AreBits, StandsFor, WhoFits, param_at, is_actor}
use Rattle.report_existence.proofs.Finite.{either_or_not, both_or_not}
use Rattle.script_existence.proofs.Decided.{IsDecided, decided_as, is_true, some_decided, order_decided, same_shape}

stands_decided : (one other : Shape) → IsDecided (StandsFor one other)
stands_decided (Actor p nullable) (Actor q true) = cases_eq p q
stands_decided one other = same_shape one other

who_decided : (given : List ParamRow) (shape : Shape) (w : Who) → IsDecided (WhoFits given shape w)
who_decided given shape (whos.Param n) = some_decided (λ (param : ParamRow). StandsFor param.shape shape) (λ param. stands_decided param.shape shape) (param_at given n)
who_decided given shape w = is_true (is_actor shape)

bool_decided : (shape : Shape) → IsDecided (builtin_of shape ≡ Some builtin.Bool)
bool_decided (Builtin builtin.Bool) = inl refl
bool_decided shape = inr (λ e. let no : ⊥ = cc in no)

string_decided : (shape : Shape) → IsDecided (builtin_of shape ≡ Some builtin.NsString)
string_decided (Builtin builtin.NsString) = inl refl
string_decided shape = inr (λ e. let no : ⊥ = cc in no)

utf8_decided : (text : List ℕ) → IsDecided (IsUtf8 text)
utf8_decided text = decided_as (IsUtf8-from_is_utf8 text) (is_utf8-from_IsUtf8 text) (is_true (is_utf8 text))

null_decided : (shape : Shape) → IsDecided (IsActorOf shape (pos 0))
null_decided (Actor p nullable) = decided_as (λ t e. t) (λ f. f refl) (is_true nullable)
null_decided shape = inr (λ no. no)

number_decided : (shape : Shape) (n : ℤ) → IsDecided (IsInRange shape n)
number_decided shape n =
    some_decided (λ (range : ℤ × ℤ). (range.0 ≤ℤ n) × (n ≤ℤ range.1)) (λ range. both_or_not (order_decided range.0 n) (order_decided n range.1)) (option_and_then range_of (builtin_of shape))

bits_decided : (shape : Shape) (bytes : List ℕ) → IsDecided (AreBits shape bytes)
bits_decided shape bytes = some_decided (λ bits. bits ≡ 8 * length bytes) (λ bits. cases_eq bits (8 * length bytes)) (option_and_then float_bits (builtin_of shape))

atom_decided : (given : List ParamRow) (shape : Shape) (a : Atom) → IsDecided (AtomFits given shape a)
atom_decided given shape (atom.Bool b) = bool_decided shape
atom_decided given shape (atom.Number n) = number_decided shape n
atom_decided given shape (atom.Text text) = both_or_not (string_decided shape) (utf8_decided text)
atom_decided given shape (atom.Bytes bytes) = either_or_not (is_true (is_bytes shape)) (bits_decided shape bytes)
atom_decided given shape atom.Nothing = is_true (is_some (held_by shape))
atom_decided given shape atom.Null = null_decided shape
atom_decided given shape (atom.Who w) = who_decided given shape w

mutual
  value_decided : (schema : Schema) (given : List ParamRow) (shape : Shape) (v : WrittenValue) → IsDecided (Fits schema given shape v)
  value_decided schema given shape (written.Atom a) = atom_decided given shape a
  value_decided schema given shape (written.Struct vs) = some_decided (λ fields. EachFits schema given fields vs) (λ fields. fits_decided schema given fields vs) (fields_of schema shape)
  value_decided schema given shape (written.Array vs) = some_decided (λ element. AllFit schema given element vs) (λ element. elements_decided schema given element vs) (element_of shape)
  value_decided schema given shape (Union' index _ v) = some_decided (λ component. Fits schema given component v) (λ component. value_decided schema given component v) (component_of schema shape index)
  value_decided schema given shape (Held' _ v) = some_decided (λ inner. Fits schema given inner v) (λ inner. value_decided schema given inner v) (held_by shape)

  elements_decided : (schema : Schema) (given : List ParamRow) (shape : Shape) (vs : WrittenValues) → IsDecided (AllFit schema given shape vs)
  elements_decided schema given shape values.Nothing = inl tt
  elements_decided schema given shape (First' _ v _ vs) = both_or_not (value_decided schema given shape v) (elements_decided schema given shape vs)

  -- values fit their types, or do not
  pub fits_decided : (schema : Schema) (given : List ParamRow) (fields : List ParamRow) (vs : WrittenValues) → IsDecided (EachFits schema given fields vs)
  fits_decided schema given [] values.Nothing = inl tt
  fits_decided schema given (field ∷ fields) values.Nothing = inr (λ h. h)
  fits_decided schema given [] (First' _ v _ vs) = inr (λ h. h)
  fits_decided schema given (field ∷ fields) (First' _ v _ vs) = both_or_not (value_decided schema given field.shape v) (fits_decided schema given fields vs)
