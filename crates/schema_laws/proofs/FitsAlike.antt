-- Whether written values fit, and the terms of these values, do not depend on where the boxes of types are.
use Rattle.std.proofs.Common.{◌≡◌, ◌∙◌, ℕ, zero, suc, ◌*◌, List, [], ◌∷◌, length, map, pos, true, not, Option, None, Some, ◌⊎◌, refl, unwrap_or}
use Rattle.std.specs.Prelude.{◌≤ℤ◌, IsTrue, IsSome, IsSomeAnd, is_some, option_map, option_and_then}
use Rattle.std.specs.Option.{option_map_or}
use Rattle.std.specs.Str.{IsUtf8}
use Rattle.std.proofs.lemmas.Option.{slice_get-map}
use Rattle.ipdl_base.specs.declared.builtin.Builtin.TheVariants as builtin
use Rattle.ipdl_base.specs.declared.schema.ParamRow.{ParamRow}
use Rattle.ipdl_base.specs.declared.schema.Schema.{Schema}
use Rattle.ipdl_base.specs.declared.schema.Shape.{Shape, Builtin, Using, Actor, Named, Array', Maybe', Unique', Endpoint}
use Rattle.ipdl_base.specs.Plain.{plain_shape, one_box}
use Rattle.value_types.specs.Shapes.{range_of, float_bits, element_of, held_by, fields_of, component_of}
use Rattle.value_types.proofs.PlainTypes.{builtin_of-plain, is_bytes-plain, element_of-plain, held_by-plain, actor_of-plain}
use Rattle.program_schema.specs.Laws.{plain_param_row, plain_schema}
use Rattle.schema_laws.proofs.Rows.{option_alike, listed_alike, still_there, fields_alike, component_alike}
use Rattle.schema_laws.proofs.Typed.{some_alike}
use Rattle.script_reader.specs.declared.written.Atom.{Atom}
use Rattle.script_reader.specs.declared.written.Atom.TheVariants as atom
use Rattle.script_reader.specs.declared.written.Who.{Who}
use Rattle.script_reader.specs.declared.written.Who.TheVariants as whos
use Rattle.script_reader.specs.declared.written.WrittenValue.{WrittenValue, Union', Held'}
use Rattle.script_reader.specs.declared.written.WrittenValue.TheVariants as written
use Rattle.script_reader.specs.declared.written.WrittenValues.{WrittenValues, First'}
use Rattle.script_reader.specs.declared.written.WrittenValues.TheVariants as written_values
use Rattle.handler_script.specs.declared.term.Term as boxed
use Rattle.handler_script.specs.declared.term.Term.TheVariants as term
use Rattle.handler_script.specs.declared.term.Terms as boxed_list
use Rattle.handler_script.specs.Broken.{is_absent, is_no_actor, AreUnfit}
use Rattle.handler_script.specs.Mentions.{any_mentions}
use Rattle.handler_script.specs.Terms.{param_at, is_actor, StandsFor, WhoFits, AtomFits, Fits, AllFit, EachFits, bytes_term, atom_term, term_of, elements_of, terms_of}

-- Types and parameters

-- a type whose boxes are at one place does not change any more
twice : (shape : Shape) → plain_shape (plain_shape shape) ≡ plain_shape shape
twice (Builtin b) = refl
twice (Using name) = refl
twice (Actor p nullable) = refl
twice (Named t) = refl
twice (Array' _ element) = λ i. Array' one_box (twice element i)
twice (Maybe' _ held) = λ i. Maybe' one_box (twice held i)
twice (Unique' _ held) = λ i. Unique' one_box (twice held i)
twice (Endpoint p managed) = refl

stands_alike : (one other : Shape) → StandsFor (plain_shape one) (plain_shape other) ≡ StandsFor one other
stands_alike (Actor p nullable) (Actor q true) = refl
stands_alike one other = λ i. twice one i ≡ twice other i

actor_alike : (shape : Shape) → is_actor (plain_shape shape) ≡ is_actor shape
actor_alike (Actor p nullable) = refl
actor_alike shape = refl

still_some : {X : Type 0} (look : X → X) (o : Option X) → IsSome (option_map look o) ≡ IsSome o
still_some look None = refl
still_some look (Some x) = refl

else_alike : (o : Option Shape) (shape : Shape) → unwrap_or (option_map plain_shape o) (plain_shape shape) ≡ plain_shape (unwrap_or o shape)
else_alike None shape = refl
else_alike (Some inner) shape = refl

module _ (given : List ParamRow) where
  param_alike : (n : ℕ) → param_at (map plain_param_row given) n ≡ option_map plain_param_row (param_at given n)
  param_alike zero = refl
  param_alike (suc n) = slice_get-map plain_param_row given n

  absent_alike : (w : Who) → is_absent (map plain_param_row given) w ≡ is_absent given w
  absent_alike (whos.Param n) = (λ i. not (is_some (param_alike n i))) ∙ (λ i. not (still_there plain_param_row (param_at given n) i))
  absent_alike w = refl

  pub no_actor_alike : (w : Who) → is_no_actor (map plain_param_row given) w ≡ is_no_actor given w
  no_actor_alike (whos.Param n) =
      (λ i. option_map_or (λ param. not (is_actor param.shape)) (param_alike n i) true)
      ∙ option_alike plain_param_row (λ param. not (is_actor param.shape)) (λ param. not (is_actor param.shape)) (λ param. λ i. not (actor_alike param.shape i)) true (param_at given n)
  no_actor_alike w = refl

  who_alike : (shape : Shape) (w : Who) → WhoFits (map plain_param_row given) (plain_shape shape) w ≡ WhoFits given shape w
  who_alike shape (whos.Param n) =
      (λ i. IsSomeAnd (param_alike n i) (λ param. StandsFor param.shape (plain_shape shape)))
      ∙ some_alike plain_param_row (λ param. StandsFor param.shape (plain_shape shape)) (λ param. StandsFor param.shape shape) (λ param. stands_alike param.shape shape) (param_at given n)
  who_alike shape w = λ i. IsTrue (actor_alike shape i)

  atom_alike : (shape : Shape) (a : Atom) → AtomFits (map plain_param_row given) (plain_shape shape) a ≡ AtomFits given shape a
  atom_alike shape (atom.Bool b) = λ i. builtin_of-plain shape i ≡ Some builtin.Bool
  atom_alike shape (atom.Number n) = λ i. IsSomeAnd (option_and_then range_of (builtin_of-plain shape i)) (λ range. (range.0 ≤ℤ n) × (n ≤ℤ range.1))
  atom_alike shape (atom.Text text) = λ i. (builtin_of-plain shape i ≡ Some builtin.NsString) × IsUtf8 text
  atom_alike shape (atom.Bytes bytes) = λ i. IsTrue (is_bytes-plain shape i) ⊎ IsSomeAnd (option_and_then float_bits (builtin_of-plain shape i)) (λ bits. bits ≡ 8 * length bytes)
  atom_alike shape atom.Nothing = (λ i. IsSome (held_by-plain shape i)) ∙ still_some plain_shape (held_by shape)
  atom_alike shape atom.Null = actor_of-plain shape (pos 0)
  atom_alike shape (atom.Who w) = who_alike shape w

  -- Values

  module _ (s : Schema) where
    mutual
      fits_alike : (shape : Shape) (v : WrittenValue) → Fits (plain_schema s) (map plain_param_row given) (plain_shape shape) v ≡ Fits s given shape v
      fits_alike shape (written.Atom a) = atom_alike shape a
      fits_alike shape (written.Struct vs) =
          (λ i. IsSomeAnd (fields_alike s shape i) (λ fields. EachFits (plain_schema s) (map plain_param_row given) fields vs))
          ∙ some_alike (map plain_param_row) (λ fields. EachFits (plain_schema s) (map plain_param_row given) fields vs) (λ fields. EachFits s given fields vs) (λ fields. each_alike fields vs) (fields_of s shape)
      fits_alike shape (written.Array vs) =
          (λ i. IsSomeAnd (element_of-plain shape i) (λ element. AllFit (plain_schema s) (map plain_param_row given) element vs))
          ∙ some_alike plain_shape (λ element. AllFit (plain_schema s) (map plain_param_row given) element vs) (λ element. AllFit s given element vs) (λ element. all_alike element vs) (element_of shape)
      fits_alike shape (Union' index _ v) =
          (λ i. IsSomeAnd (component_alike s shape index i) (λ component. Fits (plain_schema s) (map plain_param_row given) component v))
          ∙ some_alike plain_shape (λ component. Fits (plain_schema s) (map plain_param_row given) component v) (λ component. Fits s given component v) (λ component. fits_alike component v) (component_of s shape index)
      fits_alike shape (Held' _ v) =
          (λ i. IsSomeAnd (held_by-plain shape i) (λ inner. Fits (plain_schema s) (map plain_param_row given) inner v))
          ∙ some_alike plain_shape (λ inner. Fits (plain_schema s) (map plain_param_row given) inner v) (λ inner. Fits s given inner v) (λ inner. fits_alike inner v) (held_by shape)

      all_alike : (shape : Shape) (vs : WrittenValues) → AllFit (plain_schema s) (map plain_param_row given) (plain_shape shape) vs ≡ AllFit s given shape vs
      all_alike shape written_values.Nothing = refl
      all_alike shape (First' _ v _ vs) = λ i. fits_alike shape v i × all_alike shape vs i

      each_alike : (fields : List ParamRow) (vs : WrittenValues) → EachFits (plain_schema s) (map plain_param_row given) (map plain_param_row fields) vs ≡ EachFits s given fields vs
      each_alike [] written_values.Nothing = refl
      each_alike (field ∷ fields) written_values.Nothing = refl
      each_alike [] (First' _ v _ vs) = refl
      each_alike (field ∷ fields) (First' _ v _ vs) = λ i. fits_alike field.shape v i × each_alike fields vs i

    pub unfit_alike : (types : Option (List ParamRow)) (vs : WrittenValues) → AreUnfit (plain_schema s) (map plain_param_row given) (option_map (map plain_param_row) types) vs ≡ AreUnfit s given types vs
    unfit_alike None vs = λ i. IsTrue (any_mentions (λ w. absent_alike w i) vs)
    unfit_alike (Some types) vs = λ i. ¬ (each_alike types vs i)

-- Terms

atom_term_alike : (shape : Shape) (a : Atom) → atom_term (plain_shape shape) a ≡ atom_term shape a
atom_term_alike shape (atom.Bytes bytes) = λ i. bytes_term (builtin_of-plain shape i) bytes
atom_term_alike shape a = refl

module _ (s : Schema) where
  mutual
    term_alike : (shape : Shape) (v : WrittenValue) → term_of (plain_schema s) (plain_shape shape) v ≡ term_of s shape v
    term_alike shape (written.Atom a) = atom_term_alike shape a
    term_alike shape (written.Struct vs) =
        (λ i. term.Struct (terms_of (plain_schema s) (unwrap_or (fields_alike s shape i) []) vs))
        ∙ (λ i. term.Struct (terms_of (plain_schema s) (listed_alike plain_param_row (fields_of s shape) i) vs))
        ∙ (λ i. term.Struct (terms_alike (unwrap_or (fields_of s shape) []) vs i))
    term_alike shape (written.Array vs) =
        (λ i. term.Array (elements_of (plain_schema s) (unwrap_or (element_of-plain shape i) (plain_shape shape)) vs))
        ∙ (λ i. term.Array (elements_of (plain_schema s) (else_alike (element_of shape) shape i) vs))
        ∙ (λ i. term.Array (elements_alike (unwrap_or (element_of shape) shape) vs i))
    term_alike shape (Union' index _ v) =
        (λ i. boxed.Union' index one_box (term_of (plain_schema s) (unwrap_or (component_alike s shape index i) (plain_shape shape)) v))
        ∙ (λ i. boxed.Union' index one_box (term_of (plain_schema s) (else_alike (component_of s shape index) shape i) v))
        ∙ (λ i. boxed.Union' index one_box (term_alike (unwrap_or (component_of s shape index) shape) v i))
    term_alike shape (Held' _ v) =
        (λ i. boxed.Maybe' (boxed.Some' one_box (term_of (plain_schema s) (unwrap_or (held_by-plain shape i) (plain_shape shape)) v)))
        ∙ (λ i. boxed.Maybe' (boxed.Some' one_box (term_of (plain_schema s) (else_alike (held_by shape) shape i) v)))
        ∙ (λ i. boxed.Maybe' (boxed.Some' one_box (term_alike (unwrap_or (held_by shape) shape) v i)))

    elements_alike : (shape : Shape) (vs : WrittenValues) → elements_of (plain_schema s) (plain_shape shape) vs ≡ elements_of s shape vs
    elements_alike shape written_values.Nothing = refl
    elements_alike shape (First' _ v _ vs) = λ i. boxed_list.First' one_box (term_alike shape v i) one_box (elements_alike shape vs i)

    pub terms_alike : (fields : List ParamRow) (vs : WrittenValues) → terms_of (plain_schema s) (map plain_param_row fields) vs ≡ terms_of s fields vs
    terms_alike fields written_values.Nothing = refl
    terms_alike [] (First' _ v _ vs) = refl
    terms_alike (field ∷ fields) (First' _ v _ vs) = λ i. boxed_list.First' one_box (term_alike field.shape v i) one_box (terms_alike fields vs i)
