-- Reading values and payloads does not depend on where the boxes of a schema are.
use Rattle.std.proofs.Common.{◌≡◌, ◌∙◌, ℕ, zero, suc, pos, Bool, true, false, List, [], ◌∷◌, map, Option, Some, None, refl, unwrap_or}
use Rattle.std.specs.Prelude.{slice_get, option_map, Ok}
use Rattle.std.proofs.lemmas.Option.{slice_get-map}
use Rattle.ipdl_base.specs.declared.message.Body.TheVariants as body
use Rattle.ipdl_base.specs.declared.schema.MessageRow.{MessageRow}
use Rattle.ipdl_base.specs.declared.schema.ParamRow.{ParamRow}
use Rattle.ipdl_base.specs.declared.schema.Schema.{Schema}
use Rattle.ipdl_base.specs.declared.schema.Shape.{Shape, Builtin, Using, Actor, Named, Array', Maybe', Unique', Endpoint}
use Rattle.ipdl_base.specs.declared.schema.TypeRow.{TypeRow}
use Rattle.ipdl_base.specs.declared.schema.TypeRow.TheVariants.{Struct, Union}
use Rattle.ipdl_base.specs.declared.value.Value.{Value}
use Rattle.ipdl_base.specs.declared.value.Value as boxed
use Rattle.ipdl_base.specs.declared.value.Value.TheVariants as value
use Rattle.ipdl_base.specs.declared.value.Values.{First'}
use Rattle.ipdl_base.specs.Plain.{one_box, plain_shape}
use Rattle.value_types.specs.declared.layout.Layout.{Layout}
use Rattle.value_codec.specs.Frames.{ended, made_at, request_at, returns_at, fault_at}
use Rattle.value_codec.specs.Reading.{◌>>=◌, flag_at, struct_at, word_at, Inside, elements_at, values_at, array_at, held_at, maybe_at, fields_at, component_at, union_at, row_at, shape_at, value_at}
use Rattle.program_schema.specs.Laws.{plain_param_row, plain_message_row, plain_type_row, plain_schema}
use Rattle.schema_laws.proofs.Rows.{listed_alike, type_alike}

-- Values inside others, each read the same by a type with its boxes elsewhere
module _ (other inside : Inside) (same : (shape : Shape) (bytes : List ℕ) → other (plain_shape shape) bytes ≡ inside shape bytes) where
  elements_read : (shape : Shape) (n : ℕ) (bytes : List ℕ) → elements_at other (plain_shape shape) n bytes ≡ elements_at inside shape n bytes
  unfolding elements_at
  elements_read shape zero bytes = refl
  elements_read shape (suc n) bytes = λ i. same shape bytes i >>= λ first. elements_read shape n first.1 i >>= λ others. Ok (First' one_box first.0 one_box others.0, others.1)

  values_read : (fields : List ParamRow) (bytes : List ℕ) → values_at other (map plain_param_row fields) bytes ≡ values_at inside fields bytes
  unfolding values_at
  values_read [] bytes = refl
  values_read (field ∷ fields) bytes = λ i. same field.shape bytes i >>= λ first. values_read fields first.1 i >>= λ others. Ok (First' one_box first.0 one_box others.0, others.1)

  array_read : (shape : Shape) (bytes : List ℕ) → array_at other (plain_shape shape) bytes ≡ array_at inside shape bytes
  unfolding array_at
  array_read shape bytes = λ i. word_at bytes >>= λ n. elements_read shape n.0 n.1 i >>= λ elements. Ok (value.Array elements.0, elements.1)

  held_read : (shape : Shape) (there : Bool) (bytes : List ℕ) → held_at other (plain_shape shape) there bytes ≡ held_at inside shape there bytes
  unfolding held_at
  held_read shape false bytes = refl
  held_read shape true bytes = λ i. same shape bytes i >>= λ held. Ok (boxed.Maybe' (boxed.Some' one_box held.0), held.1)

  maybe_read : (layout : Layout) (shape : Shape) (bytes : List ℕ) → maybe_at other layout (plain_shape shape) bytes ≡ maybe_at inside layout shape bytes
  unfolding maybe_at
  maybe_read layout shape bytes = λ i. flag_at layout bytes >>= λ flag. held_read shape flag.0 flag.1 i

  fields_read : (layout : Layout) (fields : List ParamRow) (bytes : List ℕ) → fields_at other layout (map plain_param_row fields) bytes ≡ fields_at inside layout fields bytes
  unfolding fields_at
  fields_read layout fields bytes = λ i. struct_at layout bytes >>= λ rest. values_read fields rest i >>= λ found. Ok (value.Struct found.0, found.1)

  component_read : (shape : Option Shape) (index : ℕ) (bytes rest : List ℕ) → component_at other (option_map plain_shape shape) index bytes rest ≡ component_at inside shape index bytes rest
  unfolding component_at
  component_read None index bytes rest = refl
  component_read (Some shape) index bytes rest = λ i. same shape rest i >>= λ held. Ok (boxed.Union' index one_box held.0, held.1)

  component_found : (components : List Shape) (index : ℕ) (bytes rest : List ℕ) → component_at other (slice_get (map plain_shape components) index) index bytes rest ≡ component_at inside (slice_get components index) index bytes rest
  component_found components index bytes rest = (λ i. component_at other (slice_get-map plain_shape components index i) index bytes rest) ∙ component_read (slice_get components index) index bytes rest

  union_read : (components : List Shape) (bytes : List ℕ) → union_at other (map plain_shape components) bytes ≡ union_at inside components bytes
  unfolding union_at
  union_read components bytes = λ i. word_at bytes >>= λ index. component_found components index.0 bytes index.1 i

  row_read : (layout : Layout) (row : Option TypeRow) (bytes : List ℕ) → row_at other layout (option_map plain_type_row row) bytes ≡ row_at inside layout row bytes
  row_read layout None bytes = refl
  row_read layout (Some (Struct name fields)) bytes = fields_read layout fields bytes
  row_read layout (Some (Union name components)) bytes = union_read components bytes

  shape_read : (layout : Layout) (s : Schema) (shape : Shape) (bytes : List ℕ) → shape_at other layout (plain_schema s) (plain_shape shape) bytes ≡ shape_at inside layout s shape bytes
  shape_read layout s (Builtin b) bytes = refl
  shape_read layout s (Using name) bytes = refl
  shape_read layout s (Actor p nullable) bytes = refl
  shape_read layout s (Named t) bytes = (λ i. row_at other layout (type_alike s t i) bytes) ∙ row_read layout (slice_get s.types t) bytes
  shape_read layout s (Array' _ e) bytes = array_read e bytes
  shape_read layout s (Maybe' _ e) bytes = maybe_read layout e bytes
  shape_read layout s (Unique' _ e) bytes = maybe_read layout e bytes
  shape_read layout s (Endpoint p managed) bytes = refl

  -- payloads

  pub request_read : (row : MessageRow) (bytes : List ℕ) → request_at other (plain_message_row row) bytes ≡ request_at inside row bytes
  unfolding request_at
  request_read row bytes = λ i. made_at row.kind bytes >>= λ made. values_read row.params made.1 i >>= λ found. ended made.0 (body.Request found.0) found.1

  returned : (row : MessageRow) (bytes : List ℕ) → values_at other (unwrap_or (plain_message_row row).returns []) bytes ≡ values_at inside (unwrap_or row.returns []) bytes
  returned row bytes = (λ i. values_at other (listed_alike plain_param_row row.returns i) bytes) ∙ values_read (unwrap_or row.returns []) bytes

  pub returns_read : (row : MessageRow) (bytes : List ℕ) → returns_at other (plain_message_row row) bytes ≡ returns_at inside row bytes
  unfolding returns_at
  returns_read row bytes = λ i. returned row bytes i >>= λ found. ended (pos 0) (body.Reply found.0) found.1

pub fault_read : (layout : Layout) (row : MessageRow) (bytes : List ℕ) → fault_at layout (plain_message_row row) bytes ≡ fault_at layout row bytes
unfolding fault_at
fault_read layout row bytes = refl

-- a value, however deep
pub value_read : (layout : Layout) (s : Schema) (depth : ℕ) (shape : Shape) (bytes : List ℕ) → value_at depth layout (plain_schema s) (plain_shape shape) bytes ≡ value_at depth layout s shape bytes
unfolding value_at
value_read layout s zero shape bytes = refl
value_read layout s (suc depth) shape bytes = shape_read (value_at depth layout (plain_schema s)) (value_at depth layout s) (value_read layout s depth) layout s shape bytes
