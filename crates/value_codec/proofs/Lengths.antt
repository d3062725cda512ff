-- The number of bytes of a payload is its size.
use Rattle.std.proofs.Common.{◌≡◌, ℕ, ℤ, ◌+◌, ◌^◌, true, false, cond, ltb, List, [], ◌∷◌, ◌++◌, length, replicate, Option, Some, None, refl, ap, ◌∙◌, arith, length-append, unwrap_or}
use Rattle.std.proofs.lemmas.List.{length-replicate}
use Rattle.std.specs.Option.{option_map_or}
use Rattle.std.specs.Int.{w128, cast_unsigned}
use Rattle.byteorder.specs.Endian.{little_bytes}
use Rattle.byteorder.specs.Numbers.{length-bytes_low_first}
use Rattle.ipdl_base.specs.declared.message.Body.{Body}
use Rattle.ipdl_base.specs.declared.message.Body.TheVariants as body
use Rattle.ipdl_base.specs.declared.schema.Kind.{Kind}
use Rattle.ipdl_base.specs.declared.schema.Kind.TheVariants as kind
use Rattle.ipdl_base.specs.declared.schema.MessageRow.{MessageRow}
use Rattle.ipdl_base.specs.declared.schema.ParamRow.{ParamRow}
use Rattle.ipdl_base.specs.declared.schema.Schema.{Schema}
use Rattle.ipdl_base.specs.declared.schema.Shape.{Shape}
use Rattle.ipdl_base.specs.declared.message.Message.{Message}
use Rattle.ipdl_base.specs.declared.value.Value.{Value, Union', Maybe', Held-Value-Maybe-0, None', Some'}
use Rattle.ipdl_base.specs.declared.value.Value.TheVariants as value
use Rattle.ipdl_base.specs.declared.value.Values.{Values, First'}
use Rattle.ipdl_base.specs.declared.value.Values.TheVariants as values
use Rattle.ipdl_base.specs.Sound.{message_of}
use Rattle.value_types.specs.declared.layout.Layout.{Layout}
use Rattle.value_types.specs.Shapes.{element_of, held_by, fields_of, component_of}
use Rattle.value_types.specs.Sizes.{padding, padded, value_size, held_size, elements_size, values_size, made_size, body_size, payload_size}
use Rattle.value_codec.specs.Spelling.{part, word, counted, index_bytes, count, width, struct_byte, truth_byte, reason_byte, made_bytes, value_bytes, held_bytes, elements_bytes, values_bytes, body_bytes, payload_bytes}

pub part_length : (layout : Layout) (bytes : List ℕ) → length (part layout bytes) ≡ padded layout (length bytes)
part_length layout bytes = length-append bytes (replicate (padding layout (length bytes)) 0) ∙ ap (λ n. length bytes + n) (length-replicate {A = ℕ} (padding layout (length bytes)) 0)

number_length : (layout : Layout) (count n : ℕ) → length (part layout (little_bytes count n)) ≡ padded layout count
number_length layout count n = part_length layout (little_bytes count n) ∙ ap (padded layout) (length-bytes_low_first 0 count n)

pub counted_length : (layout : Layout) (bytes : List ℕ) → length (counted layout bytes) ≡ padded layout (4 + length bytes)
counted_length layout bytes = part_length layout (word (length bytes) ++ bytes) ∙ ap (padded layout) (length-append (word (length bytes)) bytes)

-- the bytes of a part that may be missing
part_of : {X : Type 0} (f : X → List ℕ) (g : X → ℕ) (o : Option X) → ((x : X) → length (f x) ≡ g x) → length (option_map_or f o []) ≡ option_map_or g o 0
part_of f g None h = refl
part_of f g (Some x) h = h x

both : (xs ys : List ℕ) (m n : ℕ) → length xs ≡ m → length ys ≡ n → length (xs ++ ys) ≡ m + n
both xs ys m n d e = omega (arith, length-append xs ys, d, e)

index_length : (index : ℕ) → length (index_bytes index) ≡ 4
index_length index = elim (ltb index (2 ^ 32)) as (λ b. length (cond b (word index) (replicate 4 index)) ≡ 4) [ true ↦ refl | false ↦ refl ]

mutual
  pub value_length : (layout : Layout) (schema : Schema) (shape : Shape) (v : Value) → length (value_bytes layout schema shape v) ≡ value_size layout schema shape v
  value_length layout schema shape (value.Bool b) = part_length layout (truth_byte b ∷ [])
  value_length layout schema shape (value.Int n) = number_length layout (width shape) (cast_unsigned w128 n)
  value_length layout schema shape (value.Text text) = counted_length layout text
  value_length layout schema shape (value.Bytes bytes) = counted_length layout bytes
  value_length layout schema shape (value.Bits bits) = number_length layout (width shape) bits
  value_length layout schema shape (value.Struct vs) =
      both (part layout (struct_byte ∷ [])) (values_bytes layout schema (unwrap_or (fields_of schema shape) []) vs) (padded layout 1) (values_size layout schema (unwrap_or (fields_of schema shape) []) vs)
      (part_length layout (struct_byte ∷ [])) (values_length layout schema (unwrap_or (fields_of schema shape) []) vs)
  value_length layout schema shape (Union' index at v) =
      both (index_bytes index) (option_map_or (λ component. value_bytes layout schema component v) (component_of schema shape index) []) 4 (option_map_or (λ component. value_size layout schema component v) (component_of schema shape index) 0)
      (index_length index) (part_of (λ component. value_bytes layout schema component v) (λ component. value_size layout schema component v) (component_of schema shape index) (λ component. value_length layout schema component v))
  value_length layout schema shape (value.Array vs) =
      both (word (count vs)) (option_map_or (λ element. elements_bytes layout schema element vs) (element_of shape) []) 4 (option_map_or (λ element. elements_size layout schema element vs) (element_of shape) 0)
      refl (part_of (λ element. elements_bytes layout schema element vs) (λ element. elements_size layout schema element vs) (element_of shape) (λ element. elements_length layout schema element vs))
  value_length layout schema shape (Maybe' held) = held_length layout schema (held_by shape) held
  value_length layout schema shape (value.Actor id) = refl

  held_length : (layout : Layout) (schema : Schema) (inner : Option Shape) (held : Held-Value-Maybe-0) → length (held_bytes layout schema inner held) ≡ padded layout 1 + option_map_or (λ shape. held_size layout schema shape held) inner 0
  held_length layout schema None None' = omega (arith, part_length layout (0 ∷ []))
  held_length layout schema (Some shape) None' = omega (arith, part_length layout (0 ∷ []))
  held_length layout schema inner (Some' at v) =
      both (part layout (1 ∷ [])) (option_map_or (λ shape. value_bytes layout schema shape v) inner []) (padded layout 1) (option_map_or (λ shape. value_size layout schema shape v) inner 0)
      (part_length layout (1 ∷ [])) (part_of (λ shape. value_bytes layout schema shape v) (λ shape. value_size layout schema shape v) inner (λ shape. value_length layout schema shape v))

  pub elements_length : (layout : Layout) (schema : Schema) (shape : Shape) (vs : Values) → length (elements_bytes layout schema shape vs) ≡ elements_size layout schema shape vs
  elements_length layout schema shape values.Nothing = refl
  elements_length layout schema shape (First' _ v _ vs) =
      both (value_bytes layout schema shape v) (elements_bytes layout schema shape vs) (value_size layout schema shape v) (elements_size layout schema shape vs) (value_length layout schema shape v) (elements_length layout schema shape vs)

  pub values_length : (layout : Layout) (schema : Schema) (fields : List ParamRow) (vs : Values) → length (values_bytes layout schema fields vs) ≡ values_size layout schema fields vs
  values_length layout schema [] vs = refl
  values_length layout schema (field ∷ fields) values.Nothing = refl
  values_length layout schema (field ∷ fields) (First' _ v _ vs) =
      both (value_bytes layout schema field.shape v) (values_bytes layout schema fields vs) (value_size layout schema field.shape v) (values_size layout schema fields vs) (value_length layout schema field.shape v) (values_length layout schema fields vs)

made_length : (k : Kind) (made : ℤ) → length (made_bytes k made) ≡ made_size k
made_length kind.Normal made = refl
made_length (kind.Constructor p) made = refl
made_length kind.Delete made = refl

pub body_length : (layout : Layout) (schema : Schema) (row : Option MessageRow) (made : ℤ) (body : Body) → length (body_bytes layout schema row made body) ≡ body_size layout schema row body
body_length layout schema None made (body.Request vs) = refl
body_length layout schema (Some row) made (body.Request vs) =
    both (made_bytes row.kind made) (values_bytes layout schema row.params vs) (made_size row.kind) (values_size layout schema row.params vs) (made_length row.kind made) (values_length layout schema row.params vs)
body_length layout schema None made (body.Reply vs) = refl
body_length layout schema (Some row) made (body.Reply vs) = values_length layout schema (unwrap_or row.returns []) vs
body_length layout schema row made (body.Fault reason) = part_length layout (reason_byte reason ∷ [])
body_length layout schema row made body.Goodbye = refl

pub payload_length : (layout : Layout) (schema : Schema) (message : Message) → length (payload_bytes layout schema message) ≡ payload_size layout schema message
payload_length layout schema message = body_length layout schema (message_of schema message.number) message.made message.body
