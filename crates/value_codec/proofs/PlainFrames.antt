-- The frames of messages do not depend on where the boxes of their values are.
use Rattle.std.proofs.Common.{◌≡◌, ◌∙◌, ℕ, suc, ℤ, List, [], ◌∷◌, ◌++◌, length, Option, Some, None, refl, ap}
use Rattle.std.specs.Prelude.{unwrap_or}
use Rattle.std.specs.Option.{option_map_or}
use Rattle.ipdl_base.specs.declared.message.Body.{Body}
use Rattle.ipdl_base.specs.declared.message.Body.TheVariants as body
use Rattle.ipdl_base.specs.declared.message.Message.{Message}
use Rattle.ipdl_base.specs.declared.schema.MessageRow.{MessageRow}
use Rattle.ipdl_base.specs.declared.schema.ParamRow.{ParamRow}
use Rattle.ipdl_base.specs.declared.schema.Schema.{Schema}
use Rattle.ipdl_base.specs.declared.schema.Shape.{Shape}
use Rattle.ipdl_base.specs.declared.value.Value.{Value, Union', Maybe', Held-Value-Maybe-0, None', Some'}
use Rattle.ipdl_base.specs.declared.value.Value.TheVariants as value
use Rattle.ipdl_base.specs.declared.value.Values.{Values, First'}
use Rattle.ipdl_base.specs.declared.value.Values.TheVariants as values
use Rattle.ipdl_base.specs.Plain.{plain, plain_held, plain_values, plain_body, plain_message}
use Rattle.ipdl_base.specs.Sound.{message_of}
use Rattle.value_types.specs.declared.layout.Layout.{Layout}
use Rattle.value_types.specs.Shapes.{component_of, element_of, fields_of, held_by}
use Rattle.value_codec.specs.Spelling.{value_bytes, held_bytes, elements_bytes, values_bytes, body_bytes, body_flags, frame_bytes, header_bytes, payload_bytes, count, index_bytes, made_bytes, part, struct_byte, word}

count_plain : (vs : Values) → count (plain_values vs) ≡ count vs
count_plain values.Nothing = refl
count_plain (First' _ v _ vs) = ap suc (count_plain vs)

option_same : (shape : Option Shape) (f g : Shape → List ℕ) → ((s : Shape) → f s ≡ g s) → option_map_or f shape [] ≡ option_map_or g shape []
option_same None f g same = refl
option_same (Some s) f g same = same s

mutual
  value_plain : (layout : Layout) (schema : Schema) (shape : Shape) (v : Value) → value_bytes layout schema shape (plain v) ≡ value_bytes layout schema shape v
  value_plain layout schema shape (value.Bool b) = refl
  value_plain layout schema shape (value.Int n) = refl
  value_plain layout schema shape (value.Text text) = refl
  value_plain layout schema shape (value.Bytes bytes) = refl
  value_plain layout schema shape (value.Bits bits) = refl
  value_plain layout schema shape (value.Struct vs) = ap (λ bytes. part layout (struct_byte ∷ []) ++ bytes) (values_plain layout schema (unwrap_or (fields_of schema shape) []) vs)
  value_plain layout schema shape (Union' index _ v) = ap (λ bytes. index_bytes index ++ bytes) (option_same (component_of schema shape index) _ _ (λ component. value_plain layout schema component v))
  value_plain layout schema shape (value.Array vs) =
      ap (λ n. word n ++ option_map_or (λ element. elements_bytes layout schema element (plain_values vs)) (element_of shape) []) (count_plain vs)
      ∙ ap (λ bytes. word (count vs) ++ bytes) (option_same (element_of shape) _ _ (λ element. elements_plain layout schema element vs))
  value_plain layout schema shape (Maybe' held) = held_plain layout schema (held_by shape) held
  value_plain layout schema shape (value.Actor id) = refl

  held_plain : (layout : Layout) (schema : Schema) (inner : Option Shape) (held : Held-Value-Maybe-0) → held_bytes layout schema inner (plain_held held) ≡ held_bytes layout schema inner held
  held_plain layout schema inner None' = refl
  held_plain layout schema inner (Some' _ v) = ap (λ bytes. part layout (1 ∷ []) ++ bytes) (option_same inner _ _ (λ shape. value_plain layout schema shape v))

  elements_plain : (layout : Layout) (schema : Schema) (shape : Shape) (vs : Values) → elements_bytes layout schema shape (plain_values vs) ≡ elements_bytes layout schema shape vs
  elements_plain layout schema shape values.Nothing = refl
  elements_plain layout schema shape (First' _ v _ vs) =
      ap (λ bytes. bytes ++ elements_bytes layout schema shape (plain_values vs)) (value_plain layout schema shape v)
      ∙ ap (λ bytes. value_bytes layout schema shape v ++ bytes) (elements_plain layout schema shape vs)

  values_plain : (layout : Layout) (schema : Schema) (fields : List ParamRow) (vs : Values) → values_bytes layout schema fields (plain_values vs) ≡ values_bytes layout schema fields vs
  values_plain layout schema [] vs = refl
  values_plain layout schema (field ∷ fields) values.Nothing = refl
  values_plain layout schema (field ∷ fields) (First' _ v _ vs) =
      ap (λ bytes. bytes ++ values_bytes layout schema fields (plain_values vs)) (value_plain layout schema field.shape v)
      ∙ ap (λ bytes. value_bytes layout schema field.shape v ++ bytes) (values_plain layout schema fields vs)

body_plain : (layout : Layout) (schema : Schema) (row : Option MessageRow) (made : ℤ) (b : Body) → body_bytes layout schema row made (plain_body b) ≡ body_bytes layout schema row made b
body_plain layout schema None made (body.Request vs) = refl
body_plain layout schema (Some row) made (body.Request vs) = ap (λ bytes. made_bytes row.kind made ++ bytes) (values_plain layout schema row.params vs)
body_plain layout schema None made (body.Reply vs) = refl
body_plain layout schema (Some row) made (body.Reply vs) = values_plain layout schema (unwrap_or row.returns []) vs
body_plain layout schema row made (body.Fault reason) = refl
body_plain layout schema row made body.Goodbye = refl

flags_plain : (row : Option MessageRow) (b : Body) → body_flags row (plain_body b) ≡ body_flags row b
flags_plain row (body.Request vs) = refl
flags_plain row (body.Reply vs) = refl
flags_plain row (body.Fault reason) = refl
flags_plain row body.Goodbye = refl

pub frame_plain : (layout : Layout) (schema : Schema) (m : Message) → frame_bytes layout schema (plain_message m) ≡ frame_bytes layout schema m
frame_plain layout schema m =
    let with : List ℕ → ℕ → List ℕ = λ payload flags. header_bytes layout (length payload) m.route m.number flags m.seq m.transaction ++ payload in
    ap (λ payload. with payload (body_flags (message_of schema m.number) (plain_body m.body))) (body_plain layout schema (message_of schema m.number) m.made m.body)
    ∙ ap (λ flags. with (payload_bytes layout schema m) flags) (flags_plain (message_of schema m.number) m.body)
