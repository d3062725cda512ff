-- The spelling of messages does not depend on where the boxes of a schema are.
use Rattle.std.proofs.Common.{◌≡◌, ◌∙◌, ℕ, ℤ, List, [], ◌∷◌, ◌++◌, length, map, Option, refl, sym, ap}
use Rattle.std.specs.Prelude.{option_map, unwrap_or}
use Rattle.std.specs.Option.{option_map_or}
use Rattle.ipdl_base.specs.declared.builtin.Builtin.{Builtin as BuiltinType}
use Rattle.ipdl_base.specs.declared.message.Body.{Body}
use Rattle.ipdl_base.specs.declared.message.Body.TheVariants as body
use Rattle.ipdl_base.specs.declared.message.Message.{Message}
use Rattle.ipdl_base.specs.declared.schema.MessageRow.{MessageRow}
use Rattle.ipdl_base.specs.declared.schema.ParamRow.{ParamRow}
use Rattle.ipdl_base.specs.declared.schema.Schema.{Schema}
use Rattle.ipdl_base.specs.declared.schema.Shape.{Shape}
use Rattle.ipdl_base.specs.declared.value.Value.{Value, Union', Maybe', Held-Value-Maybe-0, None', Some'}
use Rattle.ipdl_base.specs.declared.value.Value.TheVariants as value
use Rattle.ipdl_base.specs.declared.value.Values.{Values, First'}
use Rattle.ipdl_base.specs.declared.value.Values.TheVariants as values
use Rattle.ipdl_base.specs.Plain.{plain_shape}
use Rattle.ipdl_base.specs.Sound.{message_of}
use Rattle.value_types.specs.declared.layout.Layout.{Layout}
use Rattle.value_types.specs.declared.layout.TheConstants.{NEW}
use Rattle.value_types.specs.Shapes.{component_of, element_of, fields_of, held_by}
use Rattle.value_types.specs.Sizes.{number_bytes, payload_size}
use Rattle.value_codec.specs.Spelling.{value_bytes, held_bytes, elements_bytes, values_bytes, request_bytes, reply_bytes, body_bytes, body_flags, request_flags, reply_flags, fault_flags, frame_bytes, header_bytes, payload_bytes, count, index_bytes, made_bytes, part, struct_byte, word, width}
use Rattle.value_codec.proofs.Lengths.{payload_length}
use Rattle.frame_list.specs.declared.list.PlacedMessage.{PlacedMessage}
use Rattle.frame_list.specs.Converted.{new_frame, new_frames}
use Rattle.program_schema.specs.Laws.{plain_param_row, plain_message_row, plain_schema}
use Rattle.value_types.proofs.PlainTypes.{builtin_of-plain, element_of-plain, held_by-plain}
use Rattle.schema_laws.proofs.Rows.{option_alike, listed_alike, message_alike, fields_alike, component_alike}

width_alike : (shape : Shape) → width (plain_shape shape) ≡ width shape
width_alike shape = ap (λ (b : Option BuiltinType). option_map_or number_bytes b 0) (builtin_of-plain shape)

module _ (layout : Layout) (s : Schema) where
  mutual
    value_alike : (shape : Shape) (v : Value) → value_bytes layout (plain_schema s) (plain_shape shape) v ≡ value_bytes layout s shape v
    value_alike shape (value.Bool b) = refl
    value_alike shape (value.Int n) = rw (width_alike shape) refl
    value_alike shape (value.Text text) = refl
    value_alike shape (value.Bytes bytes) = refl
    value_alike shape (value.Bits bits) = rw (width_alike shape) refl
    value_alike shape (value.Struct vs) =
        ap (λ (fields : List ParamRow). part layout (struct_byte ∷ []) ++ values_bytes layout (plain_schema s) fields vs) (ap (λ (o : Option (List ParamRow)). unwrap_or o []) (fields_alike s shape) ∙ listed_alike plain_param_row (fields_of s shape))
        ∙ ap (λ bytes. part layout (struct_byte ∷ []) ++ bytes) (values_alike (unwrap_or (fields_of s shape) []) vs)
    value_alike shape (Union' index _ v) =
        ap (λ (o : Option Shape). index_bytes index ++ option_map_or (λ component. value_bytes layout (plain_schema s) component v) o []) (component_alike s shape index)
        ∙ ap (λ bytes. index_bytes index ++ bytes) (option_alike plain_shape (λ component. value_bytes layout (plain_schema s) component v) (λ component. value_bytes layout s component v) (λ component. value_alike component v) [] (component_of s shape index))
    value_alike shape (value.Array vs) =
        ap (λ (o : Option Shape). word (count vs) ++ option_map_or (λ element. elements_bytes layout (plain_schema s) element vs) o []) (element_of-plain shape)
        ∙ ap (λ bytes. word (count vs) ++ bytes) (option_alike plain_shape (λ element. elements_bytes layout (plain_schema s) element vs) (λ element. elements_bytes layout s element vs) (λ element. elements_alike element vs) [] (element_of shape))
    value_alike shape (Maybe' held) = ap (λ (o : Option Shape). held_bytes layout (plain_schema s) o held) (held_by-plain shape) ∙ held_alike (held_by shape) held
    value_alike shape (value.Actor id) = refl

    held_alike : (inner : Option Shape) (held : Held-Value-Maybe-0) → held_bytes layout (plain_schema s) (option_map plain_shape inner) held ≡ held_bytes layout s inner held
    held_alike inner None' = refl
    held_alike inner (Some' _ v) = ap (λ bytes. part layout (1 ∷ []) ++ bytes) (option_alike plain_shape (λ shape. value_bytes layout (plain_schema s) shape v) (λ shape. value_bytes layout s shape v) (λ shape. value_alike shape v) [] inner)

    elements_alike : (shape : Shape) (vs : Values) → elements_bytes layout (plain_schema s) (plain_shape shape) vs ≡ elements_bytes layout s shape vs
    elements_alike shape values.Nothing = refl
    elements_alike shape (First' _ v _ vs) =
        ap (λ bytes. bytes ++ elements_bytes layout (plain_schema s) (plain_shape shape) vs) (value_alike shape v)
        ∙ ap (λ bytes. value_bytes layout s shape v ++ bytes) (elements_alike shape vs)

    pub values_alike : (fields : List ParamRow) (vs : Values) → values_bytes layout (plain_schema s) (map plain_param_row fields) vs ≡ values_bytes layout s fields vs
    values_alike [] vs = refl
    values_alike (field ∷ fields) values.Nothing = refl
    values_alike (field ∷ fields) (First' _ v _ vs) =
        ap (λ bytes. bytes ++ values_bytes layout (plain_schema s) (map plain_param_row fields) vs) (value_alike field.shape v)
        ∙ ap (λ bytes. value_bytes layout s field.shape v ++ bytes) (values_alike fields vs)

  request_alike : (made : ℤ) (vs : Values) (row : MessageRow) → request_bytes layout (plain_schema s) made vs (plain_message_row row) ≡ request_bytes layout s made vs row
  request_alike made vs row = ap (λ bytes. made_bytes row.kind made ++ bytes) (values_alike row.params vs)

  reply_alike : (vs : Values) (row : MessageRow) → reply_bytes layout (plain_schema s) vs (plain_message_row row) ≡ reply_bytes layout s vs row
  reply_alike vs row = ap (λ (fields : List ParamRow). values_bytes layout (plain_schema s) fields vs) (listed_alike plain_param_row row.returns) ∙ values_alike (unwrap_or row.returns []) vs

  body_alike : (row : Option MessageRow) (made : ℤ) (b : Body) → body_bytes layout (plain_schema s) (option_map plain_message_row row) made b ≡ body_bytes layout s row made b
  body_alike row made (body.Request vs) = option_alike plain_message_row (request_bytes layout (plain_schema s) made vs) (request_bytes layout s made vs) (request_alike made vs) [] row
  body_alike row made (body.Reply vs) = option_alike plain_message_row (reply_bytes layout (plain_schema s) vs) (reply_bytes layout s vs) (reply_alike vs) [] row
  body_alike row made (body.Fault reason) = refl
  body_alike row made body.Goodbye = refl

  payload_alike : (m : Message) → payload_bytes layout (plain_schema s) m ≡ payload_bytes layout s m
  payload_alike m = ap (λ (row : Option MessageRow). body_bytes layout (plain_schema s) row m.made m.body) (message_alike s m.number) ∙ body_alike (message_of s m.number) m.made m.body

  pub size_alike : (m : Message) → payload_size layout (plain_schema s) m ≡ payload_size layout s m
  size_alike m = sym (payload_length layout (plain_schema s) m) ∙ ap length (payload_alike m) ∙ payload_length layout s m

flags_alike : (row : Option MessageRow) (b : Body) → body_flags (option_map plain_message_row row) b ≡ body_flags row b
flags_alike row (body.Request vs) = option_alike plain_message_row request_flags request_flags (λ r. refl) 0 row
flags_alike row (body.Reply vs) = option_alike plain_message_row reply_flags reply_flags (λ r. refl) 0 row
flags_alike row (body.Fault reason) = option_alike plain_message_row fault_flags fault_flags (λ r. refl) 0 row
flags_alike row body.Goodbye = refl

pub frame_alike : (layout : Layout) (s : Schema) (m : Message) → frame_bytes layout (plain_schema s) m ≡ frame_bytes layout s m
frame_alike layout s m =
    let with : List ℕ → ℕ → List ℕ = λ payload flags. header_bytes layout (length payload) m.route m.number flags m.seq m.transaction ++ payload in
    ap (λ payload. with payload (body_flags (message_of (plain_schema s) m.number) m.body)) (payload_alike layout s m)
    ∙ ap (λ flags. with (payload_bytes layout s m) flags) (ap (λ (row : Option MessageRow). body_flags row m.body) (message_alike s m.number) ∙ flags_alike (message_of s m.number) m.body)

pub new_alike : (s : Schema) (frames : List PlacedMessage) → new_frames (plain_schema s) frames ≡ new_frames s frames
new_alike s [] = refl
new_alike s (f ∷ frames) =
    ap (λ bytes. bytes ++ new_frames (plain_schema s) frames) (frame_alike NEW s f.message)
    ∙ ap (λ bytes. new_frame s f ++ bytes) (new_alike s frames)
