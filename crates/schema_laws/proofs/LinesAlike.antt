-- The lines of frames do not depend on where the boxes of a schema are.
use Rattle.std.proofs.Common.{◌≡◌, ◌∙◌, ℕ, ◌/◌, List, [], ◌∷◌, ◌++◌, map, Option, Some, None, refl, codes, unwrap_or}
use Rattle.std.specs.Prelude.{option_map, slice_get}
use Rattle.std.specs.Fmt.{decimal}
use Rattle.std.specs.Option.{option_map_or}
use Rattle.std.proofs.lemmas.Option.{slice_get-map}
use Rattle.history.specs.Text.{listed_values, message_text, numbered, protocol_text}
use Rattle.ipdl_base.specs.Signatures.{params_of, returns_of_row}
use Rattle.history.specs.Words.{reason_word}
use Rattle.ipdl_base.specs.declared.message.Body.{Body}
use Rattle.ipdl_base.specs.declared.message.Body.TheVariants as body
use Rattle.ipdl_base.specs.declared.message.Message.{Message}
use Rattle.ipdl_base.specs.declared.schema.MessageRow.{MessageRow}
use Rattle.ipdl_base.specs.declared.schema.ParamRow.{ParamRow}
use Rattle.ipdl_base.specs.declared.schema.Schema.{Schema}
use Rattle.ipdl_base.specs.declared.schema.Shape.{Shape}
use Rattle.ipdl_base.specs.declared.value.Value.{Value, Union', Maybe', Held-Value-Maybe-0, None', Some'}
use Rattle.ipdl_base.specs.declared.value.Value.TheVariants as value
use Rattle.ipdl_base.specs.declared.value.Values.{Values, First'}
use Rattle.ipdl_base.specs.declared.value.Values.TheVariants as values
use Rattle.ipdl_base.specs.Plain.{plain_shape}
use Rattle.ipdl_base.specs.Sound.{message_of}
use Rattle.ipdl_base.specs.Words.{short_name}
use Rattle.value_types.specs.Shapes.{component_of, element_of, fields_of, held_by}
use Rattle.value_types.specs.ValueText.{bits_text, digit_count_of, hex_digits, value_text, held_text, elements_text, parts_text}
use Rattle.frame_list.specs.declared.list.PlacedMessage.{PlacedMessage}
use Rattle.frame_list.specs.Lines.{addressed, frame_line, frames_lines, made_text, said_text}
use Rattle.program_schema.specs.Laws.{plain_param_row, plain_message_row, plain_protocol_row, plain_schema}
use Rattle.value_types.proofs.PlainTypes.{builtin_of-plain, element_of-plain, held_by-plain}
use Rattle.schema_laws.proofs.Rows.{option_alike, listed_alike, message_alike, fields_alike, component_alike}

-- values

bits_alike : (shape : Shape) (bits : ℕ) → bits_text (plain_shape shape) bits ≡ bits_text shape bits
bits_alike shape bits = λ i. codes "h\"" ++ hex_digits (digit_count_of (builtin_of-plain shape i)) bits ++ codes "\""

-- the returns of a message, or an empty list if it has none
pub returned : (returns : Option (List ParamRow)) → option_map_or (λ rows. rows) (option_map (map plain_param_row) returns) [] ≡ map plain_param_row (option_map_or (λ rows. rows) returns [])
returned None = refl
returned (Some rows) = refl

module _ (s : Schema) where
  mutual
    value_alike : (shape : Shape) (v : Value) → value_text (plain_schema s) (plain_shape shape) v ≡ value_text s shape v
    value_alike shape (value.Bool b) = refl
    value_alike shape (value.Int n) = refl
    value_alike shape (value.Text text) = refl
    value_alike shape (value.Bytes bytes) = refl
    value_alike shape (value.Bits bits) = bits_alike shape bits
    value_alike shape (value.Struct vs) =
        (λ i. codes "{" ++ parts_text [] (plain_schema s) (unwrap_or (fields_alike s shape i) []) vs ++ codes "}")
        ∙ (λ i. codes "{" ++ parts_text [] (plain_schema s) (listed_alike plain_param_row (fields_of s shape) i) vs ++ codes "}")
        ∙ (λ i. codes "{" ++ parts_alike [] (unwrap_or (fields_of s shape) []) vs i ++ codes "}")
    value_alike shape (Union' index _ v) =
        (λ i. codes "@" ++ decimal index ++ codes " " ++ option_map_or (λ component. value_text (plain_schema s) component v) (component_alike s shape index i) [])
        ∙ (λ i. codes "@" ++ decimal index ++ codes " " ++ option_alike plain_shape (λ component. value_text (plain_schema s) component v) (λ component. value_text s component v) (λ component. value_alike component v) [] (component_of s shape index) i)
    value_alike shape (value.Array vs) =
        (λ i. codes "[" ++ option_map_or (λ element. elements_text [] (plain_schema s) element vs) (element_of-plain shape i) [] ++ codes "]")
        ∙ (λ i. codes "[" ++ option_alike plain_shape (λ element. elements_text [] (plain_schema s) element vs) (λ element. elements_text [] s element vs) (λ element. elements_alike [] element vs) [] (element_of shape) i ++ codes "]")
    value_alike shape (Maybe' held) = (λ i. held_text (plain_schema s) (held_by-plain shape i) held) ∙ held_alike (held_by shape) held
    value_alike shape (value.Actor id) = refl

    held_alike : (inner : Option Shape) (held : Held-Value-Maybe-0) → held_text (plain_schema s) (option_map plain_shape inner) held ≡ held_text s inner held
    held_alike inner None' = refl
    held_alike inner (Some' _ v) = λ i. codes "some " ++ option_alike plain_shape (λ shape. value_text (plain_schema s) shape v) (λ shape. value_text s shape v) (λ shape. value_alike shape v) [] inner i

    elements_alike : (before : List ℕ) (shape : Shape) (vs : Values) → elements_text before (plain_schema s) (plain_shape shape) vs ≡ elements_text before s shape vs
    elements_alike before shape values.Nothing = refl
    elements_alike before shape (First' _ v _ vs) = λ i. before ++ value_alike shape v i ++ elements_alike (codes ", ") shape vs i

    parts_alike : (before : List ℕ) (fields : List ParamRow) (vs : Values) → parts_text before (plain_schema s) (map plain_param_row fields) vs ≡ parts_text before s fields vs
    parts_alike before [] vs = refl
    parts_alike before (field ∷ fields) values.Nothing = refl
    parts_alike before (field ∷ fields) (First' _ v _ vs) = λ i. before ++ value_alike field.shape v i ++ parts_alike (codes ", ") fields vs i

  -- messages

  pub protocol_alike : (n : ℕ) → protocol_text (plain_schema s) n ≡ protocol_text s n
  protocol_alike n =
      (λ i. option_map_or (λ protocol. short_name protocol.name) (slice_get-map plain_protocol_row s.protocols n i) [])
      ∙ option_alike plain_protocol_row (λ protocol. short_name protocol.name) (λ protocol. short_name protocol.name) (λ protocol. refl) [] (slice_get s.protocols n)

  name_alike : (n : ℕ) → option_map_or (λ message. message.name) (message_of (plain_schema s) n) [] ≡ option_map_or (λ message. message.name) (message_of s n) []
  name_alike n =
      (λ i. option_map_or (λ message. message.name) (message_alike s n i) [])
      ∙ option_alike plain_message_row (λ message. message.name) (λ message. message.name) (λ message. refl) [] (message_of s n)

  pub text_alike : (n : ℕ) → message_text (plain_schema s) n ≡ message_text s n
  text_alike n = λ i. protocol_alike (n / 65536) i ++ codes "." ++ name_alike n i

  addressed_alike : (word : List ℕ) (m : Message) → addressed (plain_schema s) word m ≡ addressed s word m
  addressed_alike word m = λ i. numbered word m.seq ++ numbered (codes "/") m.transaction ++ (numbered (codes " to ") m.route ++ codes " " ++ text_alike m.number i)

  -- the result for an optional row, as a list with every box at one place
  rows_alike : (f g : MessageRow → List ParamRow) → ((row : MessageRow) → f (plain_message_row row) ≡ map plain_param_row (g row)) → (o : Option MessageRow) → option_map_or f (option_map plain_message_row o) [] ≡ map plain_param_row (option_map_or g o [])
  rows_alike f g same None = refl
  rows_alike f g same (Some row) = same row

  pub params_alike : (n : ℕ) → params_of (plain_schema s) n ≡ map plain_param_row (params_of s n)
  params_alike n = (λ i. option_map_or (λ message. message.params) (message_alike s n i) []) ∙ rows_alike (λ message. message.params) (λ message. message.params) (λ row. refl) (message_of s n)

  pub returns_alike : (n : ℕ) → option_map_or returns_of_row (message_of (plain_schema s) n) [] ≡ map plain_param_row (option_map_or returns_of_row (message_of s n) [])
  returns_alike n = (λ i. option_map_or returns_of_row (message_alike s n i) []) ∙ rows_alike returns_of_row returns_of_row (λ row. returned row.returns) (message_of s n)

  pub listed : (others rows : List ParamRow) (vs : Values) → others ≡ map plain_param_row rows → listed_values (plain_schema s) others vs ≡ listed_values s rows vs
  listed others rows vs same = (λ i. codes "(" ++ parts_text [] (plain_schema s) (same i) vs ++ codes ")") ∙ (λ i. codes "(" ++ parts_alike [] rows vs i ++ codes ")")

  said_alike : (m : Message) (b : Body) → said_text (plain_schema s) m b ≡ said_text s m b
  said_alike m (body.Request vs) = λ i. addressed_alike (codes "request ") m i ++ listed (params_of (plain_schema s) m.number) (params_of s m.number) vs (params_alike m.number) i ++ made_text m.made
  said_alike m (body.Reply vs) = λ i.
      addressed_alike (codes "reply ") m i ++ codes " ok "
      ++ listed (option_map_or returns_of_row (message_of (plain_schema s) m.number) []) (option_map_or returns_of_row (message_of s m.number) []) vs (returns_alike m.number) i
  said_alike m (body.Fault reason) = λ i. addressed_alike (codes "reply ") m i ++ codes " fault " ++ reason_word reason
  said_alike m body.Goodbye = refl

  line_alike : (f : PlacedMessage) → frame_line (plain_schema s) f ≡ frame_line s f
  line_alike f = λ i. decimal f.offset ++ codes " " ++ said_alike f.message f.message.body i ++ codes "\n"

  pub lines_alike : (frames : List PlacedMessage) → frames_lines (plain_schema s) frames ≡ frames_lines s frames
  lines_alike [] = refl
  lines_alike (f ∷ frames) = λ i. line_alike f i ++ lines_alike frames i
