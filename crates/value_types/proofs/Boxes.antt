-- Values with their boxes elsewhere.
use Rattle.std.proofs.Common.{◌≡◌, ◌↔◌, ℕ, ◌+◌, List, [], ◌∷◌, ◌++◌, Option, refl, unwrap_or}
use Rattle.std.proofs.Math.Path.{transport, transport⁻¹}
use Rattle.std.specs.Prelude.{IsSomeAnd, codes}
use Rattle.std.specs.Fmt.{decimal}
use Rattle.std.specs.List.{All}
use Rattle.std.specs.Option.{option_map_or}
use Rattle.ipdl_base.specs.declared.message.Body.{Body}
use Rattle.ipdl_base.specs.declared.message.Body.TheVariants.{Request, Reply, Fault, Goodbye}
use Rattle.ipdl_base.specs.declared.message.Message.{Message}
use Rattle.ipdl_base.specs.declared.schema.MessageRow.{MessageRow}
use Rattle.ipdl_base.specs.declared.schema.ParamRow.{ParamRow}
use Rattle.ipdl_base.specs.declared.schema.Schema.{Schema}
use Rattle.ipdl_base.specs.declared.schema.Shape.{Shape}
use Rattle.ipdl_base.specs.declared.value.Value.{Value, Union', Maybe', Held-Value-Maybe-0, None', Some'}
use Rattle.ipdl_base.specs.declared.value.Value.TheVariants as value
use Rattle.ipdl_base.specs.declared.value.Values.{Values, First'}
use Rattle.ipdl_base.specs.declared.value.Values.TheVariants as values
use Rattle.ipdl_base.specs.Plain.{plain, plain_held, plain_values, plain_body, plain_message}
use Rattle.value_types.specs.declared.layout.Layout.{Layout}
use Rattle.value_types.specs.Shapes.{element_of, held_by, fields_of, component_of}
use Rattle.value_types.specs.HasType.{HasType, HeldHasType, AllHaveType, HaveTypes}
use Rattle.value_types.specs.Sizes.{padded, value_size, held_size, elements_size, values_size, body_size, made_size}
use Rattle.value_types.specs.ValueText.{value_text, held_text, elements_text, parts_text}
use Rattle.value_types.specs.Fits.{actor_ids, held_actor_ids, all_actor_ids, IsCarriedId, HasFields, IsRequestOf, IsReplyTo, GivesReturns, IsGoodbye, FitsBody, Fits}

mutual
  pub has_type : (schema : Schema) (shape : Shape) (v : Value) → HasType schema shape (plain v) ≡ HasType schema shape v
  has_type schema shape (value.Bool b) = refl
  has_type schema shape (value.Int n) = refl
  has_type schema shape (value.Text text) = refl
  has_type schema shape (value.Bytes bytes) = refl
  has_type schema shape (value.Bits bits) = refl
  has_type schema shape (value.Struct vs) = λ i. IsSomeAnd (fields_of schema shape) (λ fields. have_types schema fields vs i)
  has_type schema shape (Union' index _ v) = λ i. IsSomeAnd (component_of schema shape index) (λ component. has_type schema component v i)
  has_type schema shape (value.Array vs) = λ i. IsSomeAnd (element_of shape) (λ element. all_have_type schema element vs i)
  has_type schema shape (Maybe' held) = λ i. IsSomeAnd (held_by shape) (λ inner. held_has_type schema inner held i)
  has_type schema shape (value.Actor id) = refl

  pub held_has_type : (schema : Schema) (shape : Shape) (held : Held-Value-Maybe-0) → HeldHasType schema shape (plain_held held) ≡ HeldHasType schema shape held
  held_has_type schema shape None' = refl
  held_has_type schema shape (Some' _ v) = has_type schema shape v

  pub all_have_type : (schema : Schema) (shape : Shape) (vs : Values) → AllHaveType schema shape (plain_values vs) ≡ AllHaveType schema shape vs
  all_have_type schema shape values.Nothing = refl
  all_have_type schema shape (First' _ v _ vs) = λ i. has_type schema shape v i × all_have_type schema shape vs i

  pub have_types : (schema : Schema) (fields : List ParamRow) (vs : Values) → HaveTypes schema fields (plain_values vs) ≡ HaveTypes schema fields vs
  have_types schema [] values.Nothing = refl
  have_types schema (field ∷ fields) values.Nothing = refl
  have_types schema [] (First' _ v _ vs) = refl
  have_types schema (field ∷ fields) (First' _ v _ vs) = λ i. has_type schema field.shape v i × have_types schema fields vs i

mutual
  pub value_size-plain : (layout : Layout) (schema : Schema) (shape : Shape) (v : Value) → value_size layout schema shape (plain v) ≡ value_size layout schema shape v
  value_size-plain layout schema shape (value.Bool b) = refl
  value_size-plain layout schema shape (value.Int n) = refl
  value_size-plain layout schema shape (value.Text text) = refl
  value_size-plain layout schema shape (value.Bytes bytes) = refl
  value_size-plain layout schema shape (value.Bits bits) = refl
  value_size-plain layout schema shape (value.Struct vs) = λ i. padded layout 1 + values_size-plain layout schema (unwrap_or (fields_of schema shape) []) vs i
  value_size-plain layout schema shape (Union' index _ v) = λ i. 4 + option_map_or (λ component. value_size-plain layout schema component v i) (component_of schema shape index) 0
  value_size-plain layout schema shape (value.Array vs) = λ i. 4 + option_map_or (λ element. elements_size-plain layout schema element vs i) (element_of shape) 0
  value_size-plain layout schema shape (Maybe' held) = λ i. padded layout 1 + option_map_or (λ inner. held_size-plain layout schema inner held i) (held_by shape) 0
  value_size-plain layout schema shape (value.Actor id) = refl

  pub held_size-plain : (layout : Layout) (schema : Schema) (shape : Shape) (held : Held-Value-Maybe-0) → held_size layout schema shape (plain_held held) ≡ held_size layout schema shape held
  held_size-plain layout schema shape None' = refl
  held_size-plain layout schema shape (Some' _ v) = value_size-plain layout schema shape v

  pub elements_size-plain : (layout : Layout) (schema : Schema) (shape : Shape) (vs : Values) → elements_size layout schema shape (plain_values vs) ≡ elements_size layout schema shape vs
  elements_size-plain layout schema shape values.Nothing = refl
  elements_size-plain layout schema shape (First' _ v _ vs) = λ i. value_size-plain layout schema shape v i + elements_size-plain layout schema shape vs i

  pub values_size-plain : (layout : Layout) (schema : Schema) (fields : List ParamRow) (vs : Values) → values_size layout schema fields (plain_values vs) ≡ values_size layout schema fields vs
  values_size-plain layout schema [] vs = refl
  values_size-plain layout schema (field ∷ fields) values.Nothing = refl
  values_size-plain layout schema (field ∷ fields) (First' _ v _ vs) = λ i. value_size-plain layout schema field.shape v i + values_size-plain layout schema fields vs i

pub body_size-plain : (layout : Layout) (schema : Schema) (row : Option MessageRow) (body : Body) → body_size layout schema row (plain_body body) ≡ body_size layout schema row body
body_size-plain layout schema row (Request vs) = λ i. option_map_or (λ r. made_size r.kind + values_size-plain layout schema r.params vs i) row 0
body_size-plain layout schema row (Reply vs) = λ i. option_map_or (λ r. values_size-plain layout schema (unwrap_or r.returns []) vs i) row 0
body_size-plain layout schema row (Fault reason) = refl
body_size-plain layout schema row Goodbye = refl

mutual
  pub value_text-plain : (schema : Schema) (shape : Shape) (v : Value) → value_text schema shape (plain v) ≡ value_text schema shape v
  value_text-plain schema shape (value.Bool b) = refl
  value_text-plain schema shape (value.Int n) = refl
  value_text-plain schema shape (value.Text text) = refl
  value_text-plain schema shape (value.Bytes bytes) = refl
  value_text-plain schema shape (value.Bits bits) = refl
  value_text-plain schema shape (value.Struct vs) = λ i. codes "{" ++ parts_text-plain [] schema (unwrap_or (fields_of schema shape) []) vs i ++ codes "}"
  value_text-plain schema shape (Union' index _ v) = λ i. codes "@" ++ decimal index ++ codes " " ++ option_map_or (λ component. value_text-plain schema component v i) (component_of schema shape index) []
  value_text-plain schema shape (value.Array vs) = λ i. codes "[" ++ option_map_or (λ element. elements_text-plain [] schema element vs i) (element_of shape) [] ++ codes "]"
  value_text-plain schema shape (Maybe' held) = held_text-plain schema (held_by shape) held
  value_text-plain schema shape (value.Actor id) = refl

  pub held_text-plain : (schema : Schema) (inner : Option Shape) (held : Held-Value-Maybe-0) → held_text schema inner (plain_held held) ≡ held_text schema inner held
  held_text-plain schema inner None' = refl
  held_text-plain schema inner (Some' _ v) = λ i. codes "some " ++ option_map_or (λ shape. value_text-plain schema shape v i) inner []

  pub elements_text-plain : (before : List ℕ) (schema : Schema) (shape : Shape) (vs : Values) → elements_text before schema shape (plain_values vs) ≡ elements_text before schema shape vs
  elements_text-plain before schema shape values.Nothing = refl
  elements_text-plain before schema shape (First' _ v _ vs) = λ i. before ++ value_text-plain schema shape v i ++ elements_text-plain (codes ", ") schema shape vs i

  pub parts_text-plain : (before : List ℕ) (schema : Schema) (fields : List ParamRow) (vs : Values) → parts_text before schema fields (plain_values vs) ≡ parts_text before schema fields vs
  parts_text-plain before schema [] vs = refl
  parts_text-plain before schema (field ∷ fields) values.Nothing = refl
  parts_text-plain before schema (field ∷ fields) (First' _ v _ vs) = λ i. before ++ value_text-plain schema field.shape v i ++ parts_text-plain (codes ", ") schema fields vs i

mutual
  pub actor_ids-plain : (v : Value) → actor_ids (plain v) ≡ actor_ids v
  actor_ids-plain (value.Bool b) = refl
  actor_ids-plain (value.Int n) = refl
  actor_ids-plain (value.Text text) = refl
  actor_ids-plain (value.Bytes bytes) = refl
  actor_ids-plain (value.Bits bits) = refl
  actor_ids-plain (value.Struct vs) = all_actor_ids-plain vs
  actor_ids-plain (Union' _ _ v) = actor_ids-plain v
  actor_ids-plain (value.Array vs) = all_actor_ids-plain vs
  actor_ids-plain (Maybe' held) = held_actor_ids-plain held
  actor_ids-plain (value.Actor id) = refl

  pub held_actor_ids-plain : (held : Held-Value-Maybe-0) → held_actor_ids (plain_held held) ≡ held_actor_ids held
  held_actor_ids-plain None' = refl
  held_actor_ids-plain (Some' _ v) = actor_ids-plain v

  pub all_actor_ids-plain : (vs : Values) → all_actor_ids (plain_values vs) ≡ all_actor_ids vs
  all_actor_ids-plain values.Nothing = refl
  all_actor_ids-plain (First' _ v _ vs) = λ i. actor_ids-plain v i ++ all_actor_ids-plain vs i

-- equal statements are equivalent
pub both : {A B : Type 0} → A ≡ B → A ↔ B
both p = (transport p, transport⁻¹ p)

-- the ids that a frame may carry
carried-plain : (vs : Values) → All IsCarriedId (all_actor_ids (plain_values vs)) ≡ All IsCarriedId (all_actor_ids vs)
carried-plain vs = λ i. All IsCarriedId (all_actor_ids-plain vs i)

module _ (schema : Schema) (message : Message) where
  -- fields and numbers of a message are those of the same with its boxes elsewhere
  fields_from : (row : MessageRow) → HasFields row (plain_message message) → HasFields row message
  fields_from row h = record { carried = h.carried; route = h.route; seq = h.seq; transaction = h.transaction }

  fields_to : (row : MessageRow) → HasFields row message → HasFields row (plain_message message)
  fields_to row h = record { carried = h.carried; route = h.route; seq = h.seq; transaction = h.transaction }

  reply_from : (row : MessageRow) → IsReplyTo schema row (plain_message message) → IsReplyTo schema row message
  reply_from row h = record { found = h.found; number = h.number; replies = h.replies; fields = fields_from row h.fields; made = h.made }

  reply_to : (row : MessageRow) → IsReplyTo schema row message → IsReplyTo schema row (plain_message message)
  reply_to row h = record { found = h.found; number = h.number; replies = h.replies; fields = fields_to row h.fields; made = h.made }

  request_from : (row : MessageRow) (vs : Values) → IsRequestOf schema row (plain_message message) (plain_values vs) → IsRequestOf schema row message vs
  request_from row vs h =
      record { found = h.found; number = h.number; fields = fields_from row h.fields; made = h.made; types = transport (have_types schema row.params vs) h.types; ids = transport (carried-plain vs) h.ids }

  request_to : (row : MessageRow) (vs : Values) → IsRequestOf schema row message vs → IsRequestOf schema row (plain_message message) (plain_values vs)
  request_to row vs h =
      record { found = h.found; number = h.number; fields = fields_to row h.fields; made = h.made; types = transport⁻¹ (have_types schema row.params vs) h.types; ids = transport⁻¹ (carried-plain vs) h.ids }

  gives_from : (row : MessageRow) (vs : Values) → GivesReturns schema row (plain_values vs) → GivesReturns schema row vs
  gives_from row vs h = record { types = transport (have_types schema (unwrap_or row.returns []) vs) h.types; ids = transport (carried-plain vs) h.ids }

  gives_to : (row : MessageRow) (vs : Values) → GivesReturns schema row vs → GivesReturns schema row (plain_values vs)
  gives_to row vs h = record { types = transport⁻¹ (have_types schema (unwrap_or row.returns []) vs) h.types; ids = transport⁻¹ (carried-plain vs) h.ids }

  goodbye_from : IsGoodbye (plain_message message) → IsGoodbye message
  goodbye_from h = record { number = h.number; route = h.route; seq = h.seq; transaction = h.transaction; made = h.made }

  goodbye_to : IsGoodbye message → IsGoodbye (plain_message message)
  goodbye_to h = record { number = h.number; route = h.route; seq = h.seq; transaction = h.transaction; made = h.made }

  body_fits : (body : Body) → FitsBody schema (plain_message message) (plain_body body) ↔ FitsBody schema message body
  body_fits (Request vs) = (λ h. (h.0, request_from h.0 vs h.1), λ h. (h.0, request_to h.0 vs h.1))
  body_fits (Reply vs) = (λ h. (h.0, reply_from h.0 h.1, gives_from h.0 vs h.2), λ h. (h.0, reply_to h.0 h.1, gives_to h.0 vs h.2))
  body_fits (Fault reason) = (λ h. (h.0, reply_from h.0 h.1, h.2), λ h. (h.0, reply_to h.0 h.1, h.2))
  body_fits Goodbye = (goodbye_from, goodbye_to)

pub fits : (schema : Schema) (message : Message) → Fits schema (plain_message message) ↔ Fits schema message
fits schema message = body_fits schema message message.body
