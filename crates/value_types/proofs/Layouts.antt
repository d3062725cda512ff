-- How the two layouts are related.
use Rattle.std.proofs.Common.{ℕ, ◌+◌, ◌*◌, ◌≤◌, List, [], ◌∷◌, Option, Some, None, unwrap_or, arith}
use Rattle.std.specs.Option.{option_map_or}
use Rattle.ipdl_base.specs.declared.message.Body.{Body}
use Rattle.ipdl_base.specs.declared.message.Body.TheVariants.{Request, Reply, Fault, Goodbye}
use Rattle.ipdl_base.specs.declared.schema.Kind.{Kind}
use Rattle.ipdl_base.specs.declared.schema.MessageRow.{MessageRow}
use Rattle.ipdl_base.specs.declared.schema.ParamRow.{ParamRow}
use Rattle.ipdl_base.specs.declared.schema.Schema.{Schema}
use Rattle.ipdl_base.specs.declared.schema.Shape.{Shape}
use Rattle.ipdl_base.specs.declared.value.Value.{Value, Union', Maybe', Held-Value-Maybe-0, None', Some'}
use Rattle.ipdl_base.specs.declared.value.Value.TheVariants as value
use Rattle.ipdl_base.specs.declared.value.Values.{Values, First'}
use Rattle.ipdl_base.specs.declared.value.Values.TheVariants as values
use Rattle.value_types.specs.declared.layout.TheConstants.{NEW, OLD}
use Rattle.value_types.specs.Shapes.{builtin_of, element_of, held_by, fields_of, component_of}
use Rattle.value_types.specs.Sizes.{padded, number_bytes, value_size, held_size, elements_size, values_size, made_size, request_size, reply_size, body_size}

padded_fourfold : (n : ℕ) → padded NEW n ≤ 4 * padded OLD n
padded_fourfold n = omega arith

-- a part that may be missing
part_fourfold : {X : Type 0} (f g : X → ℕ) (part : Option X) → ((x : X) → f x ≤ 4 * g x) → option_map_or f part 0 ≤ 4 * option_map_or g part 0
part_fourfold f g None h = omega arith
part_fourfold f g (Some x) h = h x

-- two parts
sum_fourfold : (a b m n : ℕ) → a ≤ 4 * m → b ≤ 4 * n → a + b ≤ 4 * (m + n)
sum_fourfold a b m n h k = omega arith

mutual
  value_fourfold : (schema : Schema) (shape : Shape) (v : Value) → value_size NEW schema shape v ≤ 4 * value_size OLD schema shape v
  value_fourfold schema shape (value.Bool b) = padded_fourfold 1
  value_fourfold schema shape (value.Int n) = padded_fourfold (option_map_or number_bytes (builtin_of shape) 0)
  value_fourfold schema shape (value.Text text) = padded_fourfold _
  value_fourfold schema shape (value.Bytes bytes) = padded_fourfold _
  value_fourfold schema shape (value.Bits bits) = padded_fourfold (option_map_or number_bytes (builtin_of shape) 0)
  value_fourfold schema shape (value.Struct vs) = sum_fourfold _ _ _ _ (padded_fourfold 1) (values_fourfold schema (unwrap_or (fields_of schema shape) []) vs)
  value_fourfold schema shape (Union' index _ v) = sum_fourfold 4 _ 4 _ (omega arith) (part_fourfold _ _ (component_of schema shape index) (λ component. value_fourfold schema component v))
  value_fourfold schema shape (value.Array vs) = sum_fourfold 4 _ 4 _ (omega arith) (part_fourfold _ _ (element_of shape) (λ element. elements_fourfold schema element vs))
  value_fourfold schema shape (Maybe' held) = sum_fourfold _ _ _ _ (padded_fourfold 1) (part_fourfold _ _ (held_by shape) (λ inner. held_fourfold schema inner held))
  value_fourfold schema shape (value.Actor id) = omega arith

  held_fourfold : (schema : Schema) (shape : Shape) (held : Held-Value-Maybe-0) → held_size NEW schema shape held ≤ 4 * held_size OLD schema shape held
  held_fourfold schema shape None' = omega arith
  held_fourfold schema shape (Some' _ v) = value_fourfold schema shape v

  elements_fourfold : (schema : Schema) (shape : Shape) (vs : Values) → elements_size NEW schema shape vs ≤ 4 * elements_size OLD schema shape vs
  elements_fourfold schema shape values.Nothing = omega arith
  elements_fourfold schema shape (First' _ v _ vs) = sum_fourfold _ _ _ _ (value_fourfold schema shape v) (elements_fourfold schema shape vs)

  values_fourfold : (schema : Schema) (fields : List ParamRow) (vs : Values) → values_size NEW schema fields vs ≤ 4 * values_size OLD schema fields vs
  values_fourfold schema [] vs = omega arith
  values_fourfold schema (field ∷ fields) values.Nothing = omega arith
  values_fourfold schema (field ∷ fields) (First' _ v _ vs) = sum_fourfold _ _ _ _ (value_fourfold schema field.shape v) (values_fourfold schema fields vs)

-- the id at the beginning of a constructor's request is equally long in both
made_fourfold : (kind : Kind) → made_size kind ≤ 4 * made_size kind
made_fourfold kind = omega arith

pub body_fourfold : (schema : Schema) (row : Option MessageRow) (body : Body) → body_size NEW schema row body ≤ 4 * body_size OLD schema row body
body_fourfold schema row (Request vs) =
    part_fourfold (request_size NEW schema vs) (request_size OLD schema vs) row (λ r. sum_fourfold _ _ _ _ (made_fourfold r.kind) (values_fourfold schema r.params vs))
body_fourfold schema row (Reply vs) =
    part_fourfold (reply_size NEW schema vs) (reply_size OLD schema vs) row (λ r. values_fourfold schema (unwrap_or r.returns []) vs)
body_fourfold schema row (Fault reason) = padded_fourfold 1
body_fourfold schema row Goodbye = omega arith
