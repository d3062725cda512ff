-- What follows from the definitions, for every schema.
use Rattle.std.specs.Prelude.{◌≡◌, ◌↔◌, ◌*◌, ◌≤◌, List}
use Rattle.ipdl_base.specs.declared.message.Message.{Message}
use Rattle.ipdl_base.specs.declared.schema.ParamRow.{ParamRow}
use Rattle.ipdl_base.specs.declared.schema.Schema.{Schema}
use Rattle.ipdl_base.specs.declared.schema.Shape.{Shape}
use Rattle.ipdl_base.specs.declared.value.Value.{Value}
use Rattle.ipdl_base.specs.declared.value.Values.{Values}
use Rattle.ipdl_base.specs.Plain.{plain, plain_values, plain_shape, plain_message}
use Rattle.value_types.specs.declared.layout.Layout.{Layout}
use Rattle.value_types.specs.declared.layout.TheConstants.{NEW, OLD}
use Rattle.value_types.specs.Fits.{Fits}
use Rattle.value_types.specs.HasType.{HasType, HaveTypes}
use Rattle.value_types.specs.Sizes.{value_size, values_size, payload_size}
use Rattle.value_types.specs.ValueText.{value_text, values_text}

-- It makes no difference where the boxes of values and types are.
pub record BoxesSayNothing : Type 0 where
  pub has_type : (schema : Schema) (shape : Shape) (v : Value) → HasType schema shape (plain v) ↔ HasType schema shape v
  pub have_types : (schema : Schema) (params : List ParamRow) (vs : Values) → HaveTypes schema params (plain_values vs) ↔ HaveTypes schema params vs
  pub fits : (schema : Schema) (message : Message) → Fits schema (plain_message message) ↔ Fits schema message
  pub size : (layout : Layout) (schema : Schema) (shape : Shape) (v : Value) → value_size layout schema shape (plain v) ≡ value_size layout schema shape v
  pub sizes : (layout : Layout) (schema : Schema) (params : List ParamRow) (vs : Values) → values_size layout schema params (plain_values vs) ≡ values_size layout schema params vs
  pub payload : (layout : Layout) (schema : Schema) (message : Message) → payload_size layout schema (plain_message message) ≡ payload_size layout schema message
  pub text : (schema : Schema) (shape : Shape) (v : Value) → value_text schema shape (plain v) ≡ value_text schema shape v
  pub texts : (schema : Schema) (params : List ParamRow) (vs : Values) → values_text schema params (plain_values vs) ≡ values_text schema params vs
  pub type_has : (schema : Schema) (shape : Shape) (v : Value) → HasType schema (plain_shape shape) v ↔ HasType schema shape v
  pub type_size : (layout : Layout) (schema : Schema) (shape : Shape) (v : Value) → value_size layout schema (plain_shape shape) v ≡ value_size layout schema shape v
  pub type_text : (schema : Schema) (shape : Shape) (v : Value) → value_text schema (plain_shape shape) v ≡ value_text schema shape v

-- A payload takes at most four times as many bytes in the new layout as in the old one.
abbrev pub NewIsAtMostFourTimes : Type 0
NewIsAtMostFourTimes = (schema : Schema) (message : Message) → payload_size NEW schema message ≤ 4 * payload_size OLD schema message
