-- A frame in a form does not depend on where the boxes of its values are.
use Rattle.std.proofs.Common.{◌≡◌, sym}
use Rattle.ipdl_base.specs.declared.schema.Schema.{Schema}
use Rattle.value_types.specs.declared.layout.TheConstants.{NEW}
use Rattle.value_types.specs.Laws.{BoxesSayNothing}
use Rattle.value_codec.proofs.PlainFrames.{frame_plain}
use Rattle.frame_list.specs.declared.list.PlacedMessage.{PlacedMessage}
use Rattle.frame_list.specs.declared.told.Form.{Form}
use Rattle.frame_list.specs.declared.told.Form.TheVariants.{Line, NewFrame}
use Rattle.frame_list.specs.Frames.{plain_placed}
use Rattle.frame_list.specs.Steps.{in_form}
use Rattle.frame_list.proofs.PlainLines.{line_plain}

pub form_plain : BoxesSayNothing → (form : Form) (schema : Schema) (f : PlacedMessage) → in_form form schema f ≡ in_form form schema (plain_placed f)
form_plain laws Line schema f = line_plain laws schema f
form_plain laws NewFrame schema f = sym (frame_plain NEW schema f.message)
