-- What the code finds and writes at an offset.
use Rattle.std.specs.Prelude.{◌≡◌, ℕ, ◌≤◌, List, ◌++◌}
use Rattle.std.specs.List.{flat_map}
use Rattle.ipdl_base.specs.declared.message.Message.{Message}
use Rattle.ipdl_base.specs.declared.schema.Schema.{Schema}
use Rattle.ipdl_base.specs.Plain.{plain_message}
use Rattle.value_types.specs.declared.layout.TheConstants.{NEW}
use Rattle.value_types.specs.Fits.{Fits}
use Rattle.value_types.specs.Sizes.{payload_size}
use Rattle.value_codec.specs.Decoding.{FrameBegins}
use Rattle.frame_list.specs.declared.list.FrameReading.{FrameReading}
use Rattle.frame_list.specs.declared.list.FrameReading.TheVariants as found
use Rattle.frame_list.specs.declared.list.PlacedMessage.{PlacedMessage}
use Rattle.frame_list.specs.declared.told.Form.{Form}
use Rattle.frame_list.specs.declared.told.Form.TheVariants.{Line, NewFrame}
use Rattle.frame_list.specs.declared.told.Step.{Step}
use Rattle.frame_list.specs.declared.told.Step.TheVariants as step
use Rattle.frame_list.specs.Converted.{new_frame}
use Rattle.frame_list.specs.Frames.{IsFault, layout_at, placed_at}
use Rattle.frame_list.specs.Lines.{frame_line}

abbrev pub IsFound : Schema → ℕ → List ℕ → FrameReading → Type 0
IsFound schema offset bytes (found.Frame message n) = FrameBegins (layout_at bytes) schema bytes (plain_message message) n
IsFound schema offset bytes (found.Fault fault) = IsFault schema offset bytes fault

-- a message has a new frame
abbrev pub HasNewFrame : Schema → Message → Type 0
HasNewFrame schema message = Fits schema message × (payload_size NEW schema message ≤ 4096)

-- what is written for a frame in a form
abbrev pub in_form : Form → Schema → PlacedMessage → List ℕ
in_form Line schema placed = frame_line schema placed
in_form NewFrame schema placed = new_frame schema placed

abbrev pub all_in_form : Form → Schema → List PlacedMessage → List ℕ
all_in_form form schema frames = flat_map (in_form form schema) frames

-- A text grows by a frame in a form; the bytes at an offset begin with that frame.
pub record WritesFrame (form : Form) (schema : Schema) (offset : ℕ) (bytes before after : List ℕ) (size : ℕ) : Type 0 where
  pub message : Message
  pub begins : FrameBegins (layout_at bytes) schema bytes message size
  pub text : after ≡ before ++ in_form form schema (placed_at offset message)

-- what was done with the bytes at an offset
abbrev pub IsStep : Form → Schema → ℕ → List ℕ → List ℕ → List ℕ → Step → Type 0
IsStep form schema offset bytes before after (step.Frame size) = WritesFrame form schema offset bytes before after size
IsStep form schema offset bytes before after (step.Fault fault) = (after ≡ before) × IsFault schema offset bytes fault
