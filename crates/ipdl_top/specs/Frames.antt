-- What the command that prints frames says of a schema.
use Rattle.std.specs.Prelude.{◌≡◌, ℕ, Bool, if◌then◌else◌, List, [], Option, Some, None}
use Rattle.ipdl_base.specs.declared.files.TheConstants.{MOST_BYTES}
use Rattle.ipdl_base.specs.declared.schema.Schema.{Schema}
use Rattle.ipdl_base.specs.Sound.{IsSound}
use Rattle.value_codec.specs.Laws.{AreBytes}
use Rattle.frame_list.specs.declared.list.FrameListFault.{FrameListFault}
use Rattle.frame_list.specs.declared.list.PlacedMessage.{PlacedMessage}
use Rattle.frame_list.specs.Converted.{new_frames}
use Rattle.frame_list.specs.Frames.{Holds}
use Rattle.frame_list.specs.Lines.{fault_line, frames_lines}
use Rattle.ipdl_top.specs.declared.answer.CommandAnswer.{CommandAnswer}
use Rattle.ipdl_top.specs.declared.status.Status.TheVariants.{Done, BadFrames}
use Rattle.ipdl_top.specs.Inputs.{SaysByInput, bad_input_answer}

-- the lines of frames, or the same messages in new frames
abbrev pub frames_out : Bool → Schema → List PlacedMessage → List ℕ
frames_out convert schema frames = if convert then new_frames schema frames else frames_lines schema frames

-- the answer for a file of this name, by the text of its frames and the fault after them, if there is one
abbrev pub frames_answer : List ℕ → List ℕ → Option FrameListFault → CommandAnswer
frames_answer name out None = record { status = Done; out = out; err = [] }
frames_answer name out (Some fault) = bad_input_answer BadFrames out (fault_line name fault)

-- the answer is that for the frames that the bytes contain under the sound schema
pub record SaysBytes (name : List ℕ) (convert : Bool) (bytes : List ℕ) (schema : Schema) (answer : CommandAnswer) : Type 0 where
  pub sound : IsSound schema
  pub are_bytes : AreBytes bytes
  pub frames : List PlacedMessage
  pub fault : Option FrameListFault
  pub holds : Holds schema 0 bytes frames fault
  pub says : answer ≡ frames_answer name (frames_out convert schema frames) fault

-- The answer is that for a file of frames of this name and its bytes.
abbrev pub SaysFrames : List ℕ → Bool → Option (List ℕ) → Schema → CommandAnswer → Type 0
SaysFrames name convert bytes schema = SaysByInput BadFrames MOST_BYTES (λ bytes. SaysBytes name convert bytes schema) name bytes
