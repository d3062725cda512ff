-- Laws of lists of frames, for every schema and all bytes.
use Rattle.std.specs.Prelude.{◌≡◌, ℕ, List, Option}
use Rattle.ipdl_base.specs.declared.schema.Schema.{Schema}
use Rattle.ipdl_base.specs.Sound.{IsSound}
use Rattle.value_codec.specs.Laws.{AreBytes}
use Rattle.frame_list.specs.declared.list.FrameListFault.{FrameListFault}
use Rattle.frame_list.specs.declared.list.PlacedMessage.{PlacedMessage}
use Rattle.frame_list.specs.Converted.{new_frames}
use Rattle.frame_list.specs.Frames.{Holds, all_plain}
use Rattle.frame_list.specs.Lines.{frames_lines}
use Rattle.program_schema.specs.Laws.{plain_schema}

-- two schemas are the same, except for where the boxes of their types are
abbrev pub AreSchemasAlike : Schema → Schema → Type 0
AreSchemasAlike a b = plain_schema a ≡ plain_schema b

-- Under such schemas bytes are the same frames, which have the same lines and the same new frames.
pub record FramesAlike : Type 0 where
  pub held : (a b : Schema) → AreSchemasAlike a b → (offset : ℕ) (bytes : List ℕ) (frames : List PlacedMessage) (fault : Option FrameListFault) → Holds a offset bytes frames fault → Holds b offset bytes frames fault
  pub lines : (a b : Schema) → AreSchemasAlike a b → (frames : List PlacedMessage) → frames_lines a frames ≡ frames_lines b frames
  pub anew : (a b : Schema) → AreSchemasAlike a b → (frames : List PlacedMessage) → new_frames a frames ≡ new_frames b frames

-- Bytes at an offset are at most one list of frames, except for where the boxes of messages are, followed by one
-- fault or by none.
abbrev pub OneListOfFrames : Type 0
OneListOfFrames =
    (schema : Schema) → IsSound schema → (offset : ℕ) (bytes : List ℕ) → AreBytes bytes → (frames others : List PlacedMessage) (fault other : Option FrameListFault)
    → Holds schema offset bytes frames fault → Holds schema offset bytes others other → (all_plain frames ≡ all_plain others) × (fault ≡ other)

-- Under two such schemas bytes have the same lines, the same new frames and the same fault, whichever list of frames
-- these are taken from.
abbrev pub OneText : Type 0
OneText =
    (a b : Schema) → AreSchemasAlike a b → IsSound a → (offset : ℕ) (bytes : List ℕ) → AreBytes bytes → (frames others : List PlacedMessage) (fault other : Option FrameListFault)
    → Holds a offset bytes frames fault → Holds b offset bytes others other
    → (frames_lines a frames ≡ frames_lines b others) × (new_frames a frames ≡ new_frames b others) × (fault ≡ other)
