-- What is written of the frames of a file.
use Rattle.std.specs.Prelude.{◌≡◌, ℕ, List, ◌++◌, Option}
use Rattle.ipdl_base.specs.declared.schema.Schema.{Schema}
use Rattle.frame_list.specs.declared.list.FrameListFault.{FrameListFault}
use Rattle.frame_list.specs.declared.list.PlacedMessage.{PlacedMessage}
use Rattle.frame_list.specs.Frames.{Holds}

-- A text grows by what is written of the frames in the bytes of a file, which are followed by this fault or by
-- nothing.
pub record Tells (written : List PlacedMessage → List ℕ) (schema : Schema) (bytes before after : List ℕ) (fault : Option FrameListFault) : Type 0 where
  pub frames : List PlacedMessage
  pub holds : Holds schema 0 bytes frames fault
  pub text : after ≡ before ++ written frames
