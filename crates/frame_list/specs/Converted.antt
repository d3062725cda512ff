-- The messages of frames as new frames.
use Rattle.std.specs.Prelude.{ℕ, List}
use Rattle.std.specs.List.{flat_map}
use Rattle.ipdl_base.specs.declared.schema.Schema.{Schema}
use Rattle.value_types.specs.declared.layout.TheConstants.{NEW}
use Rattle.value_codec.specs.Spelling.{frame_bytes}
use Rattle.frame_list.specs.declared.list.PlacedMessage.{PlacedMessage}

-- the one new frame of a message
abbrev pub new_frame : Schema → PlacedMessage → List ℕ
new_frame schema placed = frame_bytes NEW schema placed.message

-- the new frames of messages, one after another
abbrev pub new_frames : Schema → List PlacedMessage → List ℕ
new_frames schema frames = flat_map (new_frame schema) frames
