-- Bytes as a list of frames.
use Rattle.std.specs.Prelude.{◌≡◌, ◌≢◌, ℕ, ◌+◌, if◌then◌else◌, List, [], ◌∷◌, take, drop, map, Option, Some, None}
use Rattle.std.specs.Str.{bytes_eq}
use Rattle.ipdl_base.specs.declared.finding.Rule.{Rule}
use Rattle.ipdl_base.specs.declared.finding.TheConstants.Rule as rule
use Rattle.ipdl_base.specs.declared.message.Message.{Message}
use Rattle.ipdl_base.specs.declared.schema.Schema.{Schema}
use Rattle.ipdl_base.specs.Plain.{plain_message}
use Rattle.value_types.specs.declared.layout.Layout.{Layout}
use Rattle.value_types.specs.declared.layout.TheConstants.{MARK, NEW, OLD}
use Rattle.value_codec.specs.Decoding.{FrameBegins, FrameFault, IsShort}
use Rattle.frame_list.specs.declared.list.FrameListFault.{FrameListFault}
use Rattle.frame_list.specs.declared.list.FrameListFault.TheVariants.{Short, Broken}
use Rattle.frame_list.specs.declared.list.PlacedMessage.{PlacedMessage}

-- the layout of a frame by its first bytes: the new one where they are the mark
abbrev pub layout_at : List ℕ → Layout
layout_at bytes = if bytes_eq (take 4 bytes) MARK then NEW else OLD

-- the rule on frames of this number: all of them have one letter
abbrev pub frame_rule : ℕ → Rule
frame_rule number = record { letter = (rule.BAD_MARK).letter; number = number }

-- The bytes at this offset of a file are not empty and do not begin with a frame: they are less than one, or break a
-- rule.
abbrev pub IsFault : Schema → ℕ → List ℕ → FrameListFault → Type 0
IsFault schema offset bytes (Short at missing) = (at ≡ offset) × IsShort (layout_at bytes) schema bytes missing
IsFault schema offset bytes (Broken at rule) =
    (within number : ℕ) × FrameFault (layout_at bytes) schema bytes within number × (at ≡ offset + within) × (rule ≡ frame_rule number)

abbrev pub placed_at : ℕ → Message → PlacedMessage
placed_at offset message = record { offset = offset; message = message }

-- The bytes at this offset of a file are the frames of these messages, one after another, followed by nothing, or by
-- bytes that do not begin with a frame.
pub data Holds (schema : Schema) : ℕ → List ℕ → List PlacedMessage → Option FrameListFault → Type 0 where
  ends : (offset : ℕ) → Holds schema offset [] [] None
  faults : (offset : ℕ) (bytes : List ℕ) (fault : FrameListFault) → bytes ≢ [] → IsFault schema offset bytes fault → Holds schema offset bytes [] (Some fault)
  frame : (offset n : ℕ) (bytes : List ℕ) (message : Message) (frames : List PlacedMessage) (fault : Option FrameListFault)
      → FrameBegins (layout_at bytes) schema bytes message n → Holds schema (offset + n) (drop n bytes) frames fault
      → Holds schema offset bytes (placed_at offset message ∷ frames) fault

-- the messages with every box at one place
abbrev pub plain_placed : PlacedMessage → PlacedMessage
plain_placed placed = record placed { message = plain_message placed.message }

abbrev pub all_plain : List PlacedMessage → List PlacedMessage
all_plain frames = map plain_placed frames
