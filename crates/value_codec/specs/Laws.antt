-- Laws of frames, for every schema, every message and all bytes.
use Rattle.std.specs.Prelude.{◌≡◌, ℕ, ◌+◌, ◌^◌, ◌<◌, ◌⊎◌, List, ◌++◌, length, slice_index}
use Rattle.ipdl_base.specs.declared.message.Message.{Message}
use Rattle.ipdl_base.specs.declared.schema.Schema.{Schema}
use Rattle.ipdl_base.specs.Plain.{plain_message}
use Rattle.ipdl_base.specs.Sound.{IsSound}
use Rattle.value_types.specs.declared.layout.Layout.{Layout}
use Rattle.value_types.specs.declared.layout.TheConstants.{NEW, OLD}
use Rattle.value_types.specs.Sizes.{payload_size}
use Rattle.value_codec.specs.declared.decoding.DecodeResult.TheVariants.{Frame}
use Rattle.value_codec.specs.Decoding.{begins, FrameBegins, IsShort, FrameFault}
use Rattle.value_codec.specs.Frames.{header_size}
use Rattle.value_codec.specs.Spelling.{frame_bytes, FrameOf}

-- each element is a byte
abbrev pub AreBytes : List ℕ → Type 0
AreBytes bytes = (i : ℕ) → slice_index bytes i < 256

-- the length of a payload fits in four bytes
abbrev pub HasLengths : Layout → Type 0
HasLengths layout = layout.most_payload < 2 ^ 32

-- A message has at most one frame, and the frame is as long as the sizes give.
pub record OneSpelling : Type 0 where
  pub one : (layout : Layout) (schema : Schema) (message : Message) (a b : List ℕ) → FrameOf layout schema message a → FrameOf layout schema message b → a ≡ b
  pub size : (layout : Layout) (schema : Schema) (message : Message) (frame : List ℕ) → FrameOf layout schema message frame → length frame ≡ header_size layout + payload_size layout schema message

-- What is spelled is read again, whatever bytes follow.
abbrev pub ReadAgain : Type 0
ReadAgain =
    (layout : Layout) → HasLengths layout → (schema : Schema) → IsSound schema → (message : Message) (frame rest : List ℕ) → AreBytes frame → FrameOf layout schema message frame
    → begins layout schema (frame ++ rest) ≡ Frame (plain_message message) (length frame)

-- the bytes begin with a frame, or they are short, or they are bad
abbrev pub SomeBegins : Layout → Schema → List ℕ → Type 0
SomeBegins layout schema bytes =
    ((message : Message) × (n : ℕ) × FrameBegins layout schema bytes message n)
    ⊎ ((n : ℕ) × IsShort layout schema bytes n)
    ⊎ ((offset : ℕ) × (rule : ℕ) × FrameFault layout schema bytes offset rule)

-- Exactly one of the three holds of bytes, and in one way.
pub record ThreeCases (layout : Layout) (schema : Schema) (bytes : List ℕ) : Type 0 where
  pub some : SomeBegins layout schema bytes
  pub frame_or_short : (message : Message) (n rest : ℕ) → FrameBegins layout schema bytes message n → ¬ IsShort layout schema bytes rest
  pub frame_or_bad : (message : Message) (n offset rule : ℕ) → FrameBegins layout schema bytes message n → ¬ FrameFault layout schema bytes offset rule
  pub short_or_bad : (rest offset rule : ℕ) → IsShort layout schema bytes rest → ¬ FrameFault layout schema bytes offset rule
  pub one_frame : (a b : Message) (m n : ℕ) → FrameBegins layout schema bytes a m → FrameBegins layout schema bytes b n → (plain_message a ≡ plain_message b) × (m ≡ n)
  pub one_rest : (m n : ℕ) → IsShort layout schema bytes m → IsShort layout schema bytes n → m ≡ n
  pub one_fault : (offset rule offset' rule' : ℕ) → FrameFault layout schema bytes offset rule → FrameFault layout schema bytes offset' rule' → (offset ≡ offset') × (rule ≡ rule')

abbrev pub OneOfThreeBegins : Type 0
OneOfThreeBegins = (layout : Layout) → HasLengths layout → (schema : Schema) → IsSound schema → (bytes : List ℕ) → AreBytes bytes → ThreeCases layout schema bytes

-- The message of an old frame has a new frame.
abbrev pub OldHasNew : Type 0
OldHasNew = (schema : Schema) (message : Message) (frame : List ℕ) → FrameOf OLD schema message frame → FrameOf NEW schema message (frame_bytes NEW schema message)

-- A message has the same frame wherever the boxes of its values are.
abbrev pub FramesLookAtNoBox : Type 0
FramesLookAtNoBox = (layout : Layout) (schema : Schema) (message : Message) → frame_bytes layout schema (plain_message message) ≡ frame_bytes layout schema message
