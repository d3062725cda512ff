-- What a feed has read of its bytes.
use Rattle.std.specs.Prelude.{ℕ, ◌≤◌, List, [], ◌∷◌, ◌++◌, length, take}
use Rattle.ipdl_base.specs.declared.message.Message.{Message}
use Rattle.ipdl_base.specs.declared.schema.Schema.{Schema}
use Rattle.value_types.specs.declared.layout.TheConstants.{NEW}
use Rattle.value_codec.specs.Spelling.{FrameOf}
use Rattle.channel_model.specs.Ends.{Packet, message, mark}
use Rattle.feed_runs.specs.FeedTurns.{FeedState}

-- Bytes are the frames of the messages among packets, in order. A mark has none.
pub data AreFrames (schema : Schema) : List ℕ → List Packet → Type 0 where
  none : AreFrames schema [] []
  adds : (bytes : List ℕ) (packets : List Packet) (m : Message) (frame : List ℕ) → AreFrames schema bytes packets → FrameOf NEW schema m frame → AreFrames schema (bytes ++ frame) (packets ++ message m ∷ [])
  ends : (bytes : List ℕ) (packets : List Packet) → AreFrames schema bytes packets → AreFrames schema bytes (packets ++ mark ∷ [])

-- The bytes up to the place of a state are the frames of what was delivered.
pub record HasReadFrames (schema : Schema) (bytes : List ℕ) (state : FeedState) : Type 0 where
  pub within : state.place ≤ length bytes
  pub frames : AreFrames schema (take state.place bytes) state.half.delivered
