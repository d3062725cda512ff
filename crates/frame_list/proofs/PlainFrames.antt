-- The new frames of messages do not depend on where the boxes of their values are.
use Rattle.std.proofs.Common.{◌≡◌, ◌∙◌, ◌≤◌, ℕ, List, [], ◌∷◌, ◌++◌, Bool, true, false, refl, sym, ap, subst, arith}
use Rattle.std.specs.Prelude.{if◌then◌else◌}
use Rattle.ipdl_base.specs.declared.message.Message.{Message}
use Rattle.ipdl_base.specs.declared.schema.Schema.{Schema}
use Rattle.ipdl_base.specs.Plain.{plain_message}
use Rattle.value_types.specs.declared.layout.TheConstants.{NEW, OLD}
use Rattle.value_types.specs.Laws.{BoxesSayNothing, NewIsAtMostFourTimes}
use Rattle.value_types.specs.Sizes.{payload_size}
use Rattle.value_codec.specs.Decoding.{FrameBegins}
use Rattle.value_codec.proofs.PlainFrames.{frame_plain}
use Rattle.frame_list.specs.declared.list.PlacedMessage.{PlacedMessage}
use Rattle.frame_list.specs.Converted.{new_frame, new_frames}
use Rattle.frame_list.specs.Frames.{all_plain, layout_at, plain_placed}
use Rattle.frame_list.specs.Steps.{HasNewFrame}

pub new_plain : (schema : Schema) (frames : List PlacedMessage) → new_frames schema frames ≡ new_frames schema (all_plain frames)
new_plain schema [] = refl
new_plain schema (f ∷ frames) =
    ap (λ bytes. bytes ++ new_frames schema frames) (sym (frame_plain NEW schema f.message))
    ∙ ap (λ bytes. new_frame schema (plain_placed f) ++ bytes) (new_plain schema frames)

-- A message that bytes begin with has a new frame

at_most : NewIsAtMostFourTimes → (schema : Schema) (m : Message) (marked : Bool)
    → payload_size (if marked then NEW else OLD) schema m ≤ (if marked then NEW else OLD).most_payload → payload_size NEW schema m ≤ 4096
at_most four schema m true h = h
at_most four schema m false h = let more = four schema m in omega arith

pub first_has : BoxesSayNothing → NewIsAtMostFourTimes → (schema : Schema) (bytes : List ℕ) (m : Message) (n : ℕ) → FrameBegins (layout_at bytes) schema bytes (plain_message m) n → HasNewFrame schema m
first_has boxes four schema bytes m n begins =
    let small : payload_size (layout_at bytes) schema m ≤ (layout_at bytes).most_payload = subst (λ size. size ≤ (layout_at bytes).most_payload) (boxes.payload (layout_at bytes) schema m) begins.frame.small in
    ((boxes.fits schema m).0 begins.frame.fits, at_most four schema m _ small)
