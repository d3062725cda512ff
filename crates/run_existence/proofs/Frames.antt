-- Bytes are frames, followed by nothing or by a fault.
use Rattle.std.proofs.Common.{ℕ, zero, suc, ◌+◌, ◌<◌, ◌≤◌, List, [], ◌∷◌, length, drop, take, Some, None, inl, inr, refl, arith, length-drop, le_refl}
use Rattle.std.proofs.lemmas.List.{length-take-le}
use Rattle.ipdl_base.specs.declared.message.Message.{Message}
use Rattle.ipdl_base.specs.declared.schema.Schema.{Schema}
use Rattle.ipdl_base.specs.Sound.{IsSound}
use Rattle.value_types.specs.declared.layout.Layout.{Layout}
use Rattle.value_codec.specs.Decoding.{FrameBegins}
use Rattle.value_codec.specs.Laws.{AreBytes, SomeBegins}
use Rattle.value_codec.proofs.Cases.{one_spelling}
use Rattle.frame_list.specs.declared.list.FrameListFault.TheVariants.{Short, Broken}
use Rattle.frame_list.specs.Frames.{ends, faults, frame, frame_rule, layout_at, placed_at}
use Rattle.schema_laws.proofs.OneList.{bytes_after, cases}
use Rattle.run_existence.specs.Laws.{HasFrames, BytesHaveFrames}

-- a frame has bytes
some_bytes : (layout : Layout) (schema : Schema) (bytes : List ℕ) (message : Message) (n : ℕ) → FrameBegins layout schema bytes message n → 0 < n
some_bytes layout schema bytes message n begins =
    let long = one_spelling.size layout schema message (take n bytes) begins.frame in
    let within = length-take-le n bytes begins.within in
    omega (arith, long, within)

module _ (schema : Schema) (sound : IsSound schema) where
  has_frames : (fuel offset : ℕ) (bytes : List ℕ) → AreBytes bytes → length bytes ≤ fuel → HasFrames schema offset bytes
  has_frames fuel offset [] are few = ([], None, ends offset)
  has_frames zero offset (b ∷ bs) are few = absurd (omega arith)
  has_frames (suc fuel) offset (b ∷ bs) are few = by (λ after rest fits less. has_frames fuel after rest fits less) (cases schema sound (b ∷ bs) are).some
    where
      by : ((after : ℕ) (rest : List ℕ) → AreBytes rest → length rest ≤ fuel → HasFrames schema after rest) → SomeBegins (layout_at (b ∷ bs)) schema (b ∷ bs) → HasFrames schema offset (b ∷ bs)
      by more (inl (message, n, begins)) =
          let some = some_bytes (layout_at (b ∷ bs)) schema (b ∷ bs) message n begins in
          let less = length-drop n (b ∷ bs) in
          let rest = more (offset + n) (drop n (b ∷ bs)) (bytes_after n (b ∷ bs) are) (omega arith) in
          (placed_at offset message ∷ rest.0, rest.1, frame offset n (b ∷ bs) message rest.0 rest.1 begins rest.2)
      by more (inr (inl (missing, short))) = ([], Some (Short offset missing), faults offset (b ∷ bs) (Short offset missing) (λ e. cc) (refl, short))
      by more (inr (inr (within, rule, bad))) =
          ([], Some (Broken (offset + within) (frame_rule rule)), faults offset (b ∷ bs) (Broken (offset + within) (frame_rule rule)) (λ e. cc) (within, rule, bad, refl, refl))

pub bytes_have_frames : BytesHaveFrames
bytes_have_frames schema sound offset bytes are = has_frames schema sound (length bytes) offset bytes are (le_refl (length bytes))
