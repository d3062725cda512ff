-- Bytes are one list of frames.
use Rattle.std.proofs.Common.{◌≡◌, ◌∙◌, ℕ, zero, suc, ◌+◌, Bool, true, false, List, [], ◌∷◌, drop, take, Option, Some, inl, refl, sym, ap, subst, arith}
use Rattle.std.specs.Prelude.{if◌then◌else◌}
use Rattle.std.specs.Str.{bytes_eq}
use Rattle.ipdl_base.specs.declared.message.Message.{Message}
use Rattle.ipdl_base.specs.declared.schema.Schema.{Schema}
use Rattle.ipdl_base.specs.Sound.{IsSound}
use Rattle.value_types.specs.declared.layout.TheConstants.{MARK, NEW, OLD}
use Rattle.value_codec.specs.Decoding.{FrameBegins}
use Rattle.value_codec.specs.Frames.{header_size}
use Rattle.value_codec.specs.Laws.{AreBytes, HasLengths, ThreeCases}
use Rattle.value_codec.proofs.Cases.{three_cases}
use Rattle.frame_list.specs.declared.list.FrameListFault.{FrameListFault}
use Rattle.frame_list.specs.declared.list.FrameListFault.TheVariants.{Short, Broken}
use Rattle.frame_list.specs.declared.list.PlacedMessage.{PlacedMessage}
use Rattle.frame_list.specs.Frames.{Holds, ends, faults, frame, IsFault, layout_at, frame_rule, placed_at, all_plain}
use Rattle.schema_laws.specs.Frames.{OneListOfFrames}

pub bytes_after : (n : ℕ) (bytes : List ℕ) → AreBytes bytes → AreBytes (drop n bytes)
bytes_after zero bytes are = are
bytes_after (suc n) [] are = are
bytes_after (suc n) (b ∷ bytes) are = bytes_after n bytes (λ i. are (suc i))

pub lengths : (marked : Bool) → HasLengths (if marked then NEW else OLD)
lengths true = omega arith
lengths false = omega arith

module _ (s : Schema) (sound : IsSound s) where
  pub cases : (bytes : List ℕ) → AreBytes bytes → ThreeCases (layout_at bytes) s bytes
  cases bytes are = three_cases (layout_at bytes) (lengths (bytes_eq (take 4 bytes) MARK)) s sound bytes are

  one_fault : (offset : ℕ) (bytes : List ℕ) → AreBytes bytes → (fault other : FrameListFault) → IsFault s offset bytes fault → IsFault s offset bytes other → fault ≡ other
  one_fault offset bytes are (Short at missing) (Short at' missing') (is, short) (is', short') =
      λ i. Short ((is ∙ sym is') i) ((cases bytes are).one_rest missing missing' short short' i)
  one_fault offset bytes are (Short at missing) (Broken at' rule) (is, short) (within, number, bad, is', by) = absurd ((cases bytes are).short_or_bad missing within number short bad)
  one_fault offset bytes are (Broken at rule) (Short at' missing) (within, number, bad, is, by) (is', short) = absurd ((cases bytes are).short_or_bad missing within number short bad)
  one_fault offset bytes are (Broken at rule) (Broken at' rule') (within, number, bad, is, by) (within', number', bad', is', by') =
      let same = (cases bytes are).one_fault within number within' number' bad bad' in
      λ i. Broken ((is ∙ (λ j. offset + same.0 j) ∙ sym is') i) ((by ∙ (λ j. frame_rule (same.1 j)) ∙ sym by') i)

  no_frame : (offset : ℕ) (bytes : List ℕ) → AreBytes bytes → (fault : FrameListFault) → IsFault s offset bytes fault → (m : Message) (n : ℕ) → FrameBegins (layout_at bytes) s bytes m n → ⊥
  no_frame offset bytes are (Short at missing) (is, short) m n begins = (cases bytes are).frame_or_short m n missing begins short
  no_frame offset bytes are (Broken at rule) (within, number, bad, is, by) m n begins = (cases bytes are).frame_or_bad m n within number begins bad

  none_of_none : AreBytes [] → (m : Message) (n : ℕ) → FrameBegins (layout_at []) s [] m n → ⊥
  none_of_none are m n begins = (cases [] are).frame_or_short m n (header_size (layout_at [])) begins (inl (omega arith, omega arith))

  one_list : (offset : ℕ) (bytes : List ℕ) (frames : List PlacedMessage) (fault : Option FrameListFault) → Holds s offset bytes frames fault → AreBytes bytes
      → (others : List PlacedMessage) (other : Option FrameListFault) → Holds s offset bytes others other → (all_plain frames ≡ all_plain others) × (fault ≡ other)
  one_list _ _ _ _ (ends offset) are _ _ (ends _) = (refl, refl)
  one_list _ _ _ _ (ends offset) are _ _ (faults _ _ fault some is) = absurd (some refl)
  one_list _ _ _ _ (ends offset) are _ _ (frame _ n _ m more fault begins rest) = absurd (none_of_none are m n begins)
  one_list _ _ _ _ (faults offset _ fault some is) are _ _ (ends _) = absurd (some refl)
  one_list _ _ _ _ (faults offset bytes fault some is) are _ _ (faults _ _ other some' is') = (refl, ap Some (one_fault offset bytes are fault other is is'))
  one_list _ _ _ _ (faults offset bytes fault some is) are _ _ (frame _ n _ m more other begins rest) = absurd (no_frame offset bytes are fault is m n begins)
  one_list _ _ _ _ (frame offset n _ m more fault begins rest) are _ _ (ends _) = absurd (none_of_none are m n begins)
  one_list _ _ _ _ (frame offset n bytes m more fault begins rest) are _ _ (faults _ _ other some is) = absurd (no_frame offset bytes are other is m n begins)
  one_list _ _ _ _ (frame offset n bytes m more fault begins rest) are _ _ (frame _ n' _ m' more' other begins' rest') =
      let same = (cases bytes are).one_frame m m' n n' begins begins' in
      let further : Holds s (offset + n) (drop n bytes) more' other = subst (λ k. Holds s (offset + k) (drop k bytes) more' other) (sym same.1) rest' in
      let following = one_list (offset + n) (drop n bytes) more fault rest (bytes_after n bytes are) more' other further in
      ((λ i. placed_at offset (same.0 i) ∷ following.0 i), following.1)

pub one_list_of_frames : OneListOfFrames
one_list_of_frames s sound offset bytes are frames others fault other h k = one_list s sound offset bytes frames fault h are others other k
