-- Lists of frames, one frame at a time.
use Rattle.std.proofs.Common.{◌≡◌, ◌≢◌, ◌∙◌, ℕ, ◌+◌, List, [], ◌∷◌, ◌++◌, length, drop, Option, Some, None, arith, sym, ap, subst, refl, append-nil, append_assoc}
use Rattle.std.proofs.lemmas.List.{flat_map_more, length-drop}
use Rattle.ipdl_base.specs.declared.schema.Schema.{Schema}
use Rattle.frame_list.specs.declared.list.FrameListFault.{FrameListFault}
use Rattle.frame_list.specs.declared.list.PlacedMessage.{PlacedMessage}
use Rattle.frame_list.specs.declared.told.Form.{Form}
use Rattle.frame_list.specs.Frames.{Holds, ends, faults, frame, IsFault, placed_at}
use Rattle.frame_list.specs.Steps.{WritesFrame, all_in_form, in_form}
use Rattle.frame_list.specs.FramesTold.{Tells}

-- What has been found in the bytes so far, and written after a text: what is left, from this offset on, completes the
-- frames of the bytes.
pub record IsCome (form : Form) (schema : Schema) (bytes before : List ℕ) (offset : ℕ) (rest after : List ℕ) : Type 0 where
  pub reached : offset + length rest ≡ length bytes
  pub frames : List PlacedMessage
  pub comes : (more : List PlacedMessage) (fault : Option FrameListFault) → Holds schema offset rest more fault → Holds schema 0 bytes (frames ++ more) fault
  pub text : after ≡ before ++ all_in_form form schema frames

pub begins : (form : Form) (schema : Schema) (bytes before : List ℕ) → IsCome form schema bytes before 0 bytes before
begins form schema bytes before = record { reached = omega arith; frames = []; comes = λ more fault h. h; text = sym (append-nil before) }

-- one frame more
pub goes_on : (form : Form) (schema : Schema) (bytes before : List ℕ) (offset : ℕ) (rest text after : List ℕ) (n : ℕ)
    → IsCome form schema bytes before offset rest text → WritesFrame form schema offset rest text after n
    → IsCome form schema bytes before (offset + n) (drop n rest) after
goes_on form schema bytes before offset rest text after n come it =
    let last : PlacedMessage = placed_at offset it.message in
    record {
      reached = omega (arith, come.reached, length-drop n rest, it.begins.within);
      frames = come.frames ++ last ∷ [];
      comes = λ more fault h. subst (λ (fs : List PlacedMessage). Holds schema 0 bytes fs fault) (sym (append_assoc come.frames (last ∷ []) more))
          (come.comes (last ∷ more) fault (frame offset n rest it.message more fault it.begins h));
      text = it.text ∙ ap (λ (t : List ℕ). t ++ in_form form schema last) come.text ∙ flat_map_more (in_form form schema) before come.frames last;
    }

tells : (form : Form) (schema : Schema) (bytes before : List ℕ) (offset : ℕ) (rest text after : List ℕ) (fault : Option FrameListFault)
    → IsCome form schema bytes before offset rest text → after ≡ text → Holds schema offset rest [] fault → Tells (all_in_form form schema) schema bytes before after fault
tells form schema bytes before offset rest text after fault come same last = record {
  frames = come.frames;
  holds = subst (λ (fs : List PlacedMessage). Holds schema 0 bytes fs fault) (append-nil come.frames) (come.comes [] fault last);
  text = same ∙ come.text;
}

-- nothing is left
pub all_found : (form : Form) (schema : Schema) (bytes before : List ℕ) (offset : ℕ) (rest text : List ℕ) → IsCome form schema bytes before offset rest text → rest ≡ [] → Tells (all_in_form form schema) schema bytes before text None
all_found form schema bytes before offset rest text come e =
    tells form schema bytes before offset rest text text None come refl (subst (λ (bs : List ℕ). Holds schema offset bs [] None) (sym e) (ends offset))

-- what is left is no frame
pub fault_found : (form : Form) (schema : Schema) (bytes before : List ℕ) (offset : ℕ) (rest text after : List ℕ) (fault : FrameListFault)
    → IsCome form schema bytes before offset rest text → rest ≢ [] → (after ≡ text) × IsFault schema offset rest fault → Tells (all_in_form form schema) schema bytes before after (Some fault)
fault_found form schema bytes before offset rest text after fault come some it =
    tells form schema bytes before offset rest text after (Some fault) come it.0 (faults offset rest fault some it.1)
