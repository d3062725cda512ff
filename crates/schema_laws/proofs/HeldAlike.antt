-- The frames in bytes do not depend on where the boxes of a schema are.
use Rattle.std.proofs.Common.{◌≡◌, ℕ, ◌+◌, List, drop, Option, subst}
use Rattle.std.proofs.Math.Path.{transport, transport⁻¹}
use Rattle.ipdl_base.specs.declared.schema.Schema.{Schema}
use Rattle.frame_list.specs.declared.list.FrameListFault.{FrameListFault}
use Rattle.frame_list.specs.declared.list.FrameListFault.TheVariants.{Short, Broken}
use Rattle.frame_list.specs.declared.list.PlacedMessage.{PlacedMessage}
use Rattle.frame_list.specs.Frames.{Holds, ends, faults, frame, IsFault, layout_at}
use Rattle.program_schema.specs.Laws.{plain_schema}
use Rattle.schema_laws.proofs.Begun.{short_alike, bad_from, bad_to, begins_from, begins_to}

module _ (s : Schema) where
  fault_from : (offset : ℕ) (bytes : List ℕ) (fault : FrameListFault) → IsFault (plain_schema s) offset bytes fault → IsFault s offset bytes fault
  fault_from offset bytes (Short at missing) (is, short) = (is, transport (short_alike (layout_at bytes) s bytes missing) short)
  fault_from offset bytes (Broken at rule) (within, number, bad, is, by) = (within, number, bad_from (layout_at bytes) s bytes within number bad, is, by)

  fault_to : (offset : ℕ) (bytes : List ℕ) (fault : FrameListFault) → IsFault s offset bytes fault → IsFault (plain_schema s) offset bytes fault
  fault_to offset bytes (Short at missing) (is, short) = (is, transport⁻¹ (short_alike (layout_at bytes) s bytes missing) short)
  fault_to offset bytes (Broken at rule) (within, number, bad, is, by) = (within, number, bad_to (layout_at bytes) s bytes within number bad, is, by)

  holds_from : (offset : ℕ) (bytes : List ℕ) (frames : List PlacedMessage) (fault : Option FrameListFault) → Holds (plain_schema s) offset bytes frames fault → Holds s offset bytes frames fault
  holds_from _ _ _ _ (ends offset) = ends offset
  holds_from _ _ _ _ (faults offset bytes fault some is) = faults offset bytes fault some (fault_from offset bytes fault is)
  holds_from _ _ _ _ (frame offset n bytes m more fault begins rest) = frame offset n bytes m more fault (begins_from (layout_at bytes) s bytes m n begins) (holds_from (offset + n) (drop n bytes) more fault rest)

  holds_to : (offset : ℕ) (bytes : List ℕ) (frames : List PlacedMessage) (fault : Option FrameListFault) → Holds s offset bytes frames fault → Holds (plain_schema s) offset bytes frames fault
  holds_to _ _ _ _ (ends offset) = ends offset
  holds_to _ _ _ _ (faults offset bytes fault some is) = faults offset bytes fault some (fault_to offset bytes fault is)
  holds_to _ _ _ _ (frame offset n bytes m more fault begins rest) = frame offset n bytes m more fault (begins_to (layout_at bytes) s bytes m n begins) (holds_to (offset + n) (drop n bytes) more fault rest)

pub held : (a b : Schema) → plain_schema a ≡ plain_schema b → (offset : ℕ) (bytes : List ℕ) (frames : List PlacedMessage) (fault : Option FrameListFault) → Holds a offset bytes frames fault → Holds b offset bytes frames fault
held a b alike offset bytes frames fault h = holds_from b offset bytes frames fault (subst (λ (s : Schema). Holds s offset bytes frames fault) alike (holds_to a offset bytes frames fault h))
