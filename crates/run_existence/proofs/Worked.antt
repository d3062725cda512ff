-- Worked cases: files of no bytes and of few, under any schema.
use Rattle.std.proofs.Common.{[], ◌∷◌, None, Some, inl, refl, arith}
use Rattle.ipdl_base.specs.declared.schema.Schema.{Schema}
use Rattle.frame_list.specs.declared.list.FrameListFault.TheVariants.{Short}
use Rattle.frame_list.specs.Frames.{ends, faults}
use Rattle.run_existence.specs.Laws.{HasFrames}

-- a file of no bytes has no frame and no fault
empty_file : (schema : Schema) → HasFrames schema 0 []
empty_file schema = ([], None, ends 0)

-- one byte that is not the beginning of the mark lacks 23 of the 24 bytes of an old header
one_byte : (schema : Schema) → HasFrames schema 0 (7 ∷ [])
one_byte schema = ([], Some (Short 0 23), faults 0 (7 ∷ []) (Short 0 23) (λ e. cc) (refl, inl (omega arith, refl)))
