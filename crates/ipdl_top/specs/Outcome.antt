-- What a call of the program leaves.
use Rattle.std.specs.Prelude.{◌≡◌, ◌⊎◌, List, Option}
use Rattle.ipdl_base.specs.Outside.{FileMap}
use Rattle.file_log.specs.Log.{HasFailedLast, HaveSucceeded, ReadEntry}
use Rattle.ipdl_top.specs.declared.answer.CommandAnswer.{CommandAnswer}
use Rattle.ipdl_top.specs.declared.status.Status.{Status}
use Rattle.ipdl_top.specs.declared.status.Status.TheVariants.{ReadFault, WriteFault, NoMemory}
use Rattle.ipdl_top.specs.FileViews.{FileViews, ForViews}
use Rattle.ipdl_top.specs.Written.{Writing, WritesAll, WritesPrefix}

-- the status is that of an answer, and all of it was written
pub record IsSaid (IsIt : CommandAnswer → Type 0) (status : Status) (out err : Writing) : Type 0 where
  pub answer : CommandAnswer
  pub is : IsIt answer
  pub ends : status ≡ answer.status
  pub written : WritesAll answer out err

-- a write failed, and a prefix of an answer was written
pub record IsBrokenOff (IsIt : CommandAnswer → Type 0) (status : Status) (out err : Writing) : Type 0 where
  pub answer : CommandAnswer
  pub is : IsIt answer
  pub ends : status ≡ WriteFault
  pub written : WritesPrefix answer out err

-- The outcome of a call that has such an answer: it is written whole, or a write failed; or a read failed or memory ran out, and there is no answer.
abbrev pub IsOutcome : (CommandAnswer → Type 0) → Status → Writing → Writing → Type 0
IsOutcome IsIt status out err = IsSaid IsIt status out err ⊎ (IsBrokenOff IsIt status out err ⊎ ((status ≡ ReadFault) ⊎ (status ≡ NoMemory)))

-- The outcome of a call by what its reads gave, for answers to what is seen of the files: for all views that agree with
-- the reads, the answer is written whole, or a write failed; or a read failed or memory ran out, and there is none.
abbrev pub IsOutcomeOfReads : Option FileMap → List ReadEntry → List ReadEntry → (FileViews → CommandAnswer → Type 0) → Status → Writing → Writing → Type 0
IsOutcomeOfReads told old new IsIt status out err =
    ForViews told old new (λ seen. IsSaid (IsIt seen) status out err ⊎ IsBrokenOff (IsIt seen) status out err) ⊎ ((status ≡ ReadFault) ⊎ (status ≡ NoMemory))

-- The status by how the reads of a call ended: ReadFault exactly if a read failed, and then nothing was read after it.
abbrev pub IsStatusOfReads : Status → List ReadEntry → List ReadEntry → Type 0
IsStatusOfReads ReadFault old new = HasFailedLast old new
IsStatusOfReads _ old new = HaveSucceeded old new
