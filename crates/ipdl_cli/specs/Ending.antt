-- How the process ends.
use Rattle.std.specs.Prelude.{◌≡◌, ◌⊎◌, ℕ, List, [], Option, Some, None}
use Rattle.ipdl_base.specs.Outside.{FileMap}
use Rattle.file_log.specs.Log.{ReadEntry}
use Rattle.ipdl_top.specs.Codes.{code_of}
use Rattle.ipdl_top.specs.CommandAnswer.{IsAnswer}
use Rattle.ipdl_top.specs.FileViews.{FileViews}
use Rattle.ipdl_top.specs.Outcome.{IsOutcome, IsOutcomeOfReads, IsStatusOfReads}
use Rattle.ipdl_top.specs.Written.{Writing}
use Rattle.ipdl_top.specs.declared.answer.CommandAnswer.{CommandAnswer}
use Rattle.ipdl_top.specs.declared.status.Status.{Status}
use Rattle.ipdl_top.specs.declared.status.Status.TheVariants.{ReadFault, NoMemory}
use Rattle.thread_link.specs.Runs.{RunsAtOnce}
use Rattle.world_core.specs.Relaying.{IsRelayed}

-- the number is that of a status
abbrev pub IsCode : ℕ → Type 0
IsCode code = (status : Status) × (code ≡ code_of status)

-- The process ends with the number of a status. A call with such an answer may end with that status and with what was
-- written.
pub record EndsWith (IsIt : CommandAnswer → Type 0) (code : ℕ) (out err : Writing) : Type 0 where
  pub status : Status
  pub outcome : IsOutcome IsIt status out err
  pub ends : code ≡ code_of status

-- The process ends with the number of a status. A call that has such answers to what it sees of the files may end with that
-- status, by what its reads gave, and with what was written.
pub record EndsByReads (told : Option FileMap) (old new : List ReadEntry) (IsIt : FileViews → CommandAnswer → Type 0) (code : ℕ) (out err : Writing) : Type 0 where
  pub status : Status
  pub outcome : IsOutcomeOfReads told old new IsIt status out err
  pub reads : IsStatusOfReads status old new
  pub ends : code ≡ code_of status

-- What a process gets from outside and leaves there: its words, what its reads gave, its exit code, and the bytes that it
-- wrote to standard output and to standard error.
pub record Process : Type 0 where
  pub words : List (List ℕ)
  pub reads : List ReadEntry
  pub code : ℕ
  pub out : List ℕ
  pub err : List ℕ

-- these bytes were written, and nothing before them
abbrev pub only_written : List ℕ → Writing
only_written bytes = record { old = Some []; new = Some bytes }

-- an answer to these words, where runs are those of two threads and relays are those of two queues
abbrev pub IsAnswerTo : List (List ℕ) → FileViews → CommandAnswer → Type 0
IsAnswerTo words seen answer = IsAnswer RunsAtOnce (λ before. IsRelayed before.setting) seen words answer

-- The process answers its words by what its reads gave. For all views of the files that agree with them, the exit code is
-- that of the answer, and all of the answer was written, or a write failed after a prefix of it. Or the last read failed,
-- or memory ran out, and nothing was written.
pub record AnswersByReads (process : Process) : Type 0 where
  pub status : Status
  pub outcome : IsOutcomeOfReads None [] process.reads (IsAnswerTo process.words) status (only_written process.out) (only_written process.err)
  pub reads : IsStatusOfReads status [] process.reads
  pub nothing : (status ≡ ReadFault) ⊎ (status ≡ NoMemory) → (process.out ≡ []) × (process.err ≡ [])
  pub ends : process.code ≡ code_of status
