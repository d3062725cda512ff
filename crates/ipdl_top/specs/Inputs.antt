-- What a command answers by a file that it reads beside its program, before it does what is its own.
use Rattle.std.specs.Prelude.{◌≡◌, ℕ, ◌≤◌, ◌<◌, ◌⊎◌, List, [], ◌++◌, length, Option, Some, None, codes}
use Rattle.ipdl_top.specs.declared.answer.CommandAnswer.{CommandAnswer}
use Rattle.ipdl_top.specs.declared.status.Status.{Status}

-- The answer by the bytes of a file: one answer if the file is absent, one if it has more than `most` bytes, and else what is
-- said of the bytes.
abbrev pub SaysByFile : CommandAnswer → CommandAnswer → ℕ → (List ℕ → CommandAnswer → Type 0) → Option (List ℕ) → CommandAnswer → Type 0
SaysByFile absent larger most Says None answer = answer ≡ absent
SaysByFile absent larger most Says (Some bytes) answer = ((most < length bytes) × (answer ≡ larger)) ⊎ ((length bytes ≤ most) × Says bytes answer)

-- the answer that an input is not what the command reads, with this status: the text before the fault, and the line of the fault
abbrev pub bad_input_answer : Status → List ℕ → List ℕ → CommandAnswer
bad_input_answer status before line = record { status = status; out = before; err = line }

-- the answers for an input of this name that is absent, and for one that is too large
abbrev pub absent_answer : Status → List ℕ → CommandAnswer
absent_answer status name = bad_input_answer status [] (name ++ codes ":0: absent\n")

abbrev pub larger_answer : Status → List ℕ → CommandAnswer
larger_answer status name = bad_input_answer status [] (name ++ codes ":0: larger\n")

-- the answer by an input of this name and its bytes
abbrev pub SaysByInput : Status → ℕ → (List ℕ → CommandAnswer → Type 0) → List ℕ → Option (List ℕ) → CommandAnswer → Type 0
SaysByInput status most Says name bytes answer = SaysByFile (absent_answer status name) (larger_answer status name) most Says bytes answer
