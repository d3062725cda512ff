-- What follows from the definitions, for all files and words.
use Rattle.std.specs.Prelude.{◌≡◌, ◌≢◌, ℕ, List, Option, None}
use Rattle.command_words.specs.Relay.{IsRelay, RelayCourse}
use Rattle.command_words.specs.Run.{Course, IsChart, IsRun}
use Rattle.ipdl_top.specs.declared.answer.CommandAnswer.{CommandAnswer}
use Rattle.ipdl_top.specs.CommandAnswer.{IsAnswer}
use Rattle.ipdl_top.specs.FileViews.{FileViews}
use Rattle.ipdl_top.specs.Relay.{Relaying}
use Rattle.ipdl_top.specs.Run.{Driving}
use Rattle.ipdl_top.specs.declared.status.Status.TheVariants.{Spent}

-- The words leave the answer to no driver: if they run a script, to print or to draw its history, they give a word of turns; and
-- if they run one over two queues, the answer is not that a side is spent.
abbrev pub LeavesNothing : List (List ℕ) → CommandAnswer → Type 0
LeavesNothing words answer =
    ((list : Option (List ℕ)) (path : List (List ℕ)) (course : Course) (script file : List ℕ) → IsRun words list path course script file → course.schedule ≢ None)
    × ((list : Option (List ℕ)) (path : List (List ℕ)) (course : RelayCourse) (script file : List ℕ) → IsRelay words list path course script file → answer.status ≢ Spent)
    × ((list : Option (List ℕ)) (path : List (List ℕ)) (course : Course) (script file : List ℕ) → IsChart words list path course script file → course.schedule ≢ None)

-- Such words have no other answer with the same files: one status, one text for `out` and one for `err`.
abbrev pub OneAnswer : Driving → Relaying → Type 0
OneAnswer Gives Relays =
    (seen : FileViews) (words : List (List ℕ)) (one other : CommandAnswer) → LeavesNothing words one → IsAnswer Gives Relays seen words one → IsAnswer Gives Relays seen words other → one ≡ other
