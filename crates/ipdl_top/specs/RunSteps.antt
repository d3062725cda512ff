-- What the steps of a run make.
use Rattle.std.specs.Prelude.{List, Option, Some, None}
use Rattle.std.specs.Option.{option_copied}
use Rattle.command_words.specs.Run.{Course}
use Rattle.schedules.specs.declared.turn.Turn.{Turn}
use Rattle.world_core.specs.declared.answers.RunAnswer.{RunAnswer}
use Rattle.world_core.specs.Turns.{GivesUnless, WordGives}
use Rattle.world_core.specs.WorldView.{WorldView}
use Rattle.ipdl_top.specs.declared.run.RunRequest.{RunRequest}
use Rattle.ipdl_top.specs.Run.{Driving}

-- how the run of a request goes
abbrev pub course_of : RunRequest → Course
course_of request = record { schedule = option_copied request.schedule; limit = request.limit; death = request.death }

-- how a run is made, as far as a driver says so where memory ran out
abbrev pub IsMadeUnless : Driving → Option (List Turn) → WorldView → WorldView → RunAnswer → Type 0
IsMadeUnless Gives None before after answer = GivesUnless Gives before after answer
IsMadeUnless Gives (Some word) before after answer = WordGives before word answer after
