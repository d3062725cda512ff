-- A worked history, and that it meets the premises of the theorem of each law: both ends call at once, all is answered,
-- and the parent closes.
use Rattle.std.proofs.Common.{◌≡◌, ◌++◌, pos, negsuc, true, List, [], ◌∷◌, drop, length, take, Some, None, refl}
use Rattle.ipdl_base.specs.declared.kinds.Destroy.TheVariants.{NormalShutdown}
use Rattle.ipdl_base.specs.declared.kinds.Side.TheVariants as side
use Rattle.ipdl_base.specs.declared.line.Line.{Line}
use Rattle.ipdl_base.specs.declared.line.What.{What}
use Rattle.ipdl_base.specs.declared.line.What.TheVariants as what
use Rattle.ipdl_base.specs.declared.value.Values.TheVariants.{Nothing}
use Rattle.history.specs.Messages.{message_of_number}
use Rattle.history_reading.specs.declared.law.Law.{Law}
use Rattle.history_reading.specs.declared.law.Law.TheVariants as law
use Rattle.history_reading.specs.Holds.{IsReadable, Holds}
use Rattle.history_reading.specs.Reading.{read}
use Rattle.channel_model.specs.Ends.{Packet, end_of, link_to, opening}
use Rattle.channel_model.specs.Events.{Move}
use Rattle.channel_model.specs.Events as event
use Rattle.channel_model.specs.Outputs.{line_at}
use Rattle.channel_model.specs.Refusals.{packet_refusal}
use Rattle.channel_model.specs.Runs.{run, history_of}
use Rattle.channel_laws.specs.BoundedRuns.{IsBoundedRun}
use Rattle.channel_laws.specs.Laws.{world_of}
use Rattle.channel_laws.specs.PrintedNames.{finds_names}
use Rattle.channel_laws.specs.ReadingLaws.{WorldIsRead}
use Rattle.channel_laws.proofs.AllLaws.{histories_obey_all_laws}
use Rattle.channel_laws.proofs.BoundedRuns.{histories_are_bounded}
use Rattle.channel_laws.proofs.FallenRuns.{histories_obey_fallen}
use Rattle.channel_laws.proofs.HonestRuns.{honest_packets_are_accepted}
use Rattle.channel_laws.proofs.LivingRuns.{histories_obey_living}
use Rattle.channel_laws.proofs.PrefixRuns.{histories_obey_prefix}
use Rattle.channel_laws.proofs.PrintedNames.{lines_name_what_is_printed}
use Rattle.channel_laws.proofs.Readable.{histories_are_readable}
use Rattle.channel_laws.proofs.SettledRuns.{histories_obey_settled}
use Rattle.channel_laws.proofs.WaitLaw.{histories_obey_waits}
use Rattle.channel_laws.proofs.Worked.{parent, child, top, at_once, answers}
use Rattle.channel_laws.proofs.WorldReading.{reading_is_world}
use Rattle.channel_laws.proofs.WorkedSchema.{calling, calling_is_sound, ask, tell}

abbrev moves : List Move
moves = (at_once ++ answers) ++ (parent event.close ∷ child event.deliver ∷ child event.take ∷ [])

abbrev at_parent : What → Line
at_parent said = line_at side.Parent said

abbrev at_child : What → Line
at_child said = line_at side.Child said

abbrev lines : List Line
lines =
    at_parent (what.Call (pos 1) (pos 1) top tell Nothing)
    ∷ at_child (what.Call (negsuc 0) (negsuc 0) top ask Nothing)
    ∷ at_child (what.DeliverRequest (pos 1))
    ∷ at_child (what.Take (pos 1) top tell Nothing)
    ∷ at_child (what.Return (pos 1))
    ∷ at_child (what.AnswerOk (pos 1) Nothing)
    ∷ at_parent (what.DeliverRequest (negsuc 0))
    ∷ at_parent (what.DeliverReply (pos 1))
    ∷ at_parent (what.ResumeOk (pos 1) Nothing)
    ∷ at_parent (what.Take (negsuc 0) top ask Nothing)
    ∷ at_parent (what.Return (negsuc 0))
    ∷ at_parent (what.AnswerOk (negsuc 0) Nothing)
    ∷ at_child (what.DeliverReply (negsuc 0))
    ∷ at_child (what.ResumeOk (negsuc 0) Nothing)
    ∷ at_parent what.Close
    ∷ at_parent (what.Fall top NormalShutdown)
    ∷ at_child what.DeliverGoodbye
    ∷ at_child what.ShutNormal
    ∷ at_child (what.Fall top NormalShutdown) ∷ []

history_is : history_of calling 0 moves ≡ lines
history_is = refl

can_be_read : IsReadable calling lines
can_be_read = histories_are_readable calling calling_is_sound 0 moves

obeys_prefix : Holds law.Prefix calling lines
obeys_prefix = histories_obey_prefix calling calling_is_sound 0 moves

obeys_living : Holds law.Living calling lines
obeys_living = histories_obey_living calling calling_is_sound 0 moves

obeys_waits : Holds law.Waits calling lines
obeys_waits = histories_obey_waits calling calling_is_sound 0 moves

obeys_settled : Holds law.Settled calling lines
obeys_settled = histories_obey_settled calling calling_is_sound 0 moves

obeys_fallen : Holds law.Fallen calling lines
obeys_fallen = histories_obey_fallen calling calling_is_sound 0 moves

-- The parent's call continues: the text of that line finds the message of the call by its number.

noted_is : message_of_number side.Parent (take 8 lines) (pos 1) ≡ Some tell
noted_is = refl

finds_its_call : finds_names calling (message_of_number side.Parent (take 8 lines)) (what.ResumeOk (pos 1) Nothing) ≡ true
finds_its_call = lines_name_what_is_printed calling calling_is_sound 0 moves (take 8 lines) (at_parent (what.ResumeOk (pos 1) Nothing)) (drop 9 lines) refl

-- The theorems on both ends, of the same run.

obeys_all : (l : Law) → Holds l calling lines
obeys_all = histories_obey_all_laws calling calling_is_sound 0 moves

reading_is : WorldIsRead calling (run calling moves (opening 0)).world (read calling lines)
reading_is = reading_is_world calling calling_is_sound 0 moves

is_bounded : IsBoundedRun side.Parent (run calling moves (opening 0))
is_bounded = histories_are_bounded calling calling_is_sound 0 moves side.Parent

-- After the parent's call its request comes to the child, which accepts it.

one_comes : length (link_to side.Child (world_of calling 0 (take 1 moves))) ≡ 1
one_comes = refl

first_is_accepted : (packet : Packet) (rest : List Packet) → link_to side.Child (world_of calling 0 (take 1 moves)) ≡ packet ∷ rest
    → packet_refusal calling (end_of side.Child (world_of calling 0 (take 1 moves))) packet ≡ None
first_is_accepted packet rest = honest_packets_are_accepted calling calling_is_sound 0 (take 1 moves) side.Child packet rest refl
