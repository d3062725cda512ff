-- Worked runs: what their worlds are, and that they meet the premises of each law.
use Rattle.std.proofs.Common.{◌≡◌, ◌+◌, ℤ, pos, negsuc, true, false, List, [], ◌∷◌, Some, None, refl, ◌++◌}
use Rattle.ipdl_base.specs.declared.kinds.Level.TheVariants.{InsideSync, InsideCpow}
use Rattle.ipdl_base.specs.declared.kinds.Side.TheVariants as side
use Rattle.ipdl_base.specs.declared.line.What.TheVariants as what
use Rattle.ipdl_base.specs.declared.message.Body.TheVariants.{Reply}
use Rattle.ipdl_base.specs.declared.message.Message.{Message}
use Rattle.ipdl_base.specs.declared.value.Values.TheVariants.{Nothing}
use Rattle.nesting_core.specs.declared.frame.Head.{Head}
use Rattle.nesting_core.specs.Answers.{awaited}
use Rattle.nesting_core.specs.Deferral.{Defers}
use Rattle.nesting_laws.specs.Calls.{Call, wait, dispatch, request, reply, sync_end, reply_of}
use Rattle.channel_model.specs.Ends.{World, mark}
use Rattle.channel_model.specs.Events.{Event, Move}
use Rattle.channel_model.specs.Events as event
use Rattle.channel_model.specs.Outputs.{Output, line_at}
use Rattle.channel_model.specs.Refusals.{is_waited_for}
use Rattle.channel_model.specs.Runs.{is_still}
use Rattle.channel_model.specs.Sends.{frames_of}
use Rattle.channel_model.specs.Steps.{step}
use Rattle.channel_laws.specs.Laws.{world_of, awaited_reply, EndsWait, EndsAreRecorded}
use Rattle.channel_laws.specs.NestedWorlds.{sync_end_of, EndsInLastPacket, IsNestedWorld}
use Rattle.channel_laws.specs.SyncCalls.{reply_head}
use Rattle.channel_laws.proofs.EndsTold.{ends_are_recorded_in_runs}
use Rattle.channel_laws.proofs.EveryRun.{nesting_in_every_run}
use Rattle.channel_laws.proofs.FailedWaits.{last_packets_fail_all_waits}
use Rattle.channel_laws.proofs.GivingWay.{waits_give_way}
use Rattle.channel_laws.proofs.Replies.{replies_find_their_waits, sync_replies_are_not_stray}
use Rattle.channel_laws.proofs.StillWorlds.{still_ends_wait_for_nothing, still_histories_leave_no_end_waiting}
use Rattle.channel_laws.proofs.WorkedSchema.{calling, calling_is_sound, ask, tell, peek}

abbrev pub parent : Event → Move
parent event = record { side = side.Parent; event = event }

abbrev pub child : Event → Move
child event = record { side = side.Child; event = event }

abbrev pub top : ℤ
top = pos 2147483647

-- the world after moves
abbrev following : List Move → World
following moves = world_of calling 0 moves

-- Both ends call at once.

abbrev pub at_once : List Move
at_once = parent (event.send top tell Nothing None) ∷ child (event.send top ask Nothing None) ∷ []

-- the parent's call and the child's
abbrev q1 : Call
q1 = record { level = InsideSync; seq = pos 1; transaction = pos 1; route = top; number = tell }

abbrev x1 : Call
x1 = record { level = InsideSync; seq = negsuc 0; transaction = negsuc 0; route = top; number = ask }

-- each end waits, and the request of the other is on the link toward it
parent_calls : sync_end_of calling (following at_once).parent (following at_once).to_parent (wait q1 ∷ []) ≡ sync_end (wait q1 ∷ []) [] (request x1 ∷ [])
parent_calls = refl

child_calls : sync_end_of calling (following at_once).child (following at_once).to_child (wait x1 ∷ []) ≡ sync_end (wait x1 ∷ []) [] (request q1 ∷ [])
child_calls = refl

at_once_is_nested : IsNestedWorld calling (following at_once)
at_once_is_nested = nesting_in_every_run calling calling_is_sound 0 at_once

-- the heads of the two waits
abbrev w1 : Head
w1 = record { sync = true; level = InsideSync; seq = pos 1; transaction = pos 1 }

abbrev v1 : Head
v1 = record { sync = true; level = InsideSync; seq = negsuc 0; transaction = negsuc 0 }

-- the parent defers the child's request, so the child does not defer the parent's
child_gives_way : Defers side.Child (frames_of (following at_once).child) w1 → ⊥
child_gives_way h = waits_give_way calling calling_is_sound 0 at_once w1 v1 refl refl refl h

-- an end waits, so the world is not still
at_once_is_not_still : is_still calling (following at_once) ≡ false
at_once_is_not_still = still_histories_leave_no_end_waiting.goes_on calling calling_is_sound 0 at_once side.Parent (pos 1) refl

-- The child handles the parent's call first, and its reply is on the link.

abbrev first_answered : List Move
first_answered = parent (event.send top tell Nothing None) ∷ child (event.send top ask Nothing None) ∷ child event.deliver ∷ child event.take ∷ child (event.return None) ∷ parent event.deliver ∷ []

abbrev first_reply : Message
first_reply = record { route = top; number = tell + 1; seq = pos 1; transaction = pos 1; made = pos 0; body = Reply Nothing }

reply_is_awaited : awaited_reply (following first_answered).parent.stack ≡ Some (reply_head first_reply)
reply_is_awaited = replies_find_their_waits calling calling_is_sound 0 first_answered side.Parent first_reply [] refl refl tt refl

reply_is_not_stray : is_waited_for (following first_answered).parent first_reply ≡ true
reply_is_not_stray = sync_replies_are_not_stray calling calling_is_sound 0 first_answered side.Parent first_reply [] refl refl tt refl

-- All is answered, and the world is still.

abbrev pub answers : List Move
answers =
    child event.deliver
    ∷ child event.take
    ∷ child (event.return None)
    ∷ parent event.deliver
    ∷ parent event.deliver
    ∷ parent event.resume
    ∷ parent event.take
    ∷ parent (event.return None)
    ∷ child event.deliver
    ∷ child event.resume ∷ []

child_awaits_nothing : awaited (frames_of (following (at_once ++ answers)).child) ≡ None
child_awaits_nothing = still_ends_wait_for_nothing calling calling_is_sound 0 (at_once ++ answers) side.Child refl

-- one of these moves has ended the wait of the parent
parent_wait_ends : EndsWait calling side.Parent (pos 1) (following at_once) answers
parent_wait_ends = still_histories_leave_no_end_waiting.ended calling calling_is_sound 0 at_once answers side.Parent (pos 1) refl refl

-- The parent has answered the child's call, and calls before the reply is delivered: the stray is overtaken.

abbrev overtaken_stray : List Move
overtaken_stray =
    child (event.send top ask Nothing None)
    ∷ parent event.deliver
    ∷ parent event.take
    ∷ parent (event.return None)
    ∷ parent (event.send top tell Nothing None) ∷ []

stray_is_overtaken : sync_end_of calling (following overtaken_stray).child (following overtaken_stray).to_child (wait x1 ∷ []) ≡ sync_end (wait x1 ∷ []) [] (reply (reply_of x1) ∷ request q1 ∷ [])
stray_is_overtaken = refl

-- Calls cross, the child's of level inside_cpow: the parent handles it above its own wait.

abbrev crossed_cpow : List Move
crossed_cpow = parent (event.send top tell Nothing None) ∷ child (event.send top peek Nothing None) ∷ parent event.deliver ∷ parent event.take ∷ child event.deliver ∷ []

abbrev p1 : Call
p1 = record { level = InsideCpow; seq = negsuc 0; transaction = negsuc 0; route = top; number = peek }

parent_serves : sync_end_of calling (following crossed_cpow).parent (following crossed_cpow).to_parent (dispatch p1 ∷ wait q1 ∷ []) ≡ sync_end (dispatch p1 ∷ wait q1 ∷ []) [] []
parent_serves = refl

child_defers : Defers side.Child (frames_of (following crossed_cpow).child) w1
child_defers = refl

-- The parent dies while the child waits: the child's wait fails.

abbrev parent_has_died : List Move
parent_has_died = child (event.send top ask Nothing None) ∷ parent event.die ∷ []

child_is_told : EndsAreRecorded (following parent_has_died) side.Child
child_is_told = ends_are_recorded_in_runs calling calling_is_sound 0 parent_has_died side.Child refl

last_packet_is_there : EndsInLastPacket (following parent_has_died).to_child
last_packet_is_there = child_is_told.ends refl

child_wait_fails : (output : Output) → step calling (following parent_has_died).child (mark ∷ []) event.deliver ≡ Some output → output.lines ≡ line_at side.Child what.DeliverBroken ∷ line_at side.Child (what.Fails (negsuc 0)) ∷ []
child_wait_fails output is = (last_packets_fail_all_waits calling (following parent_has_died).child mark [] output refl is).lines
