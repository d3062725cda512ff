-- Worked cases of single rules: the moves make these lines and no others.
use Rattle.std.specs.Prelude.{◌≡◌, ℕ, ℤ, pos, negsuc, true, false, List, [], ◌∷◌, Some, None, codes, replicate, take, refl}
use Rattle.ipdl_base.specs.declared.line.Line.{Line}
use Rattle.ipdl_base.specs.declared.line.What.{What}
use Rattle.ipdl_base.specs.declared.line.What.TheVariants as what
use Rattle.ipdl_base.specs.declared.kinds.Destroy.TheVariants as destroy
use Rattle.ipdl_base.specs.declared.kinds.Reason.TheVariants as reason
use Rattle.ipdl_base.specs.declared.kinds.SendRefusal.TheVariants as refusal
use Rattle.ipdl_base.specs.declared.kinds.Side.TheVariants as side
use Rattle.channel_model.specs.Ends.{opening}
use Rattle.channel_model.specs.Events.{Event, Move}
use Rattle.channel_model.specs.Events as event
use Rattle.channel_model.specs.Runs.{history_of, is_still, run}
use Rattle.channel_model.proofs.WorkedMoves as worked
use Rattle.channel_model.proofs.WorkedSchemas.{keeping, pk, pk_delete, pk_get, top, none, a_number, an_actor, bytes, waiting, asking, trading, pshop, pitem, pw_call_p, pw_poke, pw_base, pw_call_c, pw_tell, pw_give, pq_get, pq_tell, pitem_delete, pshop_construct, pshop_find, pshop_swap, pshop_store}

abbrev parent : Event → Move
parent event = record { side = side.Parent; event = event }

abbrev child : Event → Move
child event = record { side = side.Child; event = event }

abbrev of_parent : What → Line
of_parent what = record { side = side.Parent; what = what }

abbrev of_child : What → Line
of_child what = record { side = side.Child; what = what }

-- an id that no actor ever has
abbrev nobody : ℤ
nobody = negsuc 0

abbrev k : List ℕ
k = codes "k"

-- An end that closes while it handles a call does not answer it, and the goodbye ends the other's wait.
abbrev close_in_a_handler : List Move
close_in_a_handler =
    parent (event.send top pw_call_c none None)
    ∷ child event.deliver
    ∷ child event.take
    ∷ child event.close
    ∷ child (event.return (Some (a_number (pos 7))))
    ∷ parent event.deliver
    ∷ parent event.resume
    ∷ parent event.take ∷ []

closed_in_a_handler : history_of waiting 0 close_in_a_handler ≡
    of_parent (what.Call (pos 1) (pos 1) top pw_call_c none)
    ∷ of_child (what.DeliverRequest (pos 1))
    ∷ of_child (what.Take (pos 1) top pw_call_c none)
    ∷ of_child what.Close
    ∷ of_child (what.Fall top destroy.NormalShutdown)
    ∷ of_child (what.Return (pos 1))
    ∷ of_parent what.DeliverGoodbye
    ∷ of_parent (what.Fails (pos 1))
    ∷ of_parent (what.ResumeFault (pos 1) reason.ChannelClosed)
    ∷ of_parent what.ShutNormal
    ∷ of_parent (what.Fall top destroy.NormalShutdown) ∷ []
closed_in_a_handler = refl

-- A new actor takes the name of a kept resolver, which is answered after the constructor.
abbrev take_a_name : List Move
take_a_name =
    child (event.send top pshop_find none None)
    ∷ parent event.deliver
    ∷ parent event.take
    ∷ parent (event.keep (negsuc 0) k)
    ∷ parent (event.return None)
    ∷ parent (event.send top pshop_construct none (Some k))
    ∷ child event.deliver
    ∷ child event.deliver
    ∷ child event.take
    ∷ child (event.return None)
    ∷ child event.take ∷ []

name_taken : history_of trading pshop take_a_name ≡
    of_child (what.Send (negsuc 0) top pshop_find none)
    ∷ of_parent (what.DeliverRequest (negsuc 0))
    ∷ of_parent (what.Take (negsuc 0) top pshop_find none)
    ∷ of_parent (what.Keep (negsuc 0) k)
    ∷ of_parent (what.Return (negsuc 0))
    ∷ of_parent (what.Send (pos 1) top pshop_construct none)
    ∷ of_parent (what.AnswerFault (negsuc 0) reason.ResolverDestroyed)
    ∷ of_parent (what.Built (pos 6) pitem)
    ∷ of_child (what.DeliverRequest (pos 1))
    ∷ of_child (what.DeliverReply (negsuc 0))
    ∷ of_child (what.Take (pos 1) top pshop_construct none)
    ∷ of_child (what.Built (pos 6) pitem)
    ∷ of_child (what.Return (pos 1))
    ∷ of_child (what.TakeReply (negsuc 0))
    ∷ of_child (what.Rejected (negsuc 0) reason.ResolverDestroyed) ∷ []
name_taken = refl

-- Each refusal except those for what is too deep and too large.
abbrev be_refused : List Move
be_refused =
    parent (event.send nobody pw_call_c none None)
    ∷ parent (event.send top pw_give (an_actor (pos 6)) None)
    ∷ child (event.send top pw_base none None)
    ∷ parent event.deliver
    ∷ parent event.take
    ∷ parent (event.send top pw_call_c none None)
    ∷ parent (event.return None)
    ∷ child event.deliver
    ∷ child event.resume
    ∷ child (event.send top pw_poke none None)
    ∷ parent event.deliver
    ∷ parent event.take
    ∷ parent (event.send top pw_call_c none None)
    ∷ parent (event.return None)
    ∷ parent (event.send top pw_call_c none None)
    ∷ child event.deliver
    ∷ child event.take
    ∷ child (event.send top pw_base none None)
    ∷ child (event.send top pw_call_p none None)
    ∷ parent event.deliver
    ∷ parent event.take
    ∷ parent event.close
    ∷ child event.die
    ∷ parent event.deliver
    ∷ parent event.close
    ∷ parent (event.send top pw_tell (a_number (pos 1)) None) ∷ []

refused : history_of waiting 0 be_refused ≡
    of_parent (what.RefusedSend refusal.DeadActor pw_call_c)
    ∷ of_parent (what.RefusedSend refusal.DeadValue pw_give)
    ∷ of_child (what.Call (negsuc 0) (negsuc 0) top pw_base none)
    ∷ of_parent (what.DeliverRequest (negsuc 0))
    ∷ of_parent (what.Take (negsuc 0) top pw_base none)
    ∷ of_parent (what.RefusedSend refusal.NestedInNormal pw_call_c)
    ∷ of_parent (what.Return (negsuc 0))
    ∷ of_parent (what.AnswerOk (negsuc 0) none)
    ∷ of_child (what.DeliverReply (negsuc 0))
    ∷ of_child (what.ResumeOk (negsuc 0) none)
    ∷ of_child (what.Send (negsuc 1) top pw_poke none)
    ∷ of_parent (what.DeliverRequest (negsuc 1))
    ∷ of_parent (what.Take (negsuc 1) top pw_poke none)
    ∷ of_parent (what.RefusedSend refusal.InsideCpow pw_call_c)
    ∷ of_parent (what.Return (negsuc 1))
    ∷ of_parent (what.Call (pos 1) (pos 1) top pw_call_c none)
    ∷ of_child (what.DeliverRequest (pos 1))
    ∷ of_child (what.Take (pos 1) top pw_call_c none)
    ∷ of_child (what.RefusedSend refusal.LevelTooLow pw_base)
    ∷ of_child (what.Call (negsuc 2) (pos 1) top pw_call_p none)
    ∷ of_parent (what.DeliverRequest (negsuc 2))
    ∷ of_parent (what.Take (negsuc 2) top pw_call_p none)
    ∷ of_parent (what.RefusedClose refusal.InCall)
    ∷ of_child what.Die
    ∷ of_parent what.DeliverBroken
    ∷ of_parent (what.Fails (pos 1))
    ∷ of_parent (what.RefusedClose refusal.Closed)
    ∷ of_parent (what.RefusedSend refusal.Closed pw_tell) ∷ []
refused = refl

-- The payload of the bytes is their length in four bytes and the bytes.
abbrev store : List Move
store = parent (event.send top pshop_store (bytes (replicate 4092 0)) None) ∷ parent (event.send top pshop_store (bytes (replicate 4093 0)) None) ∷ []

stored : history_of trading pshop store ≡
    of_parent (what.Send (pos 1) top pshop_store (bytes (replicate 4092 0)))
    ∷ of_parent (what.RefusedSend refusal.TooLarge pshop_store) ∷ []
stored = refl

-- What a closed end keeps is gone at once, an answer by a name that has no resolver of the message is refused, and an
-- id that is not positive is no actor.
abbrev keep_nothing : List Move
keep_nothing =
    child (event.send top pq_get none None)
    ∷ parent event.deliver
    ∷ parent event.take
    ∷ parent (event.name k top)
    ∷ parent (event.answer (event.kept k pq_get) None)
    ∷ parent event.close
    ∷ parent (event.answer (event.handled (negsuc 0)) (Some (a_number (pos 9))))
    ∷ parent (event.keep (negsuc 0) k)
    ∷ parent (event.name k nobody)
    ∷ parent (event.return None)
    ∷ child event.deliver
    ∷ child event.take ∷ []

nothing_kept : history_of asking 0 keep_nothing ≡
    of_child (what.Send (negsuc 0) top pq_get none)
    ∷ of_parent (what.DeliverRequest (negsuc 0))
    ∷ of_parent (what.Take (negsuc 0) top pq_get none)
    ∷ of_parent (what.Let k top)
    ∷ of_parent (what.RefusedReject refusal.DeadActor)
    ∷ of_parent what.Close
    ∷ of_parent (what.Fall top destroy.NormalShutdown)
    ∷ of_parent (what.RefusedResolve refusal.Closed)
    ∷ of_parent (what.Keep (negsuc 0) k)
    ∷ of_parent (what.Let k (pos 0))
    ∷ of_parent (what.Return (negsuc 0))
    ∷ of_child what.DeliverGoodbye
    ∷ of_child what.ShutNormal
    ∷ of_child (what.Rejected (negsuc 0) reason.ChannelClosed)
    ∷ of_child (what.Fall top destroy.NormalShutdown) ∷ []
nothing_kept = refl

-- A handler that returns an actor whose fall it caused gives no answer. A request for that actor is dropped.
abbrev return_the_fallen : List Move
return_the_fallen =
    parent (event.send top pshop_construct none None)
    ∷ child event.deliver
    ∷ child event.take
    ∷ child (event.return None)
    ∷ parent (event.send top pshop_swap (an_actor (pos 6)) None)
    ∷ child event.deliver
    ∷ child event.take
    ∷ child (event.send (pos 6) pitem_delete none None)
    ∷ child (event.return (Some (an_actor (pos 6))))
    ∷ parent event.deliver
    ∷ parent event.deliver
    ∷ parent event.resume
    ∷ parent (event.send top pshop_swap (an_actor (pos 6)) None)
    ∷ child event.deliver
    ∷ child event.take
    ∷ parent event.deliver
    ∷ parent event.resume
    ∷ parent event.take
    ∷ parent (event.return None) ∷ []

fallen_returned : history_of trading pshop return_the_fallen ≡
    of_parent (what.Send (pos 1) top pshop_construct none)
    ∷ of_parent (what.Built (pos 6) pitem)
    ∷ of_child (what.DeliverRequest (pos 1))
    ∷ of_child (what.Take (pos 1) top pshop_construct none)
    ∷ of_child (what.Built (pos 6) pitem)
    ∷ of_child (what.Return (pos 1))
    ∷ of_parent (what.Call (pos 2) (pos 2) top pshop_swap (an_actor (pos 6)))
    ∷ of_child (what.DeliverRequest (pos 2))
    ∷ of_child (what.Take (pos 2) top pshop_swap (an_actor (pos 6)))
    ∷ of_child (what.Send (negsuc 0) (pos 6) pitem_delete none)
    ∷ of_child (what.Fall (pos 6) destroy.Deletion)
    ∷ of_child (what.Return (pos 2))
    ∷ of_child (what.AnswerFault (pos 2) reason.HandlerRejected)
    ∷ of_parent (what.DeliverRequest (negsuc 0))
    ∷ of_parent (what.DeliverReply (pos 2))
    ∷ of_parent (what.ResumeFault (pos 2) reason.HandlerRejected)
    ∷ of_parent (what.Call (pos 3) (pos 3) top pshop_swap (an_actor (pos 6)))
    ∷ of_child (what.DeliverRequest (pos 3))
    ∷ of_child (what.Drop (pos 3) top pshop_swap (pos 6))
    ∷ of_child (what.AnswerFault (pos 3) reason.ActorDestroyed)
    ∷ of_parent (what.DeliverReply (pos 3))
    ∷ of_parent (what.ResumeFault (pos 3) reason.ActorDestroyed)
    ∷ of_parent (what.Take (negsuc 0) (pos 6) pitem_delete none)
    ∷ of_parent (what.Return (negsuc 0))
    ∷ of_parent (what.Fall (pos 6) destroy.Deletion) ∷ []
fallen_returned = refl

-- A promise is rejected if its answer contains an actor that has fallen, of a type that is not nullable.
abbrev resolve_by_the_fallen : List Move
resolve_by_the_fallen =
    parent (event.send top pshop_construct none None)
    ∷ child event.deliver
    ∷ child event.take
    ∷ child (event.return None)
    ∷ child (event.send top pshop_find none None)
    ∷ parent event.deliver
    ∷ parent event.take
    ∷ parent (event.answer (event.handled (negsuc 0)) (Some (an_actor (pos 6))))
    ∷ parent (event.return None)
    ∷ child event.deliver
    ∷ child (event.send (pos 6) pitem_delete none None)
    ∷ child event.take ∷ []

fallen_resolved : history_of trading pshop resolve_by_the_fallen ≡
    of_parent (what.Send (pos 1) top pshop_construct none)
    ∷ of_parent (what.Built (pos 6) pitem)
    ∷ of_child (what.DeliverRequest (pos 1))
    ∷ of_child (what.Take (pos 1) top pshop_construct none)
    ∷ of_child (what.Built (pos 6) pitem)
    ∷ of_child (what.Return (pos 1))
    ∷ of_child (what.Send (negsuc 0) top pshop_find none)
    ∷ of_parent (what.DeliverRequest (negsuc 0))
    ∷ of_parent (what.Take (negsuc 0) top pshop_find none)
    ∷ of_parent (what.Resolve (negsuc 0) (an_actor (pos 6)))
    ∷ of_parent (what.Return (negsuc 0))
    ∷ of_child (what.DeliverReply (negsuc 0))
    ∷ of_child (what.Send (negsuc 1) (pos 6) pitem_delete none)
    ∷ of_child (what.Fall (pos 6) destroy.Deletion)
    ∷ of_child (what.TakeReply (negsuc 0))
    ∷ of_child (what.Rejected (negsuc 0) reason.ActorDestroyed) ∷ []
fallen_resolved = refl

-- A top actor whose protocol has a destructor can be deleted. No actor lives then at an end that is open.
top_deleted : history_of keeping pk (child (event.send top pk_delete none None) ∷ child (event.send top pk_get none None) ∷ child event.close ∷ []) ≡
    of_child (what.Send (negsuc 0) top pk_delete none)
    ∷ of_child (what.Fall top destroy.Deletion)
    ∷ of_child (what.RefusedSend refusal.DeadActor pk_get)
    ∷ of_child what.Close ∷ []
top_deleted = refl

-- A move that is not possible has no line: a delivery from an empty link, a take of nothing, a return without a handler,
-- a send by the end that receives the message, and one with a value of another type.
not_possible : history_of asking 0 (
    parent event.deliver
    ∷ child event.take
    ∷ parent (event.return None)
    ∷ child event.resume
    ∷ parent event.flush
    ∷ parent (event.send top pq_tell (a_number (pos 1)) None)
    ∷ child (event.send top pq_tell none None) ∷ [])
    ≡ []
not_possible = refl

-- After the worked case no end has anything left to do by itself, and before its last move the child has.
rests : is_still waiting (run waiting worked.both_call (opening 0)).world ≡ true
rests = refl

not_yet : is_still waiting (run waiting (take 11 worked.both_call) (opening 0)).world ≡ false
not_yet = refl
