-- Worked cases: the moves make these lines and no others.
use Rattle.std.specs.Prelude.{◌≡◌, pos, negsuc, [], ◌∷◌, codes, refl}
use Rattle.ipdl_base.specs.declared.line.Line.{Line}
use Rattle.ipdl_base.specs.declared.line.What.{What}
use Rattle.ipdl_base.specs.declared.line.What.TheVariants as what
use Rattle.ipdl_base.specs.declared.kinds.Destroy.TheVariants as destroy
use Rattle.ipdl_base.specs.declared.kinds.Reason.TheVariants as reason
use Rattle.ipdl_base.specs.declared.kinds.SendRefusal.TheVariants as refusal
use Rattle.ipdl_base.specs.declared.kinds.Side.TheVariants as side
use Rattle.channel_model.specs.Runs.{history_of}
use Rattle.channel_model.proofs.WorkedMoves as moves
use Rattle.channel_model.proofs.WorkedSchemas.{top, none, a_number, an_actor, waiting, pinging, keeping, asking, pressing, idling, owning, pm, pn, pk, pr, pown, ptmp, pw_call_p, pw_poke, pw_base, pw_call_c, pw_tell, pm_ask, pm_construct, pn_ping, pk_construct, pk_get, pk_delete, pr_construct, pq_get, pq_tell, pc_up, pc_alls, pc_mark, pc_ask, plz_lz, plz_now, pown_construct, pown_mark, ptmp_hi, ptmp_delete}

abbrev parent : What → Line
parent what = record { side = side.Parent; what = what }

abbrev child : What → Line
child what = record { side = side.Child; what = what }

-- Both ends call at once: the child serves the parent's call first.
both_call : history_of waiting 0 moves.both_call ≡
    parent (what.Call (pos 1) (pos 1) top pw_call_c none)
    ∷ child (what.Call (negsuc 0) (negsuc 0) top pw_call_p none)
    ∷ parent (what.DeliverRequest (negsuc 0))
    ∷ child (what.DeliverRequest (pos 1))
    ∷ child (what.Take (pos 1) top pw_call_c none)
    ∷ child (what.Return (pos 1))
    ∷ child (what.AnswerOk (pos 1) (a_number (pos 20)))
    ∷ parent (what.DeliverReply (pos 1))
    ∷ parent (what.ResumeOk (pos 1) (a_number (pos 20)))
    ∷ parent (what.Take (negsuc 0) top pw_call_p none)
    ∷ parent (what.Return (negsuc 0))
    ∷ parent (what.AnswerOk (negsuc 0) (a_number (pos 10)))
    ∷ child (what.DeliverReply (negsuc 0))
    ∷ child (what.ResumeOk (negsuc 0) (a_number (pos 10))) ∷ []
both_call = refl

-- Four calls inside one another, in one transaction, and a stray call that waits for all of them.
nested_calls : history_of waiting 0 moves.nested_calls ≡
    parent (what.Call (pos 1) (pos 1) top pw_call_c none)
    ∷ child (what.Call (negsuc 0) (negsuc 0) top pw_base none)
    ∷ parent (what.DeliverRequest (negsuc 0))
    ∷ child (what.DeliverRequest (pos 1))
    ∷ child (what.Take (pos 1) top pw_call_c none)
    ∷ child (what.Call (negsuc 1) (pos 1) top pw_call_p none)
    ∷ parent (what.DeliverRequest (negsuc 1))
    ∷ parent (what.Take (negsuc 1) top pw_call_p none)
    ∷ parent (what.Call (pos 2) (pos 1) top pw_call_c none)
    ∷ child (what.DeliverRequest (pos 2))
    ∷ child (what.Take (pos 2) top pw_call_c none)
    ∷ child (what.Call (negsuc 2) (pos 1) top pw_call_p none)
    ∷ parent (what.DeliverRequest (negsuc 2))
    ∷ parent (what.Take (negsuc 2) top pw_call_p none)
    ∷ parent (what.Return (negsuc 2))
    ∷ parent (what.AnswerOk (negsuc 2) (a_number (pos 4)))
    ∷ child (what.DeliverReply (negsuc 2))
    ∷ child (what.ResumeOk (negsuc 2) (a_number (pos 4)))
    ∷ child (what.Return (pos 2))
    ∷ child (what.AnswerOk (pos 2) (a_number (pos 3)))
    ∷ parent (what.DeliverReply (pos 2))
    ∷ parent (what.ResumeOk (pos 2) (a_number (pos 3)))
    ∷ parent (what.Return (negsuc 1))
    ∷ parent (what.AnswerOk (negsuc 1) (a_number (pos 2)))
    ∷ child (what.DeliverReply (negsuc 1))
    ∷ child (what.ResumeOk (negsuc 1) (a_number (pos 2)))
    ∷ child (what.Return (pos 1))
    ∷ child (what.AnswerOk (pos 1) (a_number (pos 1)))
    ∷ parent (what.DeliverReply (pos 1))
    ∷ parent (what.ResumeOk (pos 1) (a_number (pos 1)))
    ∷ parent (what.Take (negsuc 0) top pw_base none)
    ∷ parent (what.Return (negsuc 0))
    ∷ parent (what.AnswerOk (negsuc 0) none)
    ∷ child (what.DeliverReply (negsuc 0))
    ∷ child (what.ResumeOk (negsuc 0) none) ∷ []
nested_calls = refl

-- A call overtakes the constructor of the actor that it goes to.
overtaken_constructor : history_of pinging pm moves.overtaken_constructor ≡
    parent (what.Send (pos 1) top pm_construct none)
    ∷ parent (what.Built (pos 6) pn)
    ∷ child (what.Call (negsuc 0) (negsuc 0) top pm_ask none)
    ∷ parent (what.Call (pos 2) (pos 2) (pos 6) pn_ping none)
    ∷ child (what.DeliverRequest (pos 1))
    ∷ parent (what.DeliverRequest (negsuc 0))
    ∷ child (what.DeliverRequest (pos 2))
    ∷ child (what.Drop (pos 2) (pos 6) pn_ping (pos 6))
    ∷ child (what.AnswerFault (pos 2) reason.ActorDestroyed)
    ∷ parent (what.DeliverReply (pos 2))
    ∷ parent (what.ResumeFault (pos 2) reason.ActorDestroyed)
    ∷ parent (what.Take (negsuc 0) top pm_ask none)
    ∷ parent (what.Return (negsuc 0))
    ∷ parent (what.AnswerOk (negsuc 0) none)
    ∷ child (what.DeliverReply (negsuc 0))
    ∷ child (what.ResumeOk (negsuc 0) none)
    ∷ child (what.Take (pos 1) top pm_construct none)
    ∷ child (what.Built (pos 6) pn)
    ∷ child (what.Return (pos 1)) ∷ []
overtaken_constructor = refl

-- A reply comes while a message of the highest level is handled above its wait.
reply_under_a_handler : history_of waiting 0 moves.reply_under_a_handler ≡
    parent (what.Call (pos 1) (pos 1) top pw_call_c none)
    ∷ child (what.DeliverRequest (pos 1))
    ∷ child (what.Take (pos 1) top pw_call_c none)
    ∷ child (what.Send (negsuc 0) top pw_poke none)
    ∷ child (what.Return (pos 1))
    ∷ child (what.AnswerOk (pos 1) (a_number (pos 7)))
    ∷ parent (what.DeliverRequest (negsuc 0))
    ∷ parent (what.Take (negsuc 0) top pw_poke none)
    ∷ parent (what.DeliverReply (pos 1))
    ∷ parent (what.Send (pos 2) top pw_tell (a_number (pos 1)))
    ∷ child (what.DeliverRequest (pos 2))
    ∷ parent (what.Return (negsuc 0))
    ∷ child (what.Take (pos 2) top pw_tell (a_number (pos 1)))
    ∷ parent (what.ResumeOk (pos 1) (a_number (pos 7)))
    ∷ child (what.Return (pos 2)) ∷ []
reply_under_a_handler = refl

-- A destructor lets a tree fall at both ends.
delete_of_a_tree : history_of keeping pr moves.delete_of_a_tree ≡
    child (what.Send (negsuc 0) top pr_construct none)
    ∷ child (what.Built (pos 4) pk)
    ∷ child (what.Send (negsuc 1) (pos 4) pk_construct none)
    ∷ child (what.Built (pos 8) pk)
    ∷ child (what.Send (negsuc 2) (pos 8) pk_construct none)
    ∷ child (what.Built (pos 12) pk)
    ∷ child (what.Send (negsuc 3) (pos 8) pk_get none)
    ∷ child (what.Send (negsuc 4) (pos 4) pk_delete none)
    ∷ child (what.Fall (pos 12) destroy.AncestorDeletion)
    ∷ child (what.Rejected (negsuc 3) reason.ActorDestroyed)
    ∷ child (what.Fall (pos 8) destroy.AncestorDeletion)
    ∷ child (what.Fall (pos 4) destroy.Deletion)
    ∷ parent (what.DeliverRequest (negsuc 0))
    ∷ parent (what.Take (negsuc 0) top pr_construct none)
    ∷ parent (what.Built (pos 4) pk)
    ∷ parent (what.Return (negsuc 0))
    ∷ parent (what.DeliverRequest (negsuc 1))
    ∷ parent (what.Take (negsuc 1) (pos 4) pk_construct none)
    ∷ parent (what.Built (pos 8) pk)
    ∷ parent (what.Return (negsuc 1))
    ∷ parent (what.DeliverRequest (negsuc 2))
    ∷ parent (what.Take (negsuc 2) (pos 8) pk_construct none)
    ∷ parent (what.Built (pos 12) pk)
    ∷ parent (what.Return (negsuc 2))
    ∷ parent (what.DeliverRequest (negsuc 3))
    ∷ parent (what.Take (negsuc 3) (pos 8) pk_get none)
    ∷ parent (what.Resolve (negsuc 3) (a_number (pos 9)))
    ∷ child (what.DeliverReply (negsuc 3))
    ∷ parent (what.Return (negsuc 3))
    ∷ child (what.TakeReply (negsuc 3))
    ∷ parent (what.DeliverRequest (negsuc 4))
    ∷ parent (what.Take (negsuc 4) (pos 4) pk_delete none)
    ∷ parent (what.Return (negsuc 4))
    ∷ parent (what.Fall (pos 12) destroy.AncestorDeletion)
    ∷ parent (what.Fall (pos 8) destroy.AncestorDeletion)
    ∷ parent (what.Fall (pos 4) destroy.Deletion) ∷ []
delete_of_a_tree = refl

-- An end closes, and the other one settles its promises.
close_with_promises : history_of asking 0 moves.close_with_promises ≡
    parent (what.Send (pos 1) top pq_get none)
    ∷ parent (what.Send (pos 2) top pq_get none)
    ∷ parent (what.Send (pos 3) top pq_get none)
    ∷ child (what.Send (negsuc 0) top pq_tell (a_number (pos 1)))
    ∷ child (what.Send (negsuc 1) top pq_tell (a_number (pos 2)))
    ∷ child what.Close
    ∷ child (what.Fall top destroy.NormalShutdown)
    ∷ parent (what.DeliverRequest (negsuc 0))
    ∷ parent (what.DeliverRequest (negsuc 1))
    ∷ parent what.DeliverGoodbye
    ∷ parent (what.Take (negsuc 0) top pq_tell (a_number (pos 1)))
    ∷ parent (what.Return (negsuc 0))
    ∷ parent (what.Take (negsuc 1) top pq_tell (a_number (pos 2)))
    ∷ parent (what.Return (negsuc 1))
    ∷ parent what.ShutNormal
    ∷ parent (what.Rejected (pos 1) reason.ChannelClosed)
    ∷ parent (what.Rejected (pos 2) reason.ChannelClosed)
    ∷ parent (what.Rejected (pos 3) reason.ChannelClosed)
    ∷ parent (what.Fall top destroy.NormalShutdown) ∷ []
close_with_promises = refl

-- An end dies under two waits of the other.
death_under_waits : history_of waiting 0 moves.death_under_waits ≡
    parent (what.Call (pos 1) (pos 1) top pw_call_c none)
    ∷ child (what.DeliverRequest (pos 1))
    ∷ child (what.Take (pos 1) top pw_call_c none)
    ∷ child (what.Call (negsuc 0) (pos 1) top pw_call_p none)
    ∷ parent (what.DeliverRequest (negsuc 0))
    ∷ parent (what.Take (negsuc 0) top pw_call_p none)
    ∷ parent (what.Call (pos 2) (pos 1) top pw_call_c none)
    ∷ child (what.DeliverRequest (pos 2))
    ∷ child (what.Take (pos 2) top pw_call_c none)
    ∷ child what.Die
    ∷ parent what.DeliverBroken
    ∷ parent (what.Fails (pos 2))
    ∷ parent (what.Fails (pos 1))
    ∷ parent (what.ResumeFault (pos 2) reason.ChannelClosed)
    ∷ parent (what.Return (negsuc 0))
    ∷ parent (what.ResumeFault (pos 1) reason.ChannelClosed)
    ∷ parent what.ShutAbnormal
    ∷ parent (what.Fall top destroy.AbnormalShutdown) ∷ []
death_under_waits = refl

-- Requests that later ones replace.
compression : history_of pressing 0 moves.compression ≡
    child (what.Send (negsuc 0) top pc_up (a_number (pos 1)))
    ∷ child (what.Send (negsuc 1) top pc_up (a_number (pos 2)))
    ∷ child (what.Send (negsuc 2) top pc_mark none)
    ∷ child (what.Send (negsuc 3) top pc_up (a_number (pos 3)))
    ∷ child (what.Send (negsuc 4) top pc_alls (a_number (pos 1)))
    ∷ child (what.Send (negsuc 5) top pc_mark none)
    ∷ child (what.Send (negsuc 6) top pc_alls (a_number (pos 2)))
    ∷ child (what.Send (negsuc 7) top pc_ask (a_number (pos 1)))
    ∷ child (what.Send (negsuc 8) top pc_ask (a_number (pos 2)))
    ∷ parent (what.DeliverRequest (negsuc 0))
    ∷ parent (what.DeliverRequest (negsuc 1))
    ∷ parent (what.Replaced (negsuc 0))
    ∷ parent (what.DeliverRequest (negsuc 2))
    ∷ parent (what.DeliverRequest (negsuc 3))
    ∷ parent (what.DeliverRequest (negsuc 4))
    ∷ parent (what.DeliverRequest (negsuc 5))
    ∷ parent (what.DeliverRequest (negsuc 6))
    ∷ parent (what.Replaced (negsuc 4))
    ∷ parent (what.DeliverRequest (negsuc 7))
    ∷ parent (what.DeliverRequest (negsuc 8))
    ∷ parent (what.Replaced (negsuc 7))
    ∷ parent (what.AnswerFault (negsuc 7) reason.ResolverDestroyed)
    ∷ parent (what.Take (negsuc 1) top pc_up (a_number (pos 2)))
    ∷ child (what.DeliverReply (negsuc 7))
    ∷ parent (what.Return (negsuc 1))
    ∷ child (what.TakeReply (negsuc 7))
    ∷ child (what.Rejected (negsuc 7) reason.ResolverDestroyed)
    ∷ parent (what.Take (negsuc 2) top pc_mark none)
    ∷ parent (what.Return (negsuc 2))
    ∷ parent (what.Take (negsuc 3) top pc_up (a_number (pos 3)))
    ∷ parent (what.Return (negsuc 3))
    ∷ parent (what.Take (negsuc 5) top pc_mark none)
    ∷ parent (what.Return (negsuc 5))
    ∷ parent (what.Take (negsuc 6) top pc_alls (a_number (pos 2)))
    ∷ parent (what.Return (negsuc 6))
    ∷ parent (what.Take (negsuc 8) top pc_ask (a_number (pos 2)))
    ∷ parent (what.Return (negsuc 8))
    ∷ parent (what.AnswerFault (negsuc 8) reason.ResolverDestroyed)
    ∷ child (what.DeliverReply (negsuc 8))
    ∷ child (what.TakeReply (negsuc 8))
    ∷ child (what.Rejected (negsuc 8) reason.ResolverDestroyed) ∷ []
compression = refl

-- Lazy requests wait in the outbox.
lazy_outbox : history_of idling 0 moves.lazy_outbox ≡
    child (what.Send (negsuc 0) top plz_lz (a_number (pos 1)))
    ∷ child (what.Send (negsuc 1) top plz_lz (a_number (pos 2)))
    ∷ child (what.Send (negsuc 2) top plz_now none)
    ∷ parent (what.DeliverRequest (negsuc 0))
    ∷ child (what.Send (negsuc 3) top plz_lz (a_number (pos 3)))
    ∷ parent (what.Take (negsuc 0) top plz_lz (a_number (pos 1)))
    ∷ child (what.Flush 1)
    ∷ parent (what.Return (negsuc 0))
    ∷ parent (what.DeliverRequest (negsuc 1))
    ∷ parent (what.Take (negsuc 1) top plz_lz (a_number (pos 2)))
    ∷ parent (what.Return (negsuc 1))
    ∷ parent (what.DeliverRequest (negsuc 2))
    ∷ parent (what.Take (negsuc 2) top plz_now none)
    ∷ parent (what.Return (negsuc 2))
    ∷ parent (what.DeliverRequest (negsuc 3))
    ∷ parent (what.Take (negsuc 3) top plz_lz (a_number (pos 3)))
    ∷ parent (what.Return (negsuc 3)) ∷ []
lazy_outbox = refl

-- A resolver is kept, and answers later.
kept_resolver : history_of asking 0 moves.kept_resolver ≡
    child (what.Send (negsuc 0) top pq_get none)
    ∷ child (what.Send (negsuc 1) top pq_tell (a_number (pos 1)))
    ∷ parent (what.DeliverRequest (negsuc 0))
    ∷ parent (what.Take (negsuc 0) top pq_get none)
    ∷ parent (what.Keep (negsuc 0) (codes "k"))
    ∷ parent (what.Return (negsuc 0))
    ∷ parent (what.DeliverRequest (negsuc 1))
    ∷ parent (what.Take (negsuc 1) top pq_tell (a_number (pos 1)))
    ∷ parent (what.Resolve (negsuc 0) (a_number (pos 5)))
    ∷ child (what.DeliverReply (negsuc 0))
    ∷ parent (what.Return (negsuc 1))
    ∷ child (what.TakeReply (negsuc 0))
    ∷ child (what.Resolved (negsuc 0) (a_number (pos 5))) ∷ []
kept_resolver = refl

-- An actor falls while messages to it and from it are in transit.
drops : history_of owning pown moves.drops ≡
    child (what.Send (negsuc 0) top pown_construct none)
    ∷ child (what.Built (pos 4) ptmp)
    ∷ child (what.Send (negsuc 1) (pos 4) ptmp_delete none)
    ∷ child (what.Fall (pos 4) destroy.Deletion)
    ∷ parent (what.DeliverRequest (negsuc 0))
    ∷ child (what.RefusedSend refusal.DeadActor ptmp_hi)
    ∷ parent (what.Take (negsuc 0) top pown_construct none)
    ∷ parent (what.Built (pos 4) ptmp)
    ∷ parent (what.Send (pos 1) (pos 4) ptmp_hi none)
    ∷ child (what.DeliverRequest (pos 1))
    ∷ parent (what.Send (pos 2) top pown_mark (an_actor (pos 4)))
    ∷ child (what.Drop (pos 1) (pos 4) ptmp_hi (pos 4))
    ∷ parent (what.Return (negsuc 0))
    ∷ child (what.DeliverRequest (pos 2))
    ∷ parent (what.DeliverRequest (negsuc 1))
    ∷ child (what.Take (pos 2) top pown_mark (an_actor (pos 0)))
    ∷ parent (what.Take (negsuc 1) (pos 4) ptmp_delete none)
    ∷ child (what.Return (pos 2))
    ∷ parent (what.Return (negsuc 1))
    ∷ parent (what.Fall (pos 4) destroy.Deletion) ∷ []
drops = refl
