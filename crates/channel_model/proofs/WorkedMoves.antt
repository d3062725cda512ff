-- Moves of worked cases. Their lines are in `Worked`.
use Rattle.std.specs.Prelude.{pos, negsuc, List, [], ◌∷◌, Some, None, codes}
use Rattle.ipdl_base.specs.declared.kinds.Side.TheVariants as side
use Rattle.channel_model.specs.Events.{Event, Move}
use Rattle.channel_model.specs.Events as event
use Rattle.channel_model.proofs.WorkedSchemas.{top, none, a_number, an_actor, pw_call_p, pw_poke, pw_base, pw_call_c, pw_tell, pm_ask, pm_construct, pn_ping, pk_construct, pk_get, pk_delete, pr_construct, pq_get, pq_tell, pc_up, pc_alls, pc_mark, pc_ask, plz_lz, plz_now, pown_construct, pown_mark, ptmp_hi, ptmp_delete}

abbrev parent : Event → Move
parent event = record { side = side.Parent; event = event }

abbrev child : Event → Move
child event = record { side = side.Child; event = event }

-- Both ends call at once: the child serves the parent's call first.
abbrev pub both_call : List Move
both_call =
    parent (event.send top pw_call_c none None)
    ∷ child (event.send top pw_call_p none None)
    ∷ parent event.deliver
    ∷ child event.deliver
    ∷ child event.take
    ∷ child (event.return (Some (a_number (pos 20))))
    ∷ parent event.deliver
    ∷ parent event.resume
    ∷ parent event.take
    ∷ parent (event.return (Some (a_number (pos 10))))
    ∷ child event.deliver
    ∷ child event.resume ∷ []

-- Four calls inside one another, in one transaction, and a stray call that waits for all of them.
abbrev pub nested_calls : List Move
nested_calls =
    parent (event.send top pw_call_c none None)
    ∷ child (event.send top pw_base none None)
    ∷ parent event.deliver
    ∷ child event.deliver
    ∷ child event.take
    ∷ child (event.send top pw_call_p none None)
    ∷ parent event.deliver
    ∷ parent event.take
    ∷ parent (event.send top pw_call_c none None)
    ∷ child event.deliver
    ∷ child event.take
    ∷ child (event.send top pw_call_p none None)
    ∷ parent event.deliver
    ∷ parent event.take
    ∷ parent (event.return (Some (a_number (pos 4))))
    ∷ child event.deliver
    ∷ child event.resume
    ∷ child (event.return (Some (a_number (pos 3))))
    ∷ parent event.deliver
    ∷ parent event.resume
    ∷ parent (event.return (Some (a_number (pos 2))))
    ∷ child event.deliver
    ∷ child event.resume
    ∷ child (event.return (Some (a_number (pos 1))))
    ∷ parent event.deliver
    ∷ parent event.resume
    ∷ parent event.take
    ∷ parent (event.return None)
    ∷ child event.deliver
    ∷ child event.resume ∷ []

-- A call overtakes the constructor of the actor that it goes to.
abbrev pub overtaken_constructor : List Move
overtaken_constructor =
    parent (event.send top pm_construct none (Some (codes "n")))
    ∷ child (event.send top pm_ask none None)
    ∷ parent (event.send (pos 6) pn_ping none None)
    ∷ child event.deliver
    ∷ parent event.deliver
    ∷ child event.deliver
    ∷ child event.take
    ∷ parent event.deliver
    ∷ parent event.resume
    ∷ parent event.take
    ∷ parent (event.return None)
    ∷ child event.deliver
    ∷ child event.resume
    ∷ child event.take
    ∷ child (event.return None) ∷ []

-- A reply comes while a message of the highest level is handled above its wait.
abbrev pub reply_under_a_handler : List Move
reply_under_a_handler =
    parent (event.send top pw_call_c none None)
    ∷ child event.deliver
    ∷ child event.take
    ∷ child (event.send top pw_poke none None)
    ∷ child (event.return (Some (a_number (pos 7))))
    ∷ parent event.deliver
    ∷ parent event.take
    ∷ parent event.deliver
    ∷ parent (event.send top pw_tell (a_number (pos 1)) None)
    ∷ child event.deliver
    ∷ parent (event.return None)
    ∷ child event.take
    ∷ parent event.resume
    ∷ child (event.return None) ∷ []

-- A destructor lets a tree fall at both ends.
abbrev pub delete_of_a_tree : List Move
delete_of_a_tree =
    child (event.send top pr_construct none (Some (codes "a")))
    ∷ child (event.send (pos 4) pk_construct none (Some (codes "b")))
    ∷ child (event.send (pos 8) pk_construct none (Some (codes "c")))
    ∷ child (event.send (pos 8) pk_get none None)
    ∷ child (event.send (pos 4) pk_delete none None)
    ∷ parent event.deliver
    ∷ parent event.take
    ∷ parent (event.return None)
    ∷ parent event.deliver
    ∷ parent event.take
    ∷ parent (event.return None)
    ∷ parent event.deliver
    ∷ parent event.take
    ∷ parent (event.return None)
    ∷ parent event.deliver
    ∷ parent event.take
    ∷ parent (event.answer (event.handled (negsuc 3)) (Some (a_number (pos 9))))
    ∷ child event.deliver
    ∷ parent (event.return None)
    ∷ child event.take
    ∷ parent event.deliver
    ∷ parent event.take
    ∷ parent (event.return None) ∷ []

-- An end closes, and the other one settles its promises.
abbrev pub close_with_promises : List Move
close_with_promises =
    parent (event.send top pq_get none None)
    ∷ parent (event.send top pq_get none None)
    ∷ parent (event.send top pq_get none None)
    ∷ child (event.send top pq_tell (a_number (pos 1)) None)
    ∷ child (event.send top pq_tell (a_number (pos 2)) None)
    ∷ child event.close
    ∷ parent event.deliver
    ∷ parent event.deliver
    ∷ parent event.deliver
    ∷ parent event.take
    ∷ parent (event.return None)
    ∷ parent event.take
    ∷ parent (event.return None)
    ∷ parent event.take ∷ []

-- An end dies under two waits of the other.
abbrev pub death_under_waits : List Move
death_under_waits =
    parent (event.send top pw_call_c none None)
    ∷ child event.deliver
    ∷ child event.take
    ∷ child (event.send top pw_call_p none None)
    ∷ parent event.deliver
    ∷ parent event.take
    ∷ parent (event.send top pw_call_c none None)
    ∷ child event.deliver
    ∷ child event.take
    ∷ child event.die
    ∷ parent event.deliver
    ∷ parent event.resume
    ∷ parent (event.return None)
    ∷ parent event.resume
    ∷ parent event.take ∷ []

-- Requests that later ones replace.
abbrev pub compression : List Move
compression =
    child (event.send top pc_up (a_number (pos 1)) None)
    ∷ child (event.send top pc_up (a_number (pos 2)) None)
    ∷ child (event.send top pc_mark none None)
    ∷ child (event.send top pc_up (a_number (pos 3)) None)
    ∷ child (event.send top pc_alls (a_number (pos 1)) None)
    ∷ child (event.send top pc_mark none None)
    ∷ child (event.send top pc_alls (a_number (pos 2)) None)
    ∷ child (event.send top pc_ask (a_number (pos 1)) None)
    ∷ child (event.send top pc_ask (a_number (pos 2)) None)
    ∷ parent event.deliver
    ∷ parent event.deliver
    ∷ parent event.deliver
    ∷ parent event.deliver
    ∷ parent event.deliver
    ∷ parent event.deliver
    ∷ parent event.deliver
    ∷ parent event.deliver
    ∷ parent event.deliver
    ∷ parent event.take
    ∷ child event.deliver
    ∷ parent (event.return None)
    ∷ child event.take
    ∷ parent event.take
    ∷ parent (event.return None)
    ∷ parent event.take
    ∷ parent (event.return None)
    ∷ parent event.take
    ∷ parent (event.return None)
    ∷ parent event.take
    ∷ parent (event.return None)
    ∷ parent event.take
    ∷ parent (event.return None)
    ∷ child event.deliver
    ∷ child event.take ∷ []

-- Lazy requests wait in the outbox.
abbrev pub lazy_outbox : List Move
lazy_outbox =
    child (event.send top plz_lz (a_number (pos 1)) None)
    ∷ child (event.send top plz_lz (a_number (pos 2)) None)
    ∷ child (event.send top plz_now none None)
    ∷ parent event.deliver
    ∷ child (event.send top plz_lz (a_number (pos 3)) None)
    ∷ parent event.take
    ∷ child event.flush
    ∷ parent (event.return None)
    ∷ parent event.deliver
    ∷ parent event.take
    ∷ parent (event.return None)
    ∷ parent event.deliver
    ∷ parent event.take
    ∷ parent (event.return None)
    ∷ parent event.deliver
    ∷ parent event.take
    ∷ parent (event.return None) ∷ []

-- A resolver is kept, and answers later.
abbrev pub kept_resolver : List Move
kept_resolver =
    child (event.send top pq_get none None)
    ∷ child (event.send top pq_tell (a_number (pos 1)) None)
    ∷ parent event.deliver
    ∷ parent event.take
    ∷ parent (event.keep (negsuc 0) (codes "k"))
    ∷ parent (event.return None)
    ∷ parent event.deliver
    ∷ parent event.take
    ∷ parent (event.answer (event.kept (codes "k") pq_get) (Some (a_number (pos 5))))
    ∷ child event.deliver
    ∷ parent (event.return None)
    ∷ child event.take ∷ []

-- An actor falls while messages to it and from it are in transit.
abbrev pub drops : List Move
drops =
    child (event.send top pown_construct none (Some (codes "t")))
    ∷ child (event.send (pos 4) ptmp_delete none None)
    ∷ parent event.deliver
    ∷ child (event.send (pos 4) ptmp_hi none None)
    ∷ parent event.take
    ∷ parent (event.send (pos 4) ptmp_hi none None)
    ∷ child event.deliver
    ∷ parent (event.send top pown_mark (an_actor (pos 4)) None)
    ∷ child event.take
    ∷ parent (event.return None)
    ∷ child event.deliver
    ∷ parent event.deliver
    ∷ child event.take
    ∷ parent event.take
    ∷ child (event.return None)
    ∷ parent (event.return None) ∷ []
