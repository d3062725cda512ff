-- Worked deliveries of messages that an end takes or refuses.
use Rattle.std.specs.Prelude.{◌≡◌, ℕ, ℤ, pos, negsuc, [], ◌∷◌, Option, Some, None, refl}
use Rattle.ipdl_base.specs.declared.kinds.Reason.TheVariants.{HandlerRejected}
use Rattle.ipdl_base.specs.declared.kinds.Side.TheVariants as side
use Rattle.ipdl_base.specs.declared.message.Body.{Body}
use Rattle.ipdl_base.specs.declared.message.Body.TheVariants.{Request, Reply, Fault}
use Rattle.ipdl_base.specs.declared.message.Message.{Message}
use Rattle.channel_model.specs.Acts.{goodbye}
use Rattle.channel_model.specs.Ends.{End, opening, mark, message}
use Rattle.channel_model.specs.Events as event
use Rattle.channel_model.specs.Refusals.{DeliveryRefusal, wrong_direction, wrong_number, wrong_new_id, stray, wrong_actor, packet_refusal}
use Rattle.channel_model.specs.Runs.{run}
use Rattle.channel_model.proofs.WorkedSchemas.{top, none, a_number, an_actor, trading, pshop, asking, pq_tell, pshop_construct, pshop_find, pshop_swap}

-- a message that comes to the trader: its actor, its message, its number and what it carries
abbrev sent : ℤ → ℕ → ℤ → Body → Message
sent route number seq body = record { route = route; number = number; seq = seq; transaction = pos 0; made = pos 0; body = body }

-- the parent of the trade, which has made an actor, asked for one and calls to swap it
abbrev pub trader : End
trader = (run trading (
    record { side = side.Parent; event = event.send top pshop_construct none None }
    ∷ record { side = side.Parent; event = event.send top pshop_find none None }
    ∷ record { side = side.Parent; event = event.send top pshop_swap (an_actor (pos 6)) None } ∷ []) (opening pshop)).world.parent

abbrev refusal : Message → Option DeliveryRefusal
refusal m = packet_refusal trading trader (message m)

-- requests

next_request : refusal (sent top pshop_find (negsuc 0) (Request none)) ≡ None
next_request = refl

another_number : refusal (sent top pshop_find (negsuc 1) (Request none)) ≡ Some wrong_number
another_number = refl

next_actor : refusal (record (sent top pshop_construct (negsuc 0) (Request none)) { made = pos 4 }) ≡ None
next_actor = refl

another_actor : refusal (record (sent top pshop_construct (negsuc 0) (Request none)) { made = pos 8 }) ≡ Some wrong_new_id
another_actor = refl

-- the id of the route is that of an item, and not of a shop
item_as_a_shop : refusal (sent (pos 6) pshop_find (negsuc 0) (Request none)) ≡ Some (wrong_actor (pos 6) pshop_find)
item_as_a_shop = refl

-- the top actor is no item
shop_as_an_item : refusal (sent top pshop_swap (negsuc 0) (Request (an_actor top))) ≡ Some (wrong_actor top pshop_swap)
shop_as_an_item = refl

-- an actor that does not live is not another one
fallen_actor : refusal (sent top pshop_swap (negsuc 0) (Request (an_actor (pos 10)))) ≡ None
fallen_actor = refl

-- only the parent receives this message
own_message : packet_refusal asking (opening 0).child (message (sent top pq_tell (pos 1) (Request (a_number (pos 1))))) ≡ Some wrong_direction
own_message = refl

-- replies: each has the number after that of its request's message

promised : refusal (sent top 65539 (pos 2) (Reply (an_actor (pos 6)))) ≡ None
promised = refl

not_promised : refusal (sent top 65539 (pos 1) (Fault HandlerRejected)) ≡ Some (stray (pos 1))
not_promised = refl

waited_for : refusal (sent top 65541 (pos 3) (Reply (an_actor (pos 0)))) ≡ None
waited_for = refl

not_waited_for : refusal (sent top 65541 (pos 2) (Reply (an_actor (pos 0)))) ≡ Some (stray (pos 2))
not_waited_for = refl

of_another_actor : refusal (sent (pos 6) 65541 (pos 3) (Reply (an_actor (pos 0)))) ≡ Some (stray (pos 3))
of_another_actor = refl

shop_in_a_reply : refusal (sent top 65539 (pos 2) (Reply (an_actor top))) ≡ Some (wrong_actor top 65539)
shop_in_a_reply = refl

-- a goodbye and a mark are always accepted

farewell : refusal goodbye ≡ None
farewell = refl

death : packet_refusal trading trader mark ≡ None
death = refl
