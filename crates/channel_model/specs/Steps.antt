-- What each event does at an end, where it is possible.
use Rattle.std.specs.Prelude.{Bool, true, false, List, [], ◌∷◌, Option, Some, None, option_and_then}
use Rattle.ipdl_base.specs.declared.schema.Schema.{Schema}
use Rattle.channel_model.specs.Acts.{name_actor, close, may_die, die}
use Rattle.channel_model.specs.Answers.{answered_row, may_answer, answer, may_keep, keep}
use Rattle.channel_model.specs.Deliveries.{deliver}
use Rattle.channel_model.specs.Ends.{End, Packet}
use Rattle.channel_model.specs.Events.{Event}
use Rattle.channel_model.specs.Events as event
use Rattle.channel_model.specs.Numbers.{request_row}
use Rattle.channel_model.specs.Outputs.{Output, Change, beginning, is_open}
use Rattle.channel_model.specs.Returns.{dispatch_on_top, may_return, return, answered_wait_on_top, resume, may_flush, flush}
use Rattle.channel_model.specs.Sends.{may_act, may_send, send}
use Rattle.channel_model.specs.Takes.{taken_next, take}

-- a step where it is possible
abbrev pub provided : Bool → Change → End → Option Output
provided true change e = Some (change (beginning e))
provided false change e = None

-- the packet that is delivered next
abbrev pub first_packet : List Packet → Option Packet
first_packet [] = None
first_packet (packet ∷ rest) = Some packet

-- What an event at an end makes, given the packets on the link toward the end; `None` where the event is not
-- possible.
abbrev pub step : Schema → End → List Packet → Event → Option Output
step schema e link (event.send route number vs name) = option_and_then (λ row. provided (may_send schema e row vs name) (send schema e row route vs name) e) (request_row schema number)
step schema e link (event.answer by vs) = option_and_then (λ row. provided (may_answer schema e row vs) (answer schema e row by vs) e) (answered_row schema e by)
step schema e link (event.keep seq name) = provided (may_keep e seq) (keep e seq name) e
step schema e link (event.name name id) = provided (may_act e) (name_actor name id) e
step schema e link event.close = provided (may_act e) (close e) e
step schema e link event.die = provided (may_die e) die e
step schema e link event.deliver = option_and_then (λ packet. provided (is_open e.state) (deliver schema packet) e) (first_packet link)
step schema e link event.take = option_and_then (λ item. provided true (take schema item) e) (taken_next e)
step schema e link (event.return vs) =
    option_and_then (λ entry. option_and_then (λ row. provided (may_return schema row vs) (return schema e row entry vs) e) (request_row schema entry.number)) (dispatch_on_top e.stack)
step schema e link event.resume = option_and_then (λ wait. option_and_then (λ row. provided true (resume schema e wait row) e) (request_row schema wait.number)) (answered_wait_on_top e.stack)
step schema e link event.flush = provided (may_flush e) flush e
