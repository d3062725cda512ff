use Rattle.std.proofs.Common.{map}
use Rattle.ipdl_base.specs.Plain.{plain_message, plain_values}
use Rattle.pending_queue.specs.Plain.{plain_item}
use Rattle.value_types.proofs.Boxes.{fits}
use Rattle.channel_core.proofs.ArrivalLemmas.{may_answer}
use Rattle.channel_core.proofs.DeliveryLemmas.{few_constructors, may_here, plain_request, request_gives, request_in}
use Rattle.channel_core.proofs.EndViews.{end_in, seen_in}
use Rattle.channel_core.proofs.end.End.deliver_request.Goals as goal

pub receive_request-requires-clause-fits : goal.receive_request-requires-clause-fits
receive_request-requires-clause-fits c =
    let a = c.self.inside in
    let m = c.args.message in
    let may = may_here a c.args.self.now c.self.view_is c.self.invariant c.requires.open c.args.row.now m c.requires.may in
    let vs = request_in m.body c.requires.request in
    may_answer a.schema.now c.self.invariant.sound (end_in a) c.args.row.now (plain_message m) (plain_values vs.0) c.self.invariant.kept.fitting.arrived ((fits a.schema.now m).1 may.fits) (plain_request m vs.0 vs.1) may.found

pub counting-self-inside-requires : goal.counting-self-inside-requires
counting-self-inside-requires c = few_constructors (seen_in c.self.inside) c.args.row.now c.args.message (may_here c.self.inside c.args.self.now c.self.view_is c.self.invariant c.requires.open c.args.row.now c.args.message c.requires.may) c.requires.request

pub invariant_of-self-2 : goal.invariant_of-self-2
invariant_of-self-2 c =
    (request_gives c.self.inside c.args.self.now c.self.view_is c.self.invariant c.requires.open c.args.row.now c.args.message c.requires.may c.requires.request
    (map plain_item c.receive_request.new.pending.items) c.receive_request.new.out c.counting-self-inside.result c.in_ok-receive_request.ensures.ok c.counting-self-inside.ensures).inside

pub returns-clause-ok : goal.returns-clause-ok
returns-clause-ok c =
    (request_gives c.self.inside c.args.self.now c.self.view_is c.self.invariant c.requires.open c.args.row.now c.args.message c.requires.may c.requires.request
    (map plain_item c.receive_request.new.pending.items) c.receive_request.new.out c.counting-self-inside.result c.in_ok-receive_request.ensures.ok c.counting-self-inside.ensures).steps
