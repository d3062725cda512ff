use Rattle.std.proofs.Common.{◌≡◌, map, sym, subst}
use Rattle.ipdl_base.specs.declared.kinds.EndState.TheVariants.{Open}
use Rattle.pending_queue.specs.Plain.{plain_item}
use Rattle.end_parts.specs.PlainLines.{plain_what}
use Rattle.channel_core.specs.EndView.{EndView}
use Rattle.channel_core.proofs.DeliveryLemmas.{farewell_gives}
use Rattle.channel_core.proofs.EndViews.{end_in}
use Rattle.channel_core.proofs.FarewellLemmas.{room_for_farewell}
use Rattle.channel_core.proofs.end.End.deliver_farewell.Goals as goal

pub receive_end-requires : goal.receive_end-requires
receive_end-requires c = room_for_farewell c.self.inside.schema.now (end_in c.self.inside) c.self.inside.out (subst (λ (s : EndView). s.end.state ≡ Open) (sym c.self.view_is) c.requires.open) c.self.invariant

pub invariant_of-self-2 : goal.invariant_of-self-2
invariant_of-self-2 c =
    (farewell_gives c.self.inside c.args.self.now c.self.view_is c.self.invariant c.requires.open c.args.goodbye c.requires.farewell (plain_what c.farewell_parts-what.result.0) (plain_item c.farewell_parts-what.result.1) c.farewell_parts-what.ensures.line c.farewell_parts-what.ensures.item
    (map plain_item c.receive_end.new.pending.items) c.receive_end.new.stack c.receive_end.new.out c.in_ok-receive_end.ensures.arrived c.in_ok-receive_end.ensures.ok).inside

pub returns-clause-ok : goal.returns-clause-ok
returns-clause-ok c =
    (farewell_gives c.self.inside c.args.self.now c.self.view_is c.self.invariant c.requires.open c.args.goodbye c.requires.farewell (plain_what c.farewell_parts-what.result.0) (plain_item c.farewell_parts-what.result.1) c.farewell_parts-what.ensures.line c.farewell_parts-what.ensures.item
    (map plain_item c.receive_end.new.pending.items) c.receive_end.new.stack c.receive_end.new.out c.in_ok-receive_end.ensures.arrived c.in_ok-receive_end.ensures.ok).steps
