use Rattle.world_core.proofs.half.Half.deliver_for.Given as goal

abbrev pub ghost-offer_packet : goal.ghost-offer_packet
ghost-offer_packet g a = g.progress

abbrev pub ghost-break_off : goal.ghost-break_off
ghost-break_off g a = g.progress
