use Rattle.std.proofs.Common.{◌≡◌, ◌∙◌, None, subst, sym}
use Rattle.ipdl_base.specs.declared.schema.Schema.{Schema}
use Rattle.end_parts.specs.PacketReading.{packet_read}
use Rattle.world_core.proofs.KeptHalves.{closed-gives, reads-framed, roomy-apart, roomy-each, roomy-gives, spent-gives}
use Rattle.world_core.proofs.half.Half.accept.Goals as goal
use Rattle.world_core.specs.HalfSteps.{next_of}
use Rattle.world_core.specs.HalfView.{HalfView}
use Rattle.world_core.specs.Relaying.{AcceptGives, own_progress}

pub returns-then-not-is_open-clause-gives : goal.returns-then-not-is_open-clause-gives
returns-then-not-is_open-clause-gives c = closed-gives c.args.self.now (λ (s : Schema). packet_read s c.args.packet.now) (sym c.is_open.ensures ∙ c.if-not-is_open.true)

pub returns-then-not-is_open-clause-reads : goal.returns-then-not-is_open-clause-reads
returns-then-not-is_open-clause-reads c = reads-framed c.args.self.now c.requires.apart c.args.packet.now c.holds_bytes.ensures

pub returns-then-is_spent-clause-gives : goal.returns-then-is_spent-clause-gives
returns-then-is_spent-clause-gives c =
    spent-gives c.args.self.now (λ (s : Schema). packet_read s c.args.packet.now) c.side.result (sym c.is_open.ensures ∙ c.if-not-is_open.false) (sym c.is_spent.ensures ∙ c.if-is_spent.true) c.side.ensures

pub returns-then-is_spent-clause-reads : goal.returns-then-is_spent-clause-reads
returns-then-is_spent-clause-reads c = reads-framed c.args.self.now c.requires.apart c.args.packet.now c.holds_bytes.ensures

pub returns-in-Err-clause-gives : goal.returns-in-Err-clause-gives
returns-in-Err-clause-gives c = roomy-each c.args.self.now c.make_room.new.self c.make_room.ensures.same

pub returns-in-Err-clause-reads : goal.returns-in-Err-clause-reads
returns-in-Err-clause-reads c = reads-framed c.args.self.now c.requires.apart c.args.packet.now c.holds_bytes.ensures

pub take_in-requires-clause-apart : goal.take_in-requires-clause-apart
take_in-requires-clause-apart c = roomy-apart c.args.self.now c.make_room.new.self c.make_room.ensures.same c.requires.apart

pub take_in-requires-clause-rests : goal.take_in-requires-clause-rests
take_in-requires-clause-rests c = subst (λ (h : HalfView). next_of h (own_progress h) ≡ None) (sym c.make_room.ensures.same) c.requires.rests

pub returns-in-Ok-clause-gives : goal.returns-in-Ok-clause-gives
returns-in-Ok-clause-gives c =
    roomy-gives (λ setting side state handed. AcceptGives setting side state handed (packet_read setting.schema c.args.packet.now) c.take_in.result c.take_in.new.self) c.args.self.now c.make_room.new.self c.make_room.ensures.same c.take_in.ensures

pub returns-in-Ok-clause-reads : goal.returns-in-Ok-clause-reads
returns-in-Ok-clause-reads c = reads-framed c.args.self.now c.requires.apart c.args.packet.now c.holds_bytes.ensures
