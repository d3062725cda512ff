use Rattle.std.proofs.Common.{List, ℕ, ap}
use Rattle.end_parts.specs.declared.packet.Packet.TheVariants.{Bytes}
use Rattle.channel_core.proofs.FrameLemmas.{plain_framed}
use Rattle.channel_core.proofs.ready_request.make_frame.Goals as goal

pub returns-clause-ready : goal.returns-clause-ready
returns-clause-ready c = record {
  frame = ap (λ (bytes : List ℕ). Bytes bytes) c.in_ok-frame.ensures.frame;
  framed = plain_framed c.args.schema.now c.args.message.now c.in_ok-frame.frame c.in_ok-frame.ensures.spelling;
}
