use Rattle.std.proofs.Common.{ℕ, ◌≤◌, sym, subst}
use Rattle.value_types.specs.declared.layout.TheConstants.{NEW}
use Rattle.end_steps.proofs.answer_packet.packet_of_reply.Goals as goal

pub returns-clause-frame : goal.returns-clause-frame
returns-clause-frame c =
    let schema = c.args.schema.now in
    let reply = c.args.reply in
    record {
      fits = (c.boxes_say_nothing.ensures.fits schema reply).1 c.requires.fits;
      small = subst (λ (n : ℕ). n ≤ NEW.most_payload) (sym (c.boxes_say_nothing.ensures.payload NEW schema reply)) c.in_ok-frame.ensures.spelling.small;
      spelled = c.in_ok-frame.ensures.frame;
    }
