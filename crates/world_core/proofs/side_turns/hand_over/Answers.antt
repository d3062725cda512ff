use Rattle.std.proofs.Common.{◌≡◌, ◌∙◌, sym, ap, Some, option_map}
use Rattle.handler_script.specs.ScriptOf.{first_of}
use Rattle.ipdl_base.specs.declared.kinds.Side.{Side}
use Rattle.world_core.proofs.Delivering.{few-delivered, first-accepted, first-gives, may-count, opens-so}
use Rattle.world_core.proofs.side_turns.hand_over.Goals as goal
use Rattle.world_core.specs.LinkView.{packets_to}

pub deliver-requires : goal.deliver-requires
deliver-requires g c =
    let stands = c.requires.0 in
    let may = c.requires.1.1 in
    let first : first_of (packets_to g.at.1 c.args.link.now) ≡ Some c.in-Some.packet.now =
    ap (λ (s : Side). first_of (packets_to s c.args.link.now)) (sym c.requires.1.0) ∙ sym c.first.ensures ∙ ap (option_map (λ p. p.now)) c.in-Some.is in
    let opens = opens-so g.at.0 g.at.1 c.args.half.now c.args.link.now stands may in (
      stands.half_is.counted,
      (
        opens,
        (
          few-delivered g.at.0 g.at.1 c.args.half.now c.args.link.now stands,
          (may-count g.at.0 g.at.1 c.args.half.now c.args.link.now stands may, first-accepted g.at.0 g.at.1 c.args.half.now c.args.link.now stands c.in-Some.packet.now first c.holds_bytes.ensures opens),
        ),
      ),
    )

pub returns : goal.returns
returns g c =
    let first : first_of (packets_to g.at.1 c.args.link.now) ≡ Some c.in-Some.packet.now =
    ap (λ (s : Side). first_of (packets_to s c.args.link.now)) (sym c.requires.1.0) ∙ sym c.first.ensures ∙ ap (option_map (λ p. p.now)) c.in-Some.is in
    first-gives g.at.0 g.at.1 c.args.half.now c.args.link.now c.requires.0 c.in-Some.packet.now first c.holds_bytes.ensures c.deliver.result c.deliver.new.self c.deliver.ensures
