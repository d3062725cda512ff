use Rattle.std.proofs.Common.{◌≡◌, true, false, sym, ◌∙◌}
use Rattle.wait_report.specs.Least.{is_built, can_send}
use Rattle.wait_report.proofs.Looks.{message-built}
use Rattle.wait_report.proofs.rounds.look_at_message.Goals as goal

pub returns-then-can_send : goal.returns-then-can_send
returns-then-can_send c =
    let new : is_built c.args.built.now.items c.in-Constructor.protocol ≡ false = sym (rw c.as_slice.ensures.value at c.is_built.ensures) ∙ c.if-not-is_built.true in
    let sends : can_send c.args.types.now c.args.built.now.items c.args.row.now ≡ true = sym (rw c.as_slice-then-not-is_built.ensures.value at c.can_send.ensures) ∙ c.if-can_send.true in
    message-built c.args.schema.now c.args.types.now c.args.built.now.items c.args.row.now c.in-Constructor.protocol c.in-Constructor.is c.requires.right new sends
