use Rattle.std.proofs.Common.{Option, None, sym, ap, ◌∙◌}
use Rattle.std.specs.Option.{option_map_or}
use Rattle.ipdl_base.specs.declared.schema.MessageRow.{MessageRow}
use Rattle.ipdl_base.specs.Plain.{plain_body, plain_message}
use Rattle.channel_model.specs.Refusals.{body_refusal}
use Rattle.channel_core.specs.EndView.{EndView}
use Rattle.channel_core.proofs.end.End.delivery_refusal.Goals as goal

pub returns : goal.returns
returns c =
    let m = c.args.message.now in
    c.delivery_refusal.ensures
    ∙ ap (λ (s : EndView). body_refusal s.schema s.end (plain_message m) (plain_body m.body) c.args.row.now) c.self.view_is
    ∙ ap (λ (r : Option MessageRow). option_map_or (body_refusal c.args.self.now.schema c.args.self.now.end (plain_message m) (plain_body m.body)) r None) (sym c.requires.found)
