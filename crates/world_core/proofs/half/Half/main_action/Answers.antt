use Rattle.std.proofs.Common.{◌∙◌, sym, ap, subst}
use Rattle.channel_model.specs.Outputs.{is_open}
use Rattle.script_parts.specs.Tables.{IsTableOf}
use Rattle.world_core.specs.Counted.{action_in, block_at}
use Rattle.world_core.specs.HalfView.{HalfView}
use Rattle.world_core.proofs.NextKinds.{main-is}
use Rattle.world_core.proofs.half.Half.main_action.Goals as goal

pub returns-in-Open : goal.returns-in-Open
returns-in-Open c p counted =
    let h : HalfView = c.args.self.now in
    let same = c.self.view_is in
    main-is h p counted c.main_block.result c.main.result _
    (ap is_open (sym (ap (λ (v : HalfView). v.end.end.state) same) ∙ sym c.state.ensures ∙ c.in-Open.is))
    (c.main_block.ensures h.script.blocks h.end.end.side p.taken (subst (λ (v : HalfView). IsTableOf h.script.blocks h.end.end.side p.taken v.counts.table) (sym same) counted.counts.table))
    (c.main.ensures ∙ ap (λ (v : HalfView). v.counts.main) same)
    (c.action_in.ensures ∙ ap (λ (v : HalfView). action_in (block_at v.script c.main_block.result) c.main.result) same)
