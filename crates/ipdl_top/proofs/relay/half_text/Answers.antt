use Rattle.std.proofs.Common.{◌∙◌, sym}
use Rattle.std.proofs.lemmas.Result.{IfOk-weaker}
use Rattle.ipdl_top.proofs.relay.half_text.Goals as goal

pub returns : goal.returns
returns c = IfOk-weaker c.history_text.result _ _ (λ text is. is ∙ sym (c.texts_see_no_box.ensures c.args.schema.now c.args.half.now.lines)) c.history_text.ensures
