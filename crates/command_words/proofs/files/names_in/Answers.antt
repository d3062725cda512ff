use Rattle.std.proofs.Common.{◌∙◌, map, ap}
use Rattle.std.proofs.lemmas.Result.{IfOk-weaker}
use Rattle.std.proofs.lemmas.Iterator.{items_from_collect}
use Rattle.std.proofs.lemmas.Iterator.Consumers.{YieldsList-from_copied, YieldsList-from_rest}
use Rattle.command_words.proofs.Noting.{values_names}
use Rattle.command_words.proofs.files.names_in.Goals as goal

pub returns : goal.returns
returns c =
    let all = items_from_collect c.collect.result c.collect.ensures.ran (YieldsList-from_copied (YieldsList-from_rest _ (c.copied.ensures.source ∙ c.values.ensures.rest))) in
    IfOk-weaker c.collect.result _ _ (λ names is. ap (map (λ name. name.now)) is ∙ values_names c.args.files.now.entries) all
