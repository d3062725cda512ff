use Rattle.std.proofs.Common.{◌∙◌, ℤ, ap, to_z-of_z}
use Rattle.std.proofs.lemmas.Result.{IfOk-weaker}
use Rattle.feed_runs.specs.declared.fault.FeedFault.TheVariants.{WrongActor}
use Rattle.ipdl_top.specs.Feed.{kept_line}
use Rattle.ipdl_top.proofs.feed.wrong_actor_line.Goals as goal

pub returns : goal.returns
returns c = IfOk-weaker c.numbered_line.result _ _ (λ line says. says ∙ ap (λ (id : ℤ). kept_line c.args.name.now (WrongActor c.args.at id)) (to_z-of_z c.ranges.id)) c.numbered_line.ensures
