use Rattle.ipdl_top.specs.Ended.{ending_by}
use Rattle.ipdl_top.specs.Run.{rendered}
use Rattle.ipdl_top.proofs.EndedAnswers.{ended_so}
use Rattle.ipdl_top.proofs.run.answer_of_history.Goals as goal

pub returns : goal.returns
returns c =
    ended_so (rendered c.args.rendering c.args.schema.now c.args.world.now.state.lines) c.args.ending (ending_by c.in_ok-spent.spent) c.in_ok-out.out.items c.answer_with.result c.in_ok-spent.ensures c.in_ok-out.ensures c.answer_with.ensures
