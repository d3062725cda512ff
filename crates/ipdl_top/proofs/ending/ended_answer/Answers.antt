use Rattle.std.proofs.Common.{◌++◌}
use Rattle.script_runs.specs.Endings.{ending_line}
use Rattle.ipdl_top.specs.Ended.{ending_by}
use Rattle.ipdl_top.proofs.EndedAnswers.{ended_so}
use Rattle.ipdl_top.proofs.ending.ended_answer.Goals as goal

pub returns : goal.returns
returns c =
    ended_so (λ ending. c.args.text.items ++ ending_line ending) c.args.ending (ending_by c.in_ok-spent.spent) c.in_ok-out.out.items c.answer_with.result c.in_ok-spent.ensures c.in_ok-out.ensures c.answer_with.ensures
