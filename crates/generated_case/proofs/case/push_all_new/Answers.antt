use Rattle.generated_case.specs.Texts.{new_line}
use Rattle.generated_case.proofs.Numbers.{one_more}
use Rattle.generated_case.proofs.case.push_all_new.Goals as goal

pub loop-index-preserved : goal.loop-index-preserved
loop-index-preserved c = one_more new_line _ _ _ c.loop-index.index c.loop-index.invariant c.in_ok-push_new.ensures
