use Rattle.generated_case.specs.Texts.{round_lines}
use Rattle.generated_case.proofs.Numbers.{one_more}
use Rattle.generated_case.proofs.case.push_all_rounds.Goals as goal

pub loop-index-preserved : goal.loop-index-preserved
loop-index-preserved c = one_more (round_lines c.args.rounds c.args.actors) _ _ _ c.loop-index.index c.loop-index.invariant c.in_ok-push_round.ensures
