-- Every legal history gives what its events owe.
use Rattle.order_statements.specs.Laws.{HistoriesGiveWhatIsOwed}
use Rattle.order_statements.proofs.AnswersLaw.{answers-hold}
use Rattle.order_statements.proofs.EffectsLaw.{history-effects-owed}

pub histories_give_what_they_owe : HistoriesGiveWhatIsOwed
histories_give_what_they_owe schema sound top moves = record {
  effects = history-effects-owed schema sound top moves;
  answers = answers-hold schema sound top moves;
}
