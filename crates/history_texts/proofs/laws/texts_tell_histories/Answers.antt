use Rattle.history_texts.proofs.Histories as law
use Rattle.history_texts.proofs.laws.texts_tell_histories.Goals as goal

pub returns : goal.returns
returns c = law.texts_tell_histories
