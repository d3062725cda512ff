use Rattle.answer_laws.proofs.Managers.{managers_alike}
use Rattle.answer_laws.proofs.Messages.{messages_alike}
use Rattle.answer_laws.proofs.Types.{types_alike}
use Rattle.answer_laws.proofs.programs.break_alike.Goals as goal

pub returns : goal.returns
returns c = λ program other f alike. (types_alike program other alike f, managers_alike program other alike f, messages_alike program other alike f)
