use Rattle.std.proofs.Common.{SFits, w32, rules, to_z-of_z, sym, ◌∙◌}
use Rattle.std.proofs.lemmas.Result.{on_ok_weaker}
use Rattle.order_checks.specs.Answered.{numbers_of}
use Rattle.order_checks.proofs.Answering.{answered-same, answered-with}
use Rattle.order_checks.proofs.answered.AnsweredNumbers.note.Goals as goal

pub returns-in-Some : goal.returns-in-Some
returns-in-Some c =
    let fits : SFits w32 c.in-Some.n = search rules in
    on_ok_weaker c.push.result (λ one lines are end. answered-with end lines c.args.line.now c.in-Some.n (numbers_of end c.args.self.now) (numbers_of end c.push.new.self) (sym c.number_answered.ensures ∙ c.in-Some.is) (are end) (one end)) (rw (to_z-of_z fits) at c.push.ensures)

pub returns-in-None : goal.returns-in-None
returns-in-None c = λ lines are end. are end ∙ sym (answered-same end lines c.args.line.now (sym c.number_answered.ensures ∙ c.in-None.is))
