use Rattle.std.proofs.Common.{inl, inr, map}
use Rattle.std.specs.Prelude.{string_bytes}
use Rattle.std.proofs.lemmas.Result.{IfOk-weaker}
use Rattle.command_words.specs.Command.{view_of}
use Rattle.ipdl_top.specs.CommandAnswer.{AnswersTo, IsAnswer}
use Rattle.ipdl_top.specs.FileViews.{FileViews}
use Rattle.ipdl_top.specs.declared.answer.CommandAnswer.{CommandAnswer}
use Rattle.ipdl_top.proofs.Views.{for_each_view, no_views}
use Rattle.ipdl_top.proofs.program.answer_to.Goals as goal

pub returns-in-Ok-clause-reads : goal.returns-in-Ok-clause-reads
returns-in-Ok-clause-reads g c =
    let words = map string_bytes c.args.words.now in
    let Gives = g.D.Driver.Gives c.args.driver.now in
    let Relays = g.Q.Relay.Gives c.args.relay.now in
    let command = view_of c.in-Ok.command in
    let P : CommandAnswer → FileViews → Type 0 = λ answer seen. AnswersTo Gives Relays seen command answer in
    let Q : CommandAnswer → FileViews → Type 0 = λ answer seen. IsAnswer Gives Relays seen words answer in
    IfOk-weaker c.answer_by_files.result _ _ (λ answer reads. for_each_view (P answer) (Q answer) (λ seen h. inl (record { command = command; said = c.in-Ok.ensures.command; answers = h })) reads) c.answer_by_files.ensures.reads

pub returns-in-Err-Usage-clause-reads : goal.returns-in-Err-Usage-clause-reads
returns-in-Err-Usage-clause-reads g c =
    let none = c.in-Err-Usage.ensures.usage c.in-Err-Usage.field-0-is in
    IfOk-weaker c.answer_without_command.result _ _ (λ answer says. no_views _ _ _ (λ seen. inr (none, says))) c.answer_without_command.ensures.answer
