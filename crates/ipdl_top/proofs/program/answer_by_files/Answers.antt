use Rattle.std.proofs.Common.{subst}
use Rattle.command_words.specs.Command.{view_of}
use Rattle.ipdl_top.specs.CommandAnswer.{AnswersTo}
use Rattle.ipdl_top.specs.FileViews.{FileViews}
use Rattle.ipdl_top.specs.CommandFiles.{FilesRead}
use Rattle.ipdl_top.specs.FilesFound.{AreFound, files_read}
use Rattle.ipdl_top.proofs.Views.{for_each_view, some_seen}
use Rattle.ipdl_top.proofs.program.answer_by_files.Goals as goal

pub returns-clause-reads : goal.returns-clause-reads
returns-clause-reads g c =
    let P : FileViews → Type 0 = λ seen. AreFound (files_read c.files_of_command.result) seen c.in_ok-found.found in
    let Q : FileViews → Type 0 = λ seen. AnswersTo (g.D.Driver.Gives c.args.driver.now) (g.Q.Relay.Gives c.args.relay.now) seen (view_of c.args.command.now) c.in_ok-answer_command.field-0 in
    for_each_view P Q
    (λ seen are. c.in_ok-answer_command.ensures seen (subst (λ (files : FilesRead). AreFound files seen c.in_ok-found.found) c.files_of_command.ensures are))
    c.in_ok-found.ensures.reads

pub answer_command-requires-clause-found : goal.answer_command-requires-clause-found
answer_command-requires-clause-found g c =
    let P : FileViews → Type 0 = λ seen. AreFound (files_read c.files_of_command.result) seen c.in_ok-found.found in
    let s = some_seen P c.in_ok-found.ensures.reads in
    (s.0, subst (λ (files : FilesRead). AreFound files s.0 c.in_ok-found.found) c.files_of_command.ensures s.1)
