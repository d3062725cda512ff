use Rattle.std.proofs.Common.{subst, sym}
use Rattle.std.proofs.lemmas.Result.{IfOk-weaker}
use Rattle.ipdl_top.specs.FilesFound.{AreFound, files_read}
use Rattle.ipdl_top.specs.declared.command_files.CommandFiles.{CommandFiles}
use Rattle.ipdl_top.proofs.Views.{no_views}
use Rattle.ipdl_top.proofs.program.read_files.Goals as goal

pub returns-in-Case-clause-reads : goal.returns-in-Case-clause-reads
returns-in-Case-clause-reads g c =
    IfOk-weaker c.read_case.result _ _
    (λ found are. no_views _ _ (λ seen. AreFound (files_read c.args.named.now) seen found) (λ seen. subst (λ (files : CommandFiles). AreFound (files_read files) seen found) (sym c.in-Case.is) are)) c.read_case.ensures.found

pub returns-in-Named-clause-reads : goal.returns-in-Named-clause-reads
returns-in-Named-clause-reads g c = rw c.in-Named.is c.read_named.ensures.reads
