use Rattle.std.specs.Prelude.{IfSome, Ok}
use Rattle.file_log.specs.Recorded.{reads_of}
use Rattle.file_log.proofs.Between.{failed_ends, then_ends}
use Rattle.include_graph.specs.Load.{IsAnswer}
use Rattle.ipdl_base.specs.Outside.{FileMap, IsHeldWithin}
use Rattle.ipdl_top.specs.CommandFiles.{given_by}
use Rattle.ipdl_top.specs.FileViews.{FileViews}
use Rattle.ipdl_top.specs.FilesFound.{AreNamedFound, named_view}
use Rattle.ipdl_top.specs.Steps.{IsHeld}
use Rattle.ipdl_top.proofs.Views.{of_parts}
use Rattle.ipdl_top.proofs.reading.read_named.Goals as goal

pub returns-in_err-list-clause-ended : goal.returns-in_err-list-clause-ended
returns-in_err-list-clause-ended g c =
    let old = reads_of c.args.files.now in
    let new = reads_of c.read_if_named.new.files in
    let ends = then_ends old (reads_of c.load.new.files) new c.read_if_named.result c.in_ok-loaded.ensures.ended c.read_if_named.ensures.ended in
    failed_ends old new c.read_if_named.result c.from_residual-in_err-list.result c.in_err-list.field-0.0 c.in_err-list.was c.from_residual-in_err-list.ensures.1 ends

pub returns-in_err-script-clause-ended : goal.returns-in_err-script-clause-ended
returns-in_err-script-clause-ended g c =
    let old = reads_of c.args.files.now in
    let mid = reads_of c.read_if_named.new.files in
    let new = reads_of c.read_if_named-2.new.files in
    let before = then_ends old (reads_of c.load.new.files) mid (Ok c.in_ok-list.list) c.in_ok-loaded.ensures.ended c.in_ok-list.ensures.ended in
    let ends = then_ends old mid new c.read_if_named-2.result before c.read_if_named-2.ensures.ended in
    failed_ends old new c.read_if_named-2.result c.from_residual-in_err-script.result c.in_err-script.field-0.0 c.in_err-script.was c.from_residual-in_err-script.ensures.1 ends

pub returns-in_err-input-clause-ended : goal.returns-in_err-input-clause-ended
returns-in_err-input-clause-ended g c =
    let old = reads_of c.args.files.now in
    let mid = reads_of c.read_if_named.new.files in
    let last = reads_of c.read_if_named-2.new.files in
    let new = reads_of c.read_if_named-3.new.files in
    let before = then_ends old (reads_of c.load.new.files) mid (Ok c.in_ok-list.list) c.in_ok-loaded.ensures.ended c.in_ok-list.ensures.ended in
    let more = then_ends old mid last (Ok c.in_ok-script.script) before c.in_ok-script.ensures.ended in
    let ends = then_ends old last new c.read_if_named-3.result more c.read_if_named-3.ensures.ended in
    failed_ends old new c.read_if_named-3.result c.from_residual-in_err-input.result c.in_err-input.field-0.0 c.in_err-input.was c.from_residual-in_err-input.ensures.1 ends

pub returns-clause-ended : goal.returns-clause-ended
returns-clause-ended g c =
    let old = reads_of c.args.files.now in
    let mid = reads_of c.read_if_named.new.files in
    let last = reads_of c.read_if_named-2.new.files in
    let before = then_ends old (reads_of c.load.new.files) mid (Ok c.in_ok-list.list) c.in_ok-loaded.ensures.ended c.in_ok-list.ensures.ended in
    let more = then_ends old mid last (Ok c.in_ok-script.script) before c.in_ok-script.ensures.ended in
    then_ends old last (reads_of c.read_if_named-3.new.files) (Ok c.in_ok-input.input) more c.in_ok-input.ensures.ended

pub returns-clause-reads : goal.returns-clause-reads
returns-clause-reads g c =
    let named = named_view c.args.named.now in
    let loaded = c.in_ok-loaded.loaded in
    let P : FileMap → Type 0 = λ files. IsAnswer (given_by files named.path named.program) loaded in
    let Q : FileMap → Type 0 = λ lists. IfSome named.list (λ name. IsHeld (lists name) c.in_ok-list.list) in
    let S : FileMap → Type 0 = λ scripts. IfSome named.script (λ name. IsHeld (scripts name) c.in_ok-script.script) in
    let T : FileMap → Type 0 = λ inputs. IfSome named.input (λ name. IsHeldWithin named.input_limit (inputs name) c.in_ok-input.input) in
    let R : FileViews → Type 0 = λ seen. AreNamedFound named seen (record { checked = c.in_ok-checked.checked; script = c.in_ok-script.script; input = c.in_ok-input.input }) in
    of_parts P Q S T R c.in_ok-loaded.ensures.told c.in_ok-list.ensures.told c.in_ok-script.ensures.told
    (λ seen answer listed script input. record { checked = c.in_ok-checked.ensures (given_by seen.files named.path named.program) seen.list answer listed; script = script; input = input })
    c.in_ok-loaded.ensures.reads c.in_ok-list.ensures.reads c.in_ok-script.ensures.reads c.in_ok-input.ensures.reads
