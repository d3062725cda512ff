use Rattle.std.proofs.Common.{◌∙◌}
use Rattle.ipdl_base.specs.declared.files.TheConstants.{MOST_BYTES}
use Rattle.ipdl_base.specs.Outside.{FileMap, IsHeldWithin}
use Rattle.std.specs.Prelude.{Some}
use Rattle.file_log.specs.Recorded.{files_of}
use Rattle.file_log.proofs.Between.{for_each, one_read}
use Rattle.include_graph.specs.Reading.{IsSource}
use Rattle.include_graph.specs.declared.read.SourceFile.{SourceFile}
use Rattle.include_graph.proofs.Readings.{of_word}
use Rattle.include_graph.proofs.read.read_word.Goals as goal

pub returns-clause-source : goal.returns-clause-source
returns-clause-source g c =
    let key = c.args.key.now in
    let word = c.args.word.now in
    let found = c.in_ok-found.found in
    let source : SourceFile = record { text = c.in_ok-from_slice.field-0; content = c.in_ok-content.content } in
    let P : FileMap → Type 0 = λ files. IsHeldWithin MOST_BYTES (files word) found in
    let Q : FileMap → Type 0 = λ files. IsSource c.args.number key files (Some word) source in
    for_each P Q
    (λ files held. of_word c.args.number key word files found source (c.in_ok-from_slice.ensures.ok ∙ c.as_bytes.ensures.value) c.in_ok-content.ensures held)
    (one_read (g.F.Files.known (files_of c.args.files.now)) word MOST_BYTES found c.in_ok-found.ensures.logged c.in_ok-found.ensures.small c.in_ok-found.ensures.held)
