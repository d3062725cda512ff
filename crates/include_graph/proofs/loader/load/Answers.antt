use Rattle.std.proofs.Common.{map, string_bytes}
use Rattle.ipdl_base.specs.Outside.{FileMap}
use Rattle.file_log.proofs.Between.{for_each, for_some}
use Rattle.include_graph.specs.Load.{IsAnswer}
use Rattle.include_graph.specs.Reading.{IsGathered}
use Rattle.include_graph.specs.Sources.{LoadInput}
use Rattle.include_graph.proofs.loader.load.Goals as goal

pub result_of-requires : goal.result_of-requires
result_of-requires g c =
    let some = for_some c.in_ok-gathered.ensures.gathered in
    (record { files = some.0; words = map string_bytes c.args.names.now; path = map string_bytes c.args.path.now }, some.1)

pub returns-clause-reads : goal.returns-clause-reads
returns-clause-reads g c =
    let given : FileMap → LoadInput = λ files. record { files = files; words = map string_bytes c.args.names.now; path = map string_bytes c.args.path.now } in
    let P : FileMap → Type 0 = λ files. IsGathered (given files) c.in_ok-gathered.gathered.words c.in_ok-gathered.gathered.keys.keys c.in_ok-gathered.gathered.files.items in
    let Q : FileMap → Type 0 = λ files. IsAnswer (given files) c.in_ok-result_of.field-0 in
    for_each P Q (λ files gathered. c.in_ok-result_of.ensures.answer (given files) gathered) c.in_ok-gathered.ensures.gathered
