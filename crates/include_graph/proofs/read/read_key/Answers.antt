use Rattle.std.proofs.Common.{ℕ, List, map, sym, subst, Bor}
use Rattle.std.specs.Prelude.{IfOk, Option}
use Rattle.std.specs.Option.{option_copied, option_or}
use Rattle.file_log.specs.Log.{ForReads}
use Rattle.file_log.specs.Recorded.{files_of, reads_of}
use Rattle.include_graph.specs.Reading.{IsSource}
use Rattle.include_graph.specs.Sources.{name_on_path}
use Rattle.include_graph.proofs.read.read_key.Goals as goal

pub returns-in-Some-clause-source : goal.returns-in-Some-clause-source
returns-in-Some-clause-source g c =
    let key = c.args.key.now in
    let path = map (λ (d : Bor (List ℕ)). d.now) c.args.path.now in
    let told = g.F.Files.known (files_of c.args.files.now) in
    subst (λ (word : Option (Bor (List ℕ))). IfOk c.read_word.result (λ source. ForReads told (reads_of c.args.files.now) (reads_of c.read_word.new.files) (λ m. IsSource c.args.number key m (option_or (option_copied word) (name_on_path m path key)) source)))
    (sym c.in-Some.is) c.read_word.ensures.source

pub returns-in-None-clause-source : goal.returns-in-None-clause-source
returns-in-None-clause-source g c =
    let key = c.args.key.now in
    let path = map (λ (d : Bor (List ℕ)). d.now) c.args.path.now in
    let told = g.F.Files.known (files_of c.args.files.now) in
    subst (λ (word : Option (Bor (List ℕ))). IfOk c.read_on_path.result (λ source. ForReads told (reads_of c.args.files.now) (reads_of c.read_on_path.new.files) (λ m. IsSource c.args.number key m (option_or (option_copied word) (name_on_path m path key)) source)))
    (sym c.in-None.is) c.read_on_path.ensures.source
