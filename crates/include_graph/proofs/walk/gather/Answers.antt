use Rattle.std.proofs.Common.{◌≡◌, ℕ, List, length, map, ◌∙◌, ap, subst, arith, string_bytes, Bor}
use Rattle.std.proofs.lemmas.List.{length-map}
use Rattle.ipdl_base.specs.Outside.{FileMap}
use Rattle.file_log.specs.Log.{ForReads}
use Rattle.file_log.specs.Recorded.{files_of, reads_of}
use Rattle.file_log.proofs.Between.{for_each}
use Rattle.include_graph.specs.Growth.{AreDifferent, HasWords}
use Rattle.include_graph.specs.Keys.{different}
use Rattle.include_graph.specs.Reading.{AreRead, IsGathered}
use Rattle.include_graph.proofs.WalkEnds.{on_whole_path}
use Rattle.include_graph.proofs.walk.gather.Goals as goal

pub returns-clause-gathered : goal.returns-clause-gathered
returns-clause-gathered g c =
    let words = map string_bytes c.args.words.now in
    let path = map string_bytes c.args.path.now in
    let first = c.add_words.new.keys.keys in
    let firsts = map (λ (f : Bor (List ℕ)). f.now) c.add_words.new.firsts.items in
    let list = c.walk.new.keys.keys in
    let reached = c.in_ok-files.files.items in
    let has_words : HasWords words first firsts = c.in_ok-add_words.ensures in
    let directories : AreDifferent path (map (λ (d : Bor (List ℕ)). d.now) c.in_ok-directories.directories.items) = c.in_ok-directories.ensures in
    let counted : length firsts ≡ c.len.result = omega (arith, c.len.ensures, c.add_words.new.firsts.ok.0, length-map c.add_words.new.firsts.items (λ (f : Bor (List ℕ)). f.now)) in
    let searched : map (λ (d : Bor (List ℕ)). d.now) c.as_slice-2.result.now ≡ different path = ap (map (λ (d : Bor (List ℕ)). d.now)) c.as_slice-2.ensures.value ∙ directories.are in
    let P : FileMap → Type 0 = λ m. AreRead (record { files = m; words = words; path = different path }) list reached in
    let Q : FileMap → Type 0 = λ m. IsGathered (record { files = m; words = words; path = path }) c.len.result list reached in
    for_each P Q
    (λ m read. record { first = first; firsts = firsts; words = has_words; counted = counted; read = on_whole_path m words path list reached read })
    (subst (λ ds. ForReads (g.F.Files.known (files_of c.args.files.now)) (reads_of c.args.files.now) (reads_of c.walk.new.files) (λ m. AreRead (record { files = m; words = words; path = ds }) list reached)) searched c.in_ok-files.ensures.read)
