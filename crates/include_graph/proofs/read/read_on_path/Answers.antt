use Rattle.std.proofs.Common.{◌≡◌, ℕ, List, map, subst, Bor}
use Rattle.std.specs.Prelude.{None, Option, Some}
use Rattle.ipdl_base.specs.FileNames.{key_of}
use Rattle.ipdl_base.specs.Outside.{FileMap}
use Rattle.file_log.specs.Log.{ForReads, HaveNames, ReadEntry}
use Rattle.file_log.specs.Recorded.{reads_of}
use Rattle.file_log.proofs.Between.{for_each}
use Rattle.include_graph.specs.declared.read.FoundFile.{FoundFile}
use Rattle.include_graph.specs.Reading.{IsFirstOnPath, IsSource}
use Rattle.include_graph.specs.Sources.{name_on_path}
use Rattle.include_graph.proofs.Readings.{source_absent, source_found}
use Rattle.include_graph.proofs.read.read_on_path.Goals as goal

-- the first file of the key is that of an equal key
module _ {told : Option FileMap} {old new : List ReadEntry} (path : List (List ℕ)) (text key : List ℕ) (first which : Option FoundFile) (is_key : text ≡ key) (is : first ≡ which) where
  first_is : ForReads told old new (λ files. IsFirstOnPath files path text first) → ForReads told old new (λ files. IsFirstOnPath files path key which)
  first_is h = subst (λ k. ForReads told old new (λ files. IsFirstOnPath files path k which)) is_key (subst (λ (o : Option FoundFile). ForReads told old new (λ files. IsFirstOnPath files path text o)) is h)

pub returns-in_ok-absent_source-in-None-clause-source : goal.returns-in_ok-absent_source-in-None-clause-source
returns-in_ok-absent_source-in-None-clause-source g c =
    let key = c.args.key.now in
    let path = map (λ (d : Bor (List ℕ)). d.now) c.args.path.now in
    let source = c.in_ok-absent_source-in-None.field-0 in
    let P : FileMap → Type 0 = λ files. IsFirstOnPath files path key None in
    let Q : FileMap → Type 0 = λ files. IsSource c.args.number key files (name_on_path files path key) source in
    for_each P Q
    (λ files first. source_absent c.args.number key files path source c.in_ok-absent_source-in-None.ensures.text c.in_ok-absent_source-in-None.ensures.content first)
    (first_is path c.in-Ok.text.now key c.in_ok-find_on_path.field-0 None c.in-Ok.ensures.cases.0 c.in-None.is c.in_ok-find_on_path.ensures.first)

pub returns-in_ok-absent_source-in-None-clause-names : goal.returns-in_ok-absent_source-in-None-clause-names
returns-in_ok-absent_source-in-None-clause-names g c =
    subst (λ key. HaveNames (λ name. key_of name ≡ key) (reads_of c.args.files.now) (reads_of c.find_on_path.new.files)) c.in-Ok.ensures.cases.0 c.in_ok-find_on_path.ensures.names

pub returns-in_ok-source_of_found-in-Some-clause-source : goal.returns-in_ok-source_of_found-in-Some-clause-source
returns-in_ok-source_of_found-in-Some-clause-source g c =
    let key = c.args.key.now in
    let path = map (λ (d : Bor (List ℕ)). d.now) c.args.path.now in
    let source = c.in_ok-source_of_found-in-Some.field-0 in
    let file = c.in-Some.file in
    let P : FileMap → Type 0 = λ files. IsFirstOnPath files path key (Some file) in
    let Q : FileMap → Type 0 = λ files. IsSource c.args.number key files (name_on_path files path key) source in
    for_each P Q
    (λ files first. source_found c.args.number key files path file source c.in_ok-source_of_found-in-Some.ensures.text (λ held h. c.in_ok-source_of_found-in-Some.ensures.content held h) first)
    (first_is path c.in-Ok.text.now key c.in_ok-find_on_path.field-0 (Some file) c.in-Ok.ensures.cases.0 c.in-Some.is c.in_ok-find_on_path.ensures.first)

pub returns-in_ok-source_of_found-in-Some-clause-names : goal.returns-in_ok-source_of_found-in-Some-clause-names
returns-in_ok-source_of_found-in-Some-clause-names g c =
    subst (λ key. HaveNames (λ name. key_of name ≡ key) (reads_of c.args.files.now) (reads_of c.find_on_path.new.files)) c.in-Ok.ensures.cases.0 c.in_ok-find_on_path.ensures.names
