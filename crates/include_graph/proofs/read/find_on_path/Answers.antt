use Rattle.std.proofs.Common.{◌≡◌, ℕ, ◌+◌, List, ◌∷◌, [], ◌++◌, length, map, take, drop, get_or, sym, ◌∙◌, ap, subst, arith, refl, ◌<◌, ◌≢◌, Bor}
use Rattle.std.specs.Prelude.{None, Option, Some}
use Rattle.std.specs.List.{AllPairs, Contains}
use Rattle.std.proofs.lemmas.List.{append_assoc, take_more, take_all, map-append, take-append-drop}
use Rattle.std.proofs.lemmas.List.Elements.{Contains-append_left, Contains-push}
use Rattle.ipdl_base.specs.declared.files.FileBytes.TheVariants.{Absent}
use Rattle.ipdl_base.specs.declared.files.TheConstants.{MOST_BYTES}
use Rattle.ipdl_base.specs.FileNames.{key_of}
use Rattle.ipdl_base.specs.Outside.{FileMap}
use Rattle.file_log.specs.Log.{ForReads}
use Rattle.file_log.specs.Recorded.{files_of, reads_of}
use Rattle.file_log.proofs.Between.{each_name, failed_ends, for_succeeded, no_memory_ends, no_names, no_reads, read_ends, then_ends}
use Rattle.include_graph.specs.declared.read.FoundFile.{FoundFile}
use Rattle.include_graph.specs.Reading.{IsFirstOnPath}
use Rattle.include_graph.specs.Sources.{in_directory, name_on_path}
use Rattle.include_graph.proofs.Directories.{key_in, keys_in}
use Rattle.include_graph.proofs.Readings.{found_first, none_step, path_more, path_names}
use Rattle.include_graph.proofs.read.find_on_path.Goals as goal

-- the directories of a path
abbrev texts : List (Bor (List ℕ)) → List (List ℕ)
texts path = map (λ (d : Bor (List ℕ)). d.now) path

-- one more directory
more : (path : List (Bor (List ℕ))) (i : ℕ) (d : Bor (List ℕ)) → i < length path → texts (take (i + 1) path) ≡ texts (take i path) ++ (get_or path i d).now ∷ []
more path i d within = ap texts (take_more path i d within) ∙ map-append (λ (x : Bor (List ℕ)). x.now) (take i path) (get_or path i d ∷ [])

-- the path by one directory and those before it
parts : (path : List (Bor (List ℕ))) (i : ℕ) (d : Bor (List ℕ)) → i < length path → texts (take i path) ++ (get_or path i d).now ∷ texts (drop (i + 1) path) ≡ texts path
parts path i d within =
    sym (append_assoc (texts (take i path)) ((get_or path i d).now ∷ []) (texts (drop (i + 1) path)))
    ∙ ap (λ ds. ds ++ texts (drop (i + 1) path)) (sym (more path i d within))
    ∙ sym (map-append (λ (x : Bor (List ℕ)). x.now) (take (i + 1) path) (drop (i + 1) path))
    ∙ ap texts (take-append-drop (i + 1) path)

pub loop-directory-init : goal.loop-directory-init
loop-directory-init g c = record {
  none = no_reads (g.F.Files.known (files_of c.args.files.now)) (reads_of c.args.files.now) (λ files. ◌≡◌ {A = Option (List ℕ)} None None) (λ files. refl);
  names = no_names (Contains []) (reads_of c.args.files.now);
  told = refl;
  count = omega arith;
}

pub returns-in_err-name-clause-ended : goal.returns-in_err-name-clause-ended
returns-in_err-name-clause-ended g c = no_memory_ends (reads_of c.args.files.now) (reads_of c.loop-directory.files) c.from_residual.result c.from_residual.ensures.1 (for_succeeded c.loop-directory.invariant.none)

pub returns-in_err-found-clause-ended : goal.returns-in_err-found-clause-ended
returns-in_err-found-clause-ended g c =
    let mid = reads_of c.loop-directory.files in
    let new = reads_of c.read.new.self in
    then_ends (reads_of c.args.files.now) mid new c.from_residual-in_err-found.result (for_succeeded c.loop-directory.invariant.none)
    (failed_ends mid new c.read.result c.from_residual-in_err-found.result c.in_err-found.field-0.0 c.in_err-found.was c.from_residual-in_err-found.ensures.1
    (read_ends mid new c.as_str.result.now MOST_BYTES c.read.result c.read.ensures.logged))

pub returns-in_default : goal.returns-in_default
returns-in_default g c =
    let key = c.args.key.now in
    let path = c.args.path.now in
    let i = c.loop-directory.directory-index in
    let item : Bor (List ℕ) = record { ref_ptr = (0, 0); now = [] } in
    let d = (get_or path i item).now in
    let before = texts (take i path) in
    let after = texts (drop (i + 1) path) in
    let old = reads_of c.args.files.now in
    let mid = reads_of c.loop-directory.files in
    let new = reads_of c.read.new.self in
    let told = g.F.Files.known (files_of c.args.files.now) in
    let again = g.F.Files.known (files_of c.loop-directory.files) in
    let found = c.in_ok-found.found in
    let file : FoundFile = record { name = c.in_ok-name.name; found = found } in
    let whole : before ++ d ∷ after ≡ texts path = parts path i item c.loop-directory-test.true in
    let once = subst (AllPairs (λ one other. one ≢ other)) (sym whole) c.requires.directories in
    let named : c.as_str.result.now ≡ in_directory d key = c.as_str.ensures.value ∙ c.in_ok-name.ensures in
    let there : found ≢ Absent = c.in_default.not-Absent in
    let Q : FileMap → Type 0 = λ files. IsFirstOnPath files (before ++ d ∷ after) key (Some file) in
    let reads : ForReads told old new Q =
    path_more told again old mid new before after d key c.as_str.result.now found once named c.in_ok-found.ensures.logged c.loop-directory.invariant.names Q c.loop-directory.invariant.told
    c.in_ok-found.ensures.small c.in_ok-found.ensures.held (λ files none held. found_first files before after d key file c.in_ok-name.ensures there none held) c.loop-directory.invariant.none in
    record {
      first = subst (λ ds. ForReads told old new (λ files. IsFirstOnPath files ds key (Some file))) whole reads;
      small = c.in_ok-found.ensures.small;
      names = path_names told again old mid new before after d key c.as_str.result.now found once named c.in_ok-found.ensures.logged c.loop-directory.invariant.names (λ n. key_of n ≡ key)
          (λ n earlier. keys_in before key n c.requires.own earlier) (key_in d key c.requires.own);
      ended = for_succeeded reads;
      told = c.read.ensures.map ∙ c.loop-directory.invariant.told;
      count = (let a = c.loop-directory.invariant.count in let b = c.read.ensures.count in omega arith);
      read_fault = λ e. absurd (let none : ⊥ = cc in none);
    }

pub loop-directory-preserved : goal.loop-directory-preserved
loop-directory-preserved g c =
    let key = c.args.key.now in
    let path = c.args.path.now in
    let i = c.loop-directory.directory-index in
    let item : Bor (List ℕ) = record { ref_ptr = (0, 0); now = [] } in
    let d = (get_or path i item).now in
    let before = texts (take i path) in
    let after = texts (drop (i + 1) path) in
    let old = reads_of c.args.files.now in
    let mid = reads_of c.loop-directory.files in
    let new = reads_of c.read.new.self in
    let told = g.F.Files.known (files_of c.args.files.now) in
    let again = g.F.Files.known (files_of c.loop-directory.files) in
    let found = c.in_ok-found.found in
    let front : before ++ d ∷ [] ≡ texts (take (i + 1) path) = sym (more path i item c.loop-directory-test.true) in
    let once = subst (AllPairs (λ one other. one ≢ other)) (sym (parts path i item c.loop-directory-test.true)) c.requires.directories in
    let named : c.as_str.result.now ≡ in_directory d key = c.as_str.ensures.value ∙ c.in_ok-name.ensures in
    let absent : found ≡ Absent = c.in-Absent.is in
    let names_of : List (List ℕ) → List (List ℕ) = λ ds. map (λ x. in_directory x key) ds in
    let last : Contains (names_of (before ++ d ∷ [])) (in_directory d key) = subst (λ ns. Contains ns (in_directory d key)) (sym (map-append (λ x. in_directory x key) before (d ∷ []))) (Contains-push (names_of before) (in_directory d key)) in
    let earlier : (n : List ℕ) → Contains (names_of before) n → Contains (names_of (before ++ d ∷ [])) n = λ n c'. subst (λ ns. Contains ns n) (sym (map-append (λ x. in_directory x key) before (d ∷ []))) (Contains-append_left (names_of before) (in_directory d key ∷ []) n c') in
    let Q : FileMap → Type 0 = λ files. name_on_path files (texts (take (i + 1) path)) key ≡ None in
    record {
      none = path_more told again old mid new before after d key c.as_str.result.now found once named c.in_ok-found.ensures.logged c.loop-directory.invariant.names Q c.loop-directory.invariant.told
          c.in_ok-found.ensures.small c.in_ok-found.ensures.held
          (λ files none held. subst (λ ds. name_on_path files ds key ≡ None) front (none_step files before d key found absent none held))
          c.loop-directory.invariant.none;
      names = path_names told again old mid new before after d key c.as_str.result.now found once named c.in_ok-found.ensures.logged c.loop-directory.invariant.names (Contains (names_of (texts (take (i + 1) path))))
          (λ n c'. subst (λ ds. Contains (names_of ds) n) front (earlier n c')) (subst (λ ds. Contains (names_of ds) (in_directory d key)) front last);
      told = c.read.ensures.map ∙ c.loop-directory.invariant.told;
      count = (let a = c.loop-directory.invariant.count in let b = c.read.ensures.count in omega arith);
    }

pub returns-clause-first : goal.returns-clause-first
returns-clause-first g c =
    let key = c.args.key.now in
    let path = c.args.path.now in
    let told = g.F.Files.known (files_of c.args.files.now) in
    subst (λ (ds : List (Bor (List ℕ))). ForReads told (reads_of c.args.files.now) (reads_of c.loop-directory.files) (λ files. name_on_path files (texts ds) key ≡ None))
    (take_all c.loop-directory.directory-index path c.loop-directory-test.false) c.loop-directory.invariant.none

pub returns-clause-names : goal.returns-clause-names
returns-clause-names g c =
    let key = c.args.key.now in
    let before = texts (take c.loop-directory.directory-index c.args.path.now) in
    each_name (Contains (map (λ x. in_directory x key) before)) (λ n. key_of n ≡ key) (λ n earlier. keys_in before key n c.requires.own earlier) c.loop-directory.invariant.names

pub returns-clause-ended : goal.returns-clause-ended
returns-clause-ended g c = for_succeeded c.loop-directory.invariant.none
