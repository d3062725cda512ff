-- The file of a key, by the bytes of its names.
use Rattle.std.proofs.Common.{◌≡◌, ◌≢◌, ℕ, cond, List, [], ◌∷◌, ◌++◌, refl, sym, ◌∙◌, ap, subst, map, is_some, string_bytes}
use Rattle.std.specs.Prelude.{IfSome, None, Ok, Option, Some, find}
use Rattle.std.specs.List.{AllPairs, Contains}
use Rattle.std.specs.Option.{option_or}
use Rattle.std.proofs.lemmas.List.{map-append}
use Rattle.std.proofs.lemmas.List.Folds.{find-append}
use Rattle.ipdl_base.specs.declared.files.FileBytes.{FileBytes}
use Rattle.ipdl_base.specs.declared.files.FileBytes.TheVariants.{Absent, Larger, Bytes}
use Rattle.ipdl_base.specs.declared.files.TheConstants.{MOST_BYTES}
use Rattle.ipdl_base.specs.Outside.{FileMap, HasAtMost, IsHeldWithin}
use Rattle.file_log.specs.Log.{ForReads, HaveNames, ReadEntry, entries_of}
use Rattle.file_log.proofs.Between.{for_both, more_names, one_name, one_read}
use Rattle.include_graph.specs.declared.content.Content.TheVariants as content
use Rattle.include_graph.specs.declared.read.FoundFile.{FoundFile}
use Rattle.include_graph.specs.declared.read.SourceFile.{SourceFile}
use Rattle.include_graph.specs.Reading.{IsContent, IsFirstOnPath, IsSource}
use Rattle.include_graph.specs.Sources.{in_directory, name_on_path}
use Rattle.include_graph.proofs.Directories.{new_name}

-- a key that is read under a word
pub of_word : (number : ℕ) (key word : List ℕ) (files : FileMap) (found : FileBytes) (source : SourceFile) → source.text ≡ word
    → ((held : Option (List ℕ)) → IsHeldWithin MOST_BYTES held found → IsContent number key held source.content)
    → IsHeldWithin MOST_BYTES (files word) found → IsSource number key files (Some word) source
of_word number key word files found source called has held = record { called = called; content = has (files word) held }

-- the first name on a path of two parts
path_append : (files : FileMap) (before after : List (List ℕ)) (key : List ℕ) → name_on_path files (before ++ after) key ≡ option_or (name_on_path files before key) (name_on_path files after key)
path_append files before after key =
    ap (find (λ name. is_some (files name))) (map-append (λ d. in_directory d key) before after)
    ∙ find-append (λ name. is_some (files name)) (map (λ d. in_directory d key) before) (map (λ d. in_directory d key) after)

-- if there is no file in the first part, the second decides
after_none : (files : FileMap) (before after : List (List ℕ)) (key : List ℕ) → name_on_path files before key ≡ None → name_on_path files (before ++ after) key ≡ name_on_path files after key
after_none files before after key none = path_append files before after key ∙ ap (λ o. option_or o (name_on_path files after key)) none

-- a further directory in which there is no file of the key
pub none_step : (files : FileMap) (before : List (List ℕ)) (d key : List ℕ) (found : FileBytes) → found ≡ Absent
    → name_on_path files before key ≡ None → IsHeldWithin MOST_BYTES (files (in_directory d key)) found → name_on_path files (before ++ d ∷ []) key ≡ None
none_step files before d key found is none held =
    let absent : files (in_directory d key) ≡ None = subst (IsHeldWithin MOST_BYTES (files (in_directory d key))) is held in
    after_none files before (d ∷ []) key none ∙ ap (λ o. cond (is_some o) (Some (in_directory d key)) None) absent

-- a file is found, unless it is absent
held_some : (held : Option (List ℕ)) (found : FileBytes) → found ≢ Absent → IsHeldWithin MOST_BYTES held found → (bytes : List ℕ) × (held ≡ Some bytes)
held_some held (Bytes bytes) there h = (bytes.items, h.0)
held_some held Larger there h = (h.bytes, h.has)
held_some held Absent there h = absurd (there refl)

-- the first directory in which there is one
pub found_first : (files : FileMap) (before after : List (List ℕ)) (d key : List ℕ) (file : FoundFile) → string_bytes file.name ≡ in_directory d key → file.found ≢ Absent
    → name_on_path files before key ≡ None → IsHeldWithin MOST_BYTES (files (in_directory d key)) file.found → IsFirstOnPath files (before ++ d ∷ after) key (Some file)
found_first files before after d key file called there none held =
    let bytes = held_some (files (in_directory d key)) file.found there held in
    let is : name_on_path files (before ++ d ∷ after) key ≡ Some (in_directory d key) = after_none files before (d ∷ after) key none ∙ ap (λ o. cond (is_some o) (Some (in_directory d key)) (name_on_path files after key)) bytes.1 in
    (is ∙ ap Some (sym called), subst (λ name. IsHeldWithin MOST_BYTES (files name) file.found) (sym called) held)

-- the file of a key that is on the path, and of one that is not
pub source_found : (number : ℕ) (key : List ℕ) (files : FileMap) (path : List (List ℕ)) (file : FoundFile) (source : SourceFile) → source.text ≡ string_bytes file.name
    → ((held : Option (List ℕ)) → IsHeldWithin MOST_BYTES held file.found → IsContent number key held source.content)
    → IsFirstOnPath files path key (Some file) → IsSource number key files (name_on_path files path key) source
source_found number key files path file source called has first =
    subst (λ o. IsSource number key files o source) (sym first.0) (record { called = called; content = has (files (string_bytes file.name)) first.1 })

pub source_absent : (number : ℕ) (key : List ℕ) (files : FileMap) (path : List (List ℕ)) (source : SourceFile) → source.text ≡ key → source.content ≡ content.Absent
    → IsFirstOnPath files path key None → IsSource number key files (name_on_path files path key) source
source_absent number key files path source called is none =
    subst (λ o. IsSource number key files o source) (sym none) (record { called = called; content = subst (IsContent number key None) (sym is) refl })

-- One more name on the path is read, in a directory that differs from those before it.
module _ (told again : Option FileMap) (old mid new : List ReadEntry) (before after : List (List ℕ)) (d key name : List ℕ) (found : FileBytes)
    (once : AllPairs (λ one other. one ≢ other) (before ++ d ∷ after)) (named : name ≡ in_directory d key) (logged : new ≡ mid ++ entries_of name MOST_BYTES (Ok found))
    (names : HaveNames (Contains (map (λ x. in_directory x key) before)) old mid) where
  pub path_more : (R : FileMap → Type 0) → again ≡ told → HasAtMost MOST_BYTES found → IfSome again (λ files. IsHeldWithin MOST_BYTES (files name) found)
      → ((files : FileMap) → name_on_path files before key ≡ None → IsHeldWithin MOST_BYTES (files (in_directory d key)) found → R files)
      → ForReads told old mid (λ files. name_on_path files before key ≡ None) → ForReads told old new R
  path_more R same small held to none =
      for_both (λ files. name_on_path files before key ≡ None) (λ files. IsHeldWithin MOST_BYTES (files name) found) R same
      names (one_name (λ n. n ≡ name) name MOST_BYTES found logged refl)
      (λ n earlier is. new_name before after d key once (subst (Contains (map (λ x. in_directory x key) before)) (is ∙ named) earlier))
      (λ files absent h. to files absent (subst (λ n. IsHeldWithin MOST_BYTES (files n) found) named h))
      none (one_read again name MOST_BYTES found logged small held)

  pub path_names : (IsOne : List ℕ → Type 0) → ((n : List ℕ) → Contains (map (λ x. in_directory x key) before) n → IsOne n) → IsOne (in_directory d key) → HaveNames IsOne old new
  path_names IsOne to is =
      more_names (Contains (map (λ x. in_directory x key) before)) (λ n. n ≡ name) IsOne to (λ n e. subst IsOne (sym (e ∙ named)) is)
      names (one_name (λ n. n ≡ name) name MOST_BYTES found logged refl)
