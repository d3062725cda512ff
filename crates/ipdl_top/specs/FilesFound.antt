-- What is found of the files that a command reads.
use Rattle.std.specs.Prelude.{ℕ, ◌≤◌, map, string_bytes, IfSome}
use Rattle.std.specs.Option.{option_copied}
use Rattle.ipdl_base.specs.Outside.{IsHeldWithin}
use Rattle.include_graph.specs.Keys.{AreFileWords}
use Rattle.ipdl_top.specs.declared.command_files.CommandFiles.{CommandFiles}
use Rattle.ipdl_top.specs.declared.command_files.CommandFiles.TheVariants as files
use Rattle.ipdl_top.specs.declared.command_files.NamedFiles.{NamedFiles}
use Rattle.ipdl_top.specs.declared.reading.FoundFiles.{FoundFiles}
use Rattle.ipdl_top.specs.CommandFiles.{FilesRead, NamedView, generated, given_by, named, names_read, seen_by}
use Rattle.ipdl_top.specs.FileViews.{FileViews}
use Rattle.ipdl_top.specs.Steps.{IsChecked, IsHeld}

-- the names of files, and what a command reads, as they are seen
abbrev pub named_view : NamedFiles → NamedView
named_view files = record {
  program = map string_bytes files.program.now;
  path = map string_bytes files.path.now;
  list = option_copied files.list;
  script = option_copied files.script;
  input = option_copied files.input;
  input_limit = files.input_limit;
}

abbrev pub files_read : CommandFiles → FilesRead
files_read (files.Named names) = named (named_view names)
files_read (files.Case rounds actors) = generated rounds actors

-- The numbers of a generated case are in their ranges.
pub record AreCaseNumbers (rounds actors : ℕ) : Type 0 where
  pub some_rounds : 1 ≤ rounds
  pub few_rounds : rounds ≤ 1000
  pub some_actors : 1 ≤ actors
  pub few_actors : actors ≤ 100

-- words of files, or a generated case that exists
abbrev pub AreReadable : FilesRead → Type 0
AreReadable (named names) = AreFileWords names.program
AreReadable (generated rounds actors) = AreCaseNumbers rounds actors

-- What was found of files of these names, by what is seen of them.
pub record AreNamedFound (names : NamedView) (seen : FileViews) (found : FoundFiles) : Type 0 where
  pub checked : IsChecked (given_by seen.files names.path names.program) seen.list names.list found.checked
  pub script : IfSome names.script (λ name. IsHeld (seen.script name) found.script)
  pub input : IfSome names.input (λ name. IsHeldWithin names.input_limit (seen.input name) found.input)

-- what was found of what a command reads
abbrev pub AreFound : FilesRead → FileViews → FoundFiles → Type 0
AreFound files seen found = AreNamedFound (names_read files) (seen_by files seen) found
