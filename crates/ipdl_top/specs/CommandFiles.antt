-- The files that a command reads.
use Rattle.std.specs.Prelude.{ℕ, List, [], ◌∷◌, Option, Some, None}
use Rattle.ipdl_base.specs.declared.files.TheConstants.{MOST_BYTES}
use Rattle.ipdl_base.specs.Outside.{FileMap}
use Rattle.command_words.specs.Command.{CommandView, audit, chart, compile, explore, feed, frames, gen, relay, run, waits}
use Rattle.include_graph.specs.Sources.{LoadInput}
use Rattle.transcripts.specs.Compared.{most_text_bytes}
use Rattle.ipdl_top.specs.FileViews.{FileViews, steady}
use Rattle.ipdl_top.specs.Gen.{case_files, case_path, holder_name, script_name}

-- The names of the files that a command reads: those of a program, which are looked for on the path, and, if they are
-- given, the sync list, the script and the input, of which at most `input_limit` bytes are read.
pub record NamedView : Type 0 where
  pub program : List (List ℕ)
  pub path : List (List ℕ)
  pub list : Option (List ℕ)
  pub script : Option (List ℕ)
  pub input : Option (List ℕ)
  pub input_limit : ℕ

-- what a command reads: files of these names, or those of a generated case, by its numbers of rounds and actors
pub data FilesRead : Type 0 where
  named : NamedView → FilesRead
  generated : ℕ → ℕ → FilesRead

-- the names of a command that reads a program, and no script and no input
abbrev pub program_named : Option (List ℕ) → List (List ℕ) → List (List ℕ) → NamedView
program_named list path program = record { program = program; path = path; list = list; script = None; input = None; input_limit = MOST_BYTES }

-- what a command reads
abbrev pub files_by : CommandView → FilesRead
files_by (compile list path names) = named (program_named list path names)
files_by (frames list path file name convert) = named (record (program_named list path (file ∷ [])) { input = Some name })
files_by (waits list path file) = named (program_named list path (file ∷ []))
files_by (run list path course script file) = named (record (program_named list path (file ∷ [])) { script = Some script })
files_by (gen rounds actors) = generated rounds actors
files_by (feed list path course script file name) = named (record (program_named list path (file ∷ [])) { script = Some script; input = Some name })
files_by (audit list path limit script file name) =
    named (record (program_named list path (file ∷ [])) { script = Some script; input = Some name; input_limit = most_text_bytes })
files_by (relay list path course script file) = named (record (program_named list path (file ∷ [])) { script = Some script })
files_by (chart list path course script file) = named (record (program_named list path (file ∷ [])) { script = Some script })
files_by (explore list path course script file) = named (record (program_named list path (file ∷ [])) { script = Some script })

-- the names of the files of a generated case
abbrev pub case_named : NamedView
case_named = record (program_named None case_path (holder_name ∷ [])) { script = Some script_name }

-- the names that a command reads
abbrev pub names_read : FilesRead → NamedView
names_read (named files) = files
names_read (generated rounds actors) = case_named

-- what the command sees of the files: a generated case has files of its own, and no others are looked at
abbrev pub seen_by : FilesRead → FileViews → FileViews
seen_by (named files) seen = seen
seen_by (generated rounds actors) seen = steady (case_files rounds actors)

-- what words of files and a path give, with these files
abbrev pub given_by : FileMap → List (List ℕ) → List (List ℕ) → LoadInput
given_by files path names = record { files = files; words = names; path = path }
