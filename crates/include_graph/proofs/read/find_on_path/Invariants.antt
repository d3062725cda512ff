use Rattle.std.proofs.Common.{◌≡◌, ◌≤◌, take, map}
use Rattle.std.specs.Prelude.{None}
use Rattle.std.specs.List.{Contains}
use Rattle.file_log.specs.Log.{ForReads, HaveNames}
use Rattle.file_log.specs.Recorded.{files_of, reads_of}
use Rattle.include_graph.specs.Sources.{in_directory, name_on_path}
use Rattle.include_graph.proofs.read.find_on_path.Given as goal

-- the names of the key in the directories so far were read, and no name has a file
abbrev pub invariant-loop-directory : goal.invariant-loop-directory
invariant-loop-directory g l = record {
  none : ForReads (g.F.Files.known (files_of l.fn.files)) (reads_of l.fn.files) (reads_of l.files) (λ files. name_on_path files (map (λ d. d.now) (take l.directory-index l.path)) l.key ≡ None);
  names : HaveNames (Contains (map (λ d. in_directory d l.key) (map (λ d. d.now) (take l.directory-index l.path)))) (reads_of l.fn.files) (reads_of l.files);
  told : g.F.Files.known (files_of l.files) ≡ g.F.Files.known (files_of l.fn.files);
  count : g.F.Files.faults (files_of l.fn.files) ≤ g.F.Files.faults (files_of l.files);
}
