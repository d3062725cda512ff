use Rattle.std.proofs.Common.{◌≡◌, ◌≤◌, ◌-◌, length, map, string_bytes}
use Rattle.ipdl_base.specs.FileNames.{key_of}
use Rattle.file_log.specs.Log.{ForReads, HaveNames}
use Rattle.file_log.specs.Recorded.{files_of, reads_of}
use Rattle.include_graph.proofs.WalkEnds.{IsBefore}
use Rattle.include_graph.proofs.Walks.{AreReached, Walking}
use Rattle.include_graph.proofs.walk.walk.Given as goal

-- the files so far are read, each under names of its key
abbrev pub invariant-files : goal.invariant-files
invariant-files g l = record {
  walking : Walking (map string_bytes l.words) l.keys.keys l.reached.items;
  reached : ForReads (g.F.Files.known (files_of l.fn.files)) (reads_of l.fn.files) (reads_of l.files)
      (λ files. AreReached (record { files = files; words = map string_bytes l.words; path = map (λ d. d.now) l.path }) l.keys.keys l.reached.items);
  names : HaveNames (λ name. IsBefore l.keys.keys (length l.reached.items) (key_of name)) (reads_of l.fn.files) (reads_of l.files);
  told : g.F.Files.known (files_of l.files) ≡ g.F.Files.known (files_of l.fn.files);
  count : g.F.Files.faults (files_of l.fn.files) ≤ g.F.Files.faults (files_of l.files);
}

abbrev pub decreases-files : goal.decreases-files
decreases-files g l = 4096 - length l.reached.items
