-- The parts of recorded files that contracts use.
use Rattle.std.specs.Prelude.{List}
use Rattle.file_log.specs.Entries.{ReadEntry}
use Rattle.file_log.specs.declared.recorded_files.RecordedFiles.{RecordedFiles}

-- the results of the reads so far, in order
abbrev pub reads_of : {F : Type 0} → RecordedFiles F → List ReadEntry
reads_of recorded = recorded.log.entries

-- the files themselves
abbrev pub files_of : {F : Type 0} → RecordedFiles F → F
files_of recorded = recorded.files
