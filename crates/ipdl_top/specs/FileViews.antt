-- What a call sees of the files.
use Rattle.std.specs.Prelude.{◌≡◌, List, ◌++◌, Option, Some, None, IfSome}
use Rattle.ipdl_base.specs.Outside.{FileMap}
use Rattle.file_log.specs.Log.{Agrees, ReadEntry}

-- What each name has: while the files of a program are read, then when the sync list is read, when the script is, and
-- when the file that is the input is, as one of frames or a text to audit.
pub record FileViews : Type 0 where
  pub files : FileMap
  pub list : FileMap
  pub script : FileMap
  pub input : FileMap

-- files that stay as they are
abbrev pub steady : FileMap → FileViews
steady map = record { files = map; list = map; script = map; input = map }

-- For the files as the known map has them, which stay so. If no map is known, for some: a file that is read as
-- one of the program and again as the list, as the script or as the input may have changed.
abbrev pub ForMap : Option FileMap → (FileViews → Type 0) → Type 0
ForMap None P = (seen : FileViews) × P seen
ForMap (Some map) P = P (steady map)

-- what the reads of a call gave: those of the files of a program, of the sync list, of the script and of the input
pub record ReadParts : Type 0 where
  pub files : List ReadEntry
  pub list : List ReadEntry
  pub script : List ReadEntry
  pub input : List ReadEntry

-- all of these reads, in order
abbrev pub all_reads : ReadParts → List ReadEntry
all_reads parts = parts.files ++ (parts.list ++ (parts.script ++ parts.input))

-- What is seen agrees with what the reads gave, part by part: a name that is read in two parts may have changed in between.
pub record AgreeParts (seen : FileViews) (parts : ReadParts) : Type 0 where
  pub files : Agrees seen.files parts.files
  pub list : Agrees seen.list parts.list
  pub script : Agrees seen.script parts.script
  pub input : Agrees seen.input parts.input

-- The reads of a call, by which the log grew: a known map agrees with them, and so do some views in any case; and the property
-- holds for all views that agree with them.
pub record ForViews (told : Option FileMap) (old new : List ReadEntry) (P : FileViews → Type 0) : Type 0 where
  pub parts : ReadParts
  pub logged : new ≡ old ++ all_reads parts
  pub told_agrees : IfSome told (λ map. AgreeParts (steady map) parts)
  pub consistent : (seen : FileViews) × AgreeParts seen parts
  pub each : (seen : FileViews) → AgreeParts seen parts → P seen
