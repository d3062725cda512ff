-- What the command that runs a generated case says of a schema.
use Rattle.std.specs.Prelude.{ℕ, List, [], ◌∷◌, Some, None, if◌then◌else◌, codes, string_bytes}
use Rattle.std.specs.Str.{bytes_eq}
use Rattle.ipdl_base.specs.Outside.{FileMap}
use Rattle.ipdl_base.specs.declared.schema.Schema.{Schema}
use Rattle.command_words.specs.Run.{Course}
use Rattle.generated_case.specs.Texts.{holder_text, leaf_text, script_text}
use Rattle.generated_case.specs.declared.case.GeneratedCase.{GeneratedCase}
use Rattle.ipdl_top.specs.declared.answer.CommandAnswer.{CommandAnswer}
use Rattle.ipdl_top.specs.declared.rendering.Rendering.TheVariants.{Summary}
use Rattle.ipdl_top.specs.Run.{Driving, SaysRun}

-- the names of the files of a generated case, and of its script
abbrev pub holder_name : List ℕ
holder_name = codes "PGen.ipdl"

abbrev pub leaf_name : List ℕ
leaf_name = codes "PLeaf.ipdl"

abbrev pub script_name : List ℕ
script_name = codes "PGen.ids"

-- files that have these three texts under these names, and no others
abbrev pub files_with : List ℕ → List ℕ → List ℕ → FileMap
files_with holder leaf script name =
    if bytes_eq name holder_name then Some holder else if bytes_eq name leaf_name then Some leaf else if bytes_eq name script_name then Some script else None

-- the files of a generated case
abbrev pub case_files : ℕ → ℕ → FileMap
case_files rounds actors = files_with holder_text leaf_text (script_text rounds actors)

-- the files of the texts of a case
abbrev pub files_of : GeneratedCase → FileMap
files_of case' = files_with (string_bytes case'.holder) (string_bytes case'.leaf) (string_bytes case'.script)

-- where its files are looked for
abbrev pub case_path : List (List ℕ)
case_path = codes "." ∷ []

-- how a generated case is run: by an empty word of turns, with the greatest limit and no death
abbrev pub case_course : Course
case_course = record { schedule = Some []; limit = 20000; death = None }

-- The answer is that of a run of the case's script, with the summary of its history in place of the transcript.
abbrev pub SaysGen : Driving → ℕ → ℕ → Schema → CommandAnswer → Type 0
SaysGen Gives rounds actors schema answer = SaysRun Gives (Summary rounds actors) case_course script_name (case_files rounds actors script_name) holder_name schema answer
