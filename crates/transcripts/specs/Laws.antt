-- What the text of a history says of it.
use Rattle.std.specs.Prelude.{◌≡◌, ℕ, List, [], ◌++◌}
use Rattle.ipdl_base.specs.declared.line.Line.{Line}
use Rattle.ipdl_base.specs.declared.schema.Schema.{Schema}
use Rattle.ipdl_base.specs.Sound.{IsSound}
use Rattle.history.specs.Text.{transcript_text}
use Rattle.transcripts.specs.Printed.{SayWords, line_texts}
use Rattle.transcripts.specs.TextLines.{text_lines}

-- In a sound schema the first lines of a text that begins with a transcript are those of its history, one by one, if the
-- names in them are words.
abbrev pub TranscriptsAreLines : Type 0
TranscriptsAreLines =
    (schema : Schema) (lines : List Line) (rest : List ℕ) → IsSound schema → SayWords lines → text_lines (transcript_text schema lines ++ rest) ≡ line_texts schema [] lines ++ text_lines rest
