-- What does not look at where the boxes of values lie.
use Rattle.std.specs.Prelude.{◌≡◌, List, map}
use Rattle.ipdl_base.specs.declared.line.Line.{Line}
use Rattle.ipdl_base.specs.declared.schema.Schema.{Schema}
use Rattle.history.specs.Text.{transcript_text}
use Rattle.history_reading.specs.declared.law.Law.{Law}
use Rattle.history_reading.specs.Holds.{is_readable_list, holds_of}
use Rattle.end_parts.specs.PlainLines.{plain_line}

-- The text of a history is that of the same lines with every box at one place.
abbrev pub TextsSeeNoBox : Type 0
TextsSeeNoBox = (schema : Schema) (lines : List Line) → transcript_text schema (map plain_line lines) ≡ transcript_text schema lines

-- Neither whether lines can be read nor whether a law holds of them depends on where boxes lie.
pub record LawsSeeNoBox : Type 0 where
  pub readable : (schema : Schema) (lines : List Line) → is_readable_list schema (map plain_line lines) ≡ is_readable_list schema lines
  pub holds : (law : Law) (schema : Schema) (lines : List Line) → holds_of law schema (map plain_line lines) ≡ holds_of law schema lines
