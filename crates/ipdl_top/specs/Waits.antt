-- What the command that lists what may interrupt a wait says of a schema.
use Rattle.std.specs.Prelude.{◌≡◌, ℕ, ◌<◌, Bool, List, [], ◌++◌, length, codes}
use Rattle.std.specs.List.{flat_map, position_or_len}
use Rattle.std.specs.Str.{bytes_eq}
use Rattle.ipdl_base.specs.declared.schema.ProtocolRow.{ProtocolRow}
use Rattle.ipdl_base.specs.declared.schema.Schema.{Schema}
use Rattle.ipdl_base.specs.FileNames.{key_of}
use Rattle.ipdl_base.specs.Words.{short_name}
use Rattle.history.specs.Text.{message_text}
use Rattle.history.specs.Words.{side_word}
use Rattle.wait_report.specs.declared.pair.Pair.{Pair}
use Rattle.wait_report.specs.Pairs.{IsReport}
use Rattle.ipdl_top.specs.declared.answer.CommandAnswer.{CommandAnswer}
use Rattle.ipdl_top.specs.declared.status.Status.TheVariants.{Done}

-- whether a protocol has the name of a file
abbrev pub bears_name : List ℕ → ProtocolRow → Bool
bears_name file row = bytes_eq (short_name row.name ++ codes ".ipdl") (key_of file)

-- The protocol of a file is the first with its name. A program that breaks no rule has one.
pub record IsTop (file : List ℕ) (schema : Schema) (top : ℕ) : Type 0 where
  pub there : top < length schema.protocols
  pub first : position_or_len (bears_name file) schema.protocols ≡ top

-- the line of a pair
abbrev pub pair_line : Schema → Pair → List ℕ
pair_line schema pair = side_word pair.side ++ codes " waits " ++ message_text schema pair.waits ++ codes " takes " ++ message_text schema pair.takes ++ codes "\n"

-- a line for each pair
abbrev pub waits_text : Schema → List Pair → List ℕ
waits_text schema pairs = flat_map (pair_line schema) pairs

-- The answer has a line for each message that may be handled during the wait for each other, where the protocol of the
-- file is the top.
pub record SaysWaits (file : List ℕ) (schema : Schema) (answer : CommandAnswer) : Type 0 where
  pub top : ℕ
  pub is_top : IsTop file schema top
  pub pairs : List Pair
  pub report : IsReport schema top pairs
  pub says : answer ≡ record { status = Done; out = waits_text schema pairs; err = [] }
