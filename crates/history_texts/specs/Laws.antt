-- The text of a history determines the history.
use Rattle.std.specs.Prelude.{◌≡◌, ℕ, List, []}
use Rattle.ipdl_base.specs.declared.line.Line.{Line}
use Rattle.ipdl_base.specs.declared.schema.Schema.{Schema}
use Rattle.ipdl_base.specs.Sound.{IsSound}
use Rattle.history.specs.Text.{transcript_text}
use Rattle.channel_model.specs.Runs.{IsLegalHistory}
use Rattle.history_texts.specs.Typed.{AreTyped}

-- Under a sound schema two legal histories whose values have their types, and whose names are words, are equal if
-- they have the same text.
abbrev pub TextsTellHistories : Type 0
TextsTellHistories =
    (schema : Schema) (top other : ℕ) (lines more : List Line) → IsSound schema → IsLegalHistory schema top lines → IsLegalHistory schema other more → AreTyped schema [] lines → AreTyped schema [] more
    → transcript_text schema lines ≡ transcript_text schema more → lines ≡ more
