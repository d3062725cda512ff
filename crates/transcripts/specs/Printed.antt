-- The texts of lines, one by one, and which lines have one line of text each.
use Rattle.std.specs.Prelude.{ℕ, List, [], ◌∷◌, ◌++◌}
use Rattle.std.specs.List.{AllByRecursion}
use Rattle.ipdl_base.specs.declared.line.Line.{Line}
use Rattle.ipdl_base.specs.declared.line.What.{What}
use Rattle.ipdl_base.specs.declared.line.What.TheVariants as what
use Rattle.ipdl_base.specs.declared.schema.Schema.{Schema}
use Rattle.ipdl_base.specs.Words.{IsWord}
use Rattle.history.specs.Text.{line_text}

-- the texts of lines that follow others, one for each line
abbrev pub line_texts : Schema → List Line → List Line → List (List ℕ)
line_texts schema before [] = []
line_texts schema before (line ∷ rest) = line_text schema before line ∷ line_texts schema (before ++ line ∷ []) rest

-- a name that a line gives is a word
abbrev pub SaysWord : What → Type 0
SaysWord (what.Keep n name) = IsWord name
SaysWord (what.Let name id) = IsWord name
SaysWord _ = Unit {0}

-- each name that lines give is a word
abbrev pub SayWords : List Line → Type 0
SayWords lines = AllByRecursion (λ line. SaysWord line.what) lines
