-- What exists by the definition of sync lists, for all texts.
use Rattle.std.specs.Prelude.{ℕ, ◌⊎◌, List}
use Rattle.sync_list.specs.declared.list.Section.{Section}
use Rattle.sync_list.specs.Lists.{IsListOf, IsFirstBad}

-- the text spells sections
abbrev pub HasSections : List ℕ → Type 0
HasSections text = (sections : List Section) × IsListOf text sections

-- the text has a first line that is not of the format
abbrev pub HasBadLine : List ℕ → Type 0
HasBadLine text = (line : ℕ) × IsFirstBad text line

-- Each text spells sections, or has a first line that is not of the format.
abbrev pub ListsHaveAnswers : Type 0
ListsHaveAnswers = (text : List ℕ) → HasSections text ⊎ HasBadLine text
