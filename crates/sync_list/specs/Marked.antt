-- The sections of a list after a line that may describe the last of them.
use Rattle.std.specs.Prelude.{Bool, ◌||◌, List, [], ◌∷◌}
use Rattle.sync_list.specs.declared.list.Section.{Section}

-- the sections; the last one is described if it was or this is true
abbrev pub marked : Bool → List Section → List Section
marked filled [] = []
marked filled (s ∷ []) = record s { described = s.described || filled } ∷ []
marked filled (s ∷ t ∷ others) = s ∷ marked filled (t ∷ others)
