-- What is appended to a list.
use Rattle.std.specs.Prelude.{◌≡◌, List, ◌++◌, map}

-- the new list, seen by a view, is the old one followed by these
abbrev pub Appends : {X Y : Type 0} → (X → Y) → List Y → List X → List X → Type 0
Appends view more old new = map view new ≡ map view old ++ more
