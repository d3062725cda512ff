-- What the text of a line reports of the step that made it.
use Rattle.std.specs.Prelude.{ℕ, ◌==◌, Bool, if◌then◌else◌, List, ◌++◌, codes, Option, Some, None}
use Rattle.std.specs.List.{starts_with}
use Rattle.ipdl_base.specs.declared.kinds.Side.{Side}
use Rattle.ipdl_base.specs.declared.kinds.Side.TheVariants as sides
use Rattle.history.specs.Words.{side_word}

-- whether a text begins with a word
abbrev pub begins_with : List ℕ → List ℕ → Bool
begins_with word text = starts_with (λ a b. a == b) text word

-- the side that a text names first
abbrev pub side_told : List ℕ → Option Side
side_told text = if begins_with (codes "parent ") text then Some sides.Parent else (if begins_with (codes "child ") text then Some sides.Child else None)

-- whether the text of an event of a side reports a delivery
abbrev pub tells_delivery : Side → List ℕ → Bool
tells_delivery side text = begins_with (side_word side ++ codes " deliver ") text

-- whether a text is that of an effect
abbrev pub is_effect_text : List ℕ → Bool
is_effect_text text = begins_with (codes "  ") text

-- the last line that a run prints, by how it ended: nothing is left to do, or a side would pass the limit
abbrev pub finished_line : List ℕ
finished_line = codes "finished\n"

abbrev pub spent_line : Side → List ℕ
spent_line side = codes "spent " ++ side_word side ++ codes "\n"
