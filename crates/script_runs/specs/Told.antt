-- The choice that the text of a line shows.
use Rattle.std.specs.Prelude.{ℕ, List, Option, option_map}
use Rattle.script_steps.specs.Choices.{Choice}
use Rattle.transcripts.specs.Told.{side_told, tells_delivery}

-- the side that the text names, and whether it had a delivery
abbrev pub choice_told : List ℕ → Option Choice
choice_told text = option_map (λ side. record { side = side; delivers = tells_delivery side text }) (side_told text)
