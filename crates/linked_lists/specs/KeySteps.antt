-- A list of keys after a step.
use Rattle.std.specs.Prelude.{ℕ, List, [], ◌∷◌, ◌++◌}
use Rattle.linked_lists.specs.declared.keys.KeyStep.{KeyStep}
use Rattle.linked_lists.specs.declared.keys.KeyStep.TheVariants.{Append, Remove}
use Rattle.linked_lists.specs.Neighbours.{omit}
use Rattle.linked_lists.specs.Links.{key_eq}

-- the keys after one has become the last, or has left
abbrev pub keys_after : List ℕ → KeyStep → List ℕ
keys_after keys (Append key) = keys ++ key ∷ []
keys_after keys (Remove key) = omit key_eq key keys
