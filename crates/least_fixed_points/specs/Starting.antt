-- The nodes with which marking begins.
use Rattle.std.specs.Prelude.{◌≡◌, ℕ, List, slice_get, Some}
use Rattle.least_fixed_points.specs.declared.nodes.Need.TheVariants.{All}
use Rattle.least_fixed_points.specs.declared.nodes.Node.{Node}

-- there is a node of this number, and it needs all of its parts
abbrev pub NeedsAll : List Node → ℕ → Type 0
NeedsAll nodes k = (node : Node) × (slice_get nodes k ≡ Some node) × (node.need ≡ All)
