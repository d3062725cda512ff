-- Derivations: the least set of nodes that is closed under what each node needs.
use Rattle.std.specs.Prelude.{◌≡◌, ◌↔◌, ℕ, true, Bool, List, length, slice_get, Some}
use Rattle.std.specs.List.{Contains}
use Rattle.least_fixed_points.specs.declared.nodes.Need.TheVariants.{All, One}
use Rattle.least_fixed_points.specs.declared.nodes.Node.{Node}

-- A node is derived, by a finite derivation: one that needs all of its parts if all of them are, and one that needs
-- one of its parts if one is.
pub data IsDerived (nodes : List Node) : ℕ → Type 0 where
  all : {k : ℕ} (node : Node) → slice_get nodes k ≡ Some node → node.need ≡ All → ((part : ℕ) → Contains node.parts.items part → IsDerived nodes part) → IsDerived nodes k
  one : {k : ℕ} (node : Node) (part : ℕ) → slice_get nodes k ≡ Some node → node.need ≡ One → Contains node.parts.items part → IsDerived nodes part → IsDerived nodes k

-- a mark for each node, set exactly for those that are derived
pub record AreMarks (nodes : List Node) (marks : List Bool) : Type 0 where
  pub long : length marks ≡ length nodes
  pub exact : (k : ℕ) → (slice_get marks k ≡ Some true) ↔ IsDerived nodes k
