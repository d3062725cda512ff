-- Marks on nodes while they are set, and the marked nodes whose users are yet to be visited. These serve the code alone.
use Rattle.std.specs.Prelude.{◌≡◌, ◌↔◌, ◌⊎◌, ◌≤◌, ◌<◌, ◌+◌, ◌*◌, ℕ, Bool, true, false, if◌then◌else◌, List, length, slice_get, slice_index, Some}
use Rattle.std.specs.List.{Contains, slice_index_or, sum_by}
use Rattle.std.specs.declared.alloc.Global.{Global}
use Rattle.std.specs.declared.vec.Vec.{Vec}
use Rattle.least_fixed_points.specs.declared.nodes.Need.{Need}
use Rattle.least_fixed_points.specs.declared.nodes.Need.TheVariants.{All, One}
use Rattle.least_fixed_points.specs.declared.nodes.Node.{Node}
use Rattle.least_fixed_points.specs.Derived.{IsDerived}

-- Users

-- the node has this part
abbrev pub HasPart : List Node → ℕ → ℕ → Type 0
HasPart nodes user part = (node : Node) × (slice_get nodes user ≡ Some node) × Contains node.parts.items part

-- the row of a part has this user
abbrev pub HasUser : List (Vec ℕ Global) → ℕ → ℕ → Type 0
HasUser users part user = (row : Vec ℕ Global) × (slice_get users part ≡ Some row) × Contains row.items user

-- the rows have one more user of a part, if the part has a row
pub record AddsUser (part user : ℕ) (old new : List (Vec ℕ Global)) : Type 0 where
  pub size : length new ≡ length old
  pub exact : (p u : ℕ) → HasUser new p u ↔ (HasUser old p u ⊎ ((p < length old) × (p ≡ part) × (u ≡ user)))

-- the rows have one more user of each of these parts
pub record AddsUsers (parts : List ℕ) (user : ℕ) (old new : List (Vec ℕ Global)) : Type 0 where
  pub size : length new ≡ length old
  pub exact : (p u : ℕ) → HasUser new p u ↔ (HasUser old p u ⊎ ((p < length old) × Contains parts p × (u ≡ user)))

-- each node has a row, with the nodes that have it as a part
pub record AreUsers (nodes : List Node) (users : List (Vec ℕ Global)) : Type 0 where
  pub size : length users ≡ length nodes
  pub exact : (p u : ℕ) → HasUser users p u ↔ ((p < length nodes) × HasPart nodes u p)

-- Marks

abbrev pub IsMarked : List Bool → ℕ → Type 0
IsMarked marks k = slice_index_or marks k false ≡ true

-- the number of nodes without a mark
abbrev pub unmarked : List Bool → ℕ
unmarked marks = sum_by (λ b. if b then 0 else 1) marks

-- each mark has a derivation
abbrev pub AreSound : List Node → List Bool → Type 0
AreSound nodes marks = (k : ℕ) → IsMarked marks k → IsDerived nodes k

-- for each node, this number of its first parts are marked
abbrev pub AreSeen : List Node → List Bool → List ℕ → Type 0
AreSeen nodes marks seen =
    (user : ℕ) (node : Node) (j : ℕ) → slice_get nodes user ≡ Some node → j < slice_index seen user → j < length node.parts.items → IsMarked marks (slice_index node.parts.items j)

-- a need is not met yet: if all parts are needed, this holds of one of them, and if one is needed, of all of them
abbrev pub WaitsFor : Need → List ℕ → (ℕ → Type 0) → Type 0
WaitsFor All parts IsOpen = (part : ℕ) × Contains parts part × IsOpen part
WaitsFor One parts IsOpen = (part : ℕ) → Contains parts part → IsOpen part

-- a part has no mark, or its users are yet to be visited
abbrev pub IsOpen : List Bool → List ℕ → ℕ → Type 0
IsOpen marks work part = (¬ IsMarked marks part) ⊎ Contains work part

-- a node is marked, or waits for open parts
abbrev pub IsSettled : List Node → List Bool → List ℕ → ℕ → Type 0
IsSettled nodes marks work user =
    IsMarked marks user ⊎ ((node : Node) → slice_get nodes user ≡ Some node → WaitsFor node.need node.parts.items (IsOpen marks work))

-- marks were added, and each new one is in the work
pub record Grows (old : List Bool) (left : List ℕ) (new : List Bool) (work : List ℕ) : Type 0 where
  pub size : length new ≡ length old
  pub kept : (k : ℕ) → IsMarked old k → IsMarked new k
  pub added : (k : ℕ) → IsMarked new k → IsMarked old k ⊎ Contains work k
  pub stays : (k : ℕ) → Contains left k → Contains work k
  pub told : (k : ℕ) → Contains work k → Contains left k ⊎ IsMarked new k
  pub less : 2 * unmarked new + length work ≤ 2 * unmarked old + length left

-- this node was marked, if it had no mark
pub record Marks (user : ℕ) (old : List Bool) (left : List ℕ) (new : List Bool) (work : List ℕ) : Type 0 where
  pub grows : Grows old left new work
  pub marked : IsMarked new user
  pub only : (k : ℕ) → IsMarked new k → IsMarked old k ⊎ (k ≡ user)

-- a node that needs one of its parts is derived
abbrev pub HasReason : List Node → ℕ → Type 0
HasReason nodes user = (node : Node) → slice_get nodes user ≡ Some node → node.need ≡ One → IsDerived nodes user

-- what is known between visits
pub record Knows (nodes : List Node) (marks : List Bool) (seen : List ℕ) : Type 0 where
  pub size : length marks ≡ length nodes
  pub seen_size : length seen ≡ length nodes
  pub sound : AreSound nodes marks
  pub seen_marked : AreSeen nodes marks seen

-- these nodes were visited: what is known stays known, and they are settled
pub record Visits (nodes : List Node) (users : List ℕ) (old : List Bool) (left : List ℕ) (new : List Bool) (work seen : List ℕ) : Type 0 where
  pub grows : Grows old left new work
  pub knows : Knows nodes new seen
  pub settled : (user : ℕ) → Contains users user → IsSettled nodes new work user
