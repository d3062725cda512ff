-- What the setting of links makes of the node at a key.
use Rattle.std.specs.Prelude.{ℕ, Option, Some, None, if◌then◌else◌}
use Rattle.linked_lists.specs.Neighbours.{is_the}
use Rattle.linked_lists.specs.Links.{key_eq}
use Rattle.actor_tree.specs.declared.node.Node.{Node}

-- the link to the manager, if there is no link to a sibling
abbrev pub instead_of : Option ℕ → Option ℕ → Option ℕ
instead_of None manager = manager
instead_of (Some sibling) manager = None

-- the link to the youngest under the node, where there is a node
abbrev pub last_link : Option Node → Option ℕ
last_link None = None
last_link (Some n) = n.last

-- the link to the oldest under the node, where there is a node
abbrev pub first_link : Option Node → Option ℕ
first_link None = None
first_link (Some n) = n.first

-- the node at k, once the one at `at`, if any, has that link to the oldest under it
abbrev pub with_first : Option ℕ → Option ℕ → ℕ → Node → Node
with_first at link k n = record n { first = if is_the key_eq at k then link else n.first }

-- the node at k, once the one at `at`, if any, has that link to the youngest under it
abbrev pub with_last : Option ℕ → Option ℕ → ℕ → Node → Node
with_last at link k n = record n { last = if is_the key_eq at k then link else n.last }

-- the node at k, once the one at `at`, if any, has that link to its next older sibling
abbrev pub with_previous : Option ℕ → Option ℕ → ℕ → Node → Node
with_previous at link k n = record n { previous = if is_the key_eq at k then link else n.previous }

-- the node at k, once the one at `at`, if any, has that link to its next younger sibling
abbrev pub with_next : Option ℕ → Option ℕ → ℕ → Node → Node
with_next at link k n = record n { next = if is_the key_eq at k then link else n.next }

-- the node at k, once the node at `key` is the youngest under `manager`, after `previous`
abbrev pub attached : ℕ → Option ℕ → ℕ → ℕ → Node → Node
attached manager previous key k n = record n {
  first = if is_the key_eq (instead_of previous (Some manager)) k then Some key else n.first;
  last = if is_the key_eq (Some manager) k then Some key else n.last;
  next = if is_the key_eq previous k then Some key else n.next;
}

-- the node at k, once that other node is among its siblings no more
abbrev pub detached : Node → ℕ → Node → Node
detached gone k n = record n {
  first = if is_the key_eq (instead_of gone.previous gone.manager) k then gone.next else n.first;
  last = if is_the key_eq (instead_of gone.next gone.manager) k then gone.previous else n.last;
  previous = if is_the key_eq gone.next k then gone.previous else n.previous;
  next = if is_the key_eq gone.previous k then gone.next else n.next;
}
