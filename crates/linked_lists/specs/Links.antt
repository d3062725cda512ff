-- The links of nodes, as they represent a list of keys.
use Rattle.std.specs.Prelude.{ℕ, ◌==◌, Bool, List, Some, None, is_some, if◌then◌else◌}
use Rattle.linked_lists.specs.declared.link.NodeLink.{NodeLink}
use Rattle.linked_lists.specs.declared.link.Ends.{Ends}
use Rattle.linked_lists.specs.Neighbours.{head, last, after, before}

-- whether two keys are equal
abbrev pub key_eq : ℕ → ℕ → Bool
key_eq j k = j == k

-- the link of a node without neighbours
abbrev pub no_link : NodeLink
no_link = record { previous = None; next = None }

-- the ends of an empty list
abbrev pub no_ends : Ends
no_ends = record { first = None; last = None }

-- the link of the node at a key that is on the list
abbrev pub link_in : ℕ → List ℕ → NodeLink
link_in key keys = record { previous = before key_eq key keys; next = after key_eq key keys }

-- the ends of the list
abbrev pub ends_of : List ℕ → Ends
ends_of keys = record { first = head keys; last = last keys }

-- the ends after one more key is last
abbrev pub ends_with : Ends → ℕ → Ends
ends_with ends key = record { first = if is_some ends.last then ends.first else Some key; last = Some key }

-- the ends after the key of a node with this link has left
abbrev pub ends_without : Ends → NodeLink → Ends
ends_without ends gone = record {
  first = if is_some gone.previous then ends.first else gone.next;
  last = if is_some gone.next then ends.last else gone.previous;
}
