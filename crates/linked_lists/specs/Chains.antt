-- The nodes of a chain, and the node at a key after links are set. A chain is a way to read the link of a node and to
-- replace it.
use Rattle.std.specs.Prelude.{◌≡◌, ℕ, List, Option, Some, None, if◌then◌else◌}
use Rattle.linked_lists.specs.declared.link.NodeLink.{NodeLink}
use Rattle.linked_lists.specs.Neighbours.{IsIn, is_the}
use Rattle.linked_lists.specs.Links.{key_eq, no_link, link_in}

module _ {N : Type 0} (link_of : N → NodeLink) where
  -- each key of the list has a node whose link leads to its neighbours on the list
  abbrev pub IsChain : (ℕ → Option N) → List ℕ → Type 0
  IsChain node keys = (k : ℕ) → IsIn k keys → (n : N) × (node k ≡ Some n) × (link_of n ≡ link_in k keys)

  -- the link of a node, or no link if there is no node
  abbrev pub link_of_some : Option N → NodeLink
  link_of_some None = no_link
  link_of_some (Some n) = link_of n

module _ {N : Type 0} (link_of : N → NodeLink) (with_link : NodeLink → N → N) where
  -- the node at k, after the node at `at`, if any, got this key as the one before it
  abbrev pub with_previous : Option ℕ → Option ℕ → ℕ → N → N
  with_previous at key k n =
      if is_the key_eq at k then with_link (record { previous = key; next = (link_of n).next }) n else n

  -- the node at k, after the node at `at`, if any, got this key as the one after it
  abbrev pub with_next : Option ℕ → Option ℕ → ℕ → N → N
  with_next at key k n =
      if is_the key_eq at k then with_link (record { previous = (link_of n).previous; next = key }) n else n

  -- the node at k, after the node at `key` is attached after the last one
  abbrev pub attached : Option ℕ → ℕ → ℕ → N → N
  attached last key k n = with_next last (Some key) k (with_previous (Some key) last k n)

  -- the node at k, after a node with this link has left the chain
  abbrev pub detached : NodeLink → ℕ → N → N
  detached gone k n = with_next gone.previous gone.next k (with_previous gone.next gone.previous k n)
