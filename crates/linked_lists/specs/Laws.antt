-- What attaching and detaching do to the lists of a chain, for nodes of any type.
use Rattle.std.specs.Prelude.{◌≡◌, ◌≢◌, ℕ, List, [], ◌∷◌, ◌++◌, Option, Some, None, option_map}
use Rattle.linked_lists.specs.declared.link.NodeLink.{NodeLink}
use Rattle.linked_lists.specs.Neighbours.{IsIn, AreDistinct, last, omit}
use Rattle.linked_lists.specs.Links.{key_eq, link_in}
use Rattle.linked_lists.specs.Chains.{IsChain, attached, detached}

module _ {C N : Type 0} (link_of : C → N → NodeLink) (with_link : C → NodeLink → N → N) where
  -- the node at the key is attached after the last of these keys
  abbrev pub IsAttached : C → (ℕ → Option N) → (ℕ → Option N) → List ℕ → ℕ → Type 0
  IsAttached chain before after keys key =
      (k : ℕ) → after k ≡ option_map (attached (link_of chain) (with_link chain) (last keys) key k) (before k)

  -- the node at the key, which is one of these, is detached and perhaps removed
  abbrev pub IsDetached : C → (ℕ → Option N) → (ℕ → Option N) → List ℕ → ℕ → Type 0
  IsDetached chain before after keys key =
      (k : ℕ) → k ≢ key → after k ≡ option_map (detached (link_of chain) (with_link chain) (link_in key keys) k) (before k)

  -- A node that is on no list and is attached after the last node of a chain is then its last node.
  abbrev pub JoinsChain : Type 0
  JoinsChain =
      (chain : C) (before after : ℕ → Option N) (keys : List ℕ) (key : ℕ) (node : N)
      → AreDistinct keys → (IsIn key keys → ⊥) → before key ≡ Some node → (link_of chain node).next ≡ None
      → IsAttached chain before after keys key → IsChain (link_of chain) before keys → IsChain (link_of chain) after (keys ++ key ∷ [])

  -- After a node is detached, its chain has the other keys.
  abbrev pub LeavesChain : Type 0
  LeavesChain =
      (chain : C) (before after : ℕ → Option N) (keys : List ℕ) (key : ℕ)
      → AreDistinct keys → IsIn key keys
      → IsDetached chain before after keys key → IsChain (link_of chain) before keys → IsChain (link_of chain) after (omit key_eq key keys)

  -- Lists of the chain that have no key in common with this one stay the same, when a node joins it and when one leaves it.
  pub record KeepsOthers : Type 0 where
    pub attaching :
        (chain : C) (before after : ℕ → Option N) (keys others : List ℕ) (key : ℕ)
        → AreDistinct keys → (IsIn key keys → ⊥) → ((k : ℕ) → IsIn k others → (IsIn k keys → ⊥) × (k ≢ key))
        → IsAttached chain before after keys key → IsChain (link_of chain) before others → IsChain (link_of chain) after others
    pub detaching :
        (chain : C) (before after : ℕ → Option N) (keys others : List ℕ) (key : ℕ)
        → AreDistinct keys → IsIn key keys → ((k : ℕ) → IsIn k others → IsIn k keys → ⊥)
        → IsDetached chain before after keys key → IsChain (link_of chain) before others → IsChain (link_of chain) after others
