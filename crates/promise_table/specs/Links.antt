-- The lists that pending promises are on.
use Rattle.std.specs.Prelude.{◌≡◌, ℕ, ℤ, List, Option, Some}
use Rattle.std.specs.Option.{option_map}
use Rattle.linked_lists.specs.declared.link.Ends.{Ends}
use Rattle.linked_lists.specs.Chosen.{chosen_keys}
use Rattle.linked_lists.specs.Links.{ends_of}
use Rattle.linked_lists.specs.Neighbours.{IsIn, AreDistinct, head}
use Rattle.linked_lists.specs.Chains.{IsChain}
use Rattle.promise_table.specs.declared.promise.Promise.{Promise}
use Rattle.promise_table.specs.declared.node.Node.{Node}
use Rattle.promise_table.specs.declared.node.Chain.TheVariants.{All, Own}
use Rattle.promise_table.specs.Promises.{has_number, is_pending, is_pending_of}
use Rattle.promise_table.specs.Nodes.{link_of}

-- the promise of the node at a key
abbrev pub item_at : (ℕ → Option Node) → ℕ → Option Promise
item_at node k = option_map (λ n. n.promise) (node k)

-- the nodes of these keys represent promises, the pending ones on a list of all and on one of each actor, and a number
-- has the key of its promise
pub record AreLinked (node : ℕ → Option Node) (keys : List ℕ) (pending : Ends) (actors : ℤ → Ends) (ids : ℤ → Option ℕ) : Type 0 where
  pub distinct : AreDistinct keys
  pub full : (k : ℕ) → IsIn k keys → (n : Node) × (node k ≡ Some n)
  pub all_chain : IsChain (link_of All) node (chosen_keys is_pending (item_at node) keys)
  pub all_ends : pending ≡ ends_of (chosen_keys is_pending (item_at node) keys)
  pub own_chains : (a : ℤ) → IsChain (link_of Own) node (chosen_keys (is_pending_of a) (item_at node) keys)
  pub own_ends : (a : ℤ) → actors a ≡ ends_of (chosen_keys (is_pending_of a) (item_at node) keys)
  pub numbers : (n : ℤ) → ids n ≡ head (chosen_keys (has_number n) (item_at node) keys)
  pub single : (n : ℤ) (j k : ℕ) → IsIn j (chosen_keys (has_number n) (item_at node) keys) → IsIn k (chosen_keys (has_number n) (item_at node) keys) → j ≡ k
