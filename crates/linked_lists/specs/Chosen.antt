-- The keys whose items pass a test, and the items of keys.
use Rattle.std.specs.Prelude.{ℕ, Bool, false, List, [], ◌∷◌, filter, Option, Some, None}
use Rattle.linked_lists.specs.Neighbours.{omit}
use Rattle.linked_lists.specs.Links.{key_eq}

module _ {X : Type 0} where
  -- whether there is an item, and it passes
  abbrev pub passes : (X → Bool) → Option X → Bool
  passes test None = false
  passes test (Some x) = test x

  -- the keys whose items pass, in their order
  abbrev pub chosen_keys : (X → Bool) → (ℕ → Option X) → List ℕ → List ℕ
  chosen_keys test item keys = filter (λ k. passes test (item k)) keys

  -- the items after an item, if there is one
  abbrev pub cons_some : Option X → List X → List X
  cons_some None xs = xs
  cons_some (Some x) xs = x ∷ xs

  -- the items of the keys, in their order
  abbrev pub items_of : (ℕ → Option X) → List ℕ → List X
  items_of item [] = []
  items_of item (k ∷ ks) = cons_some (item k) (items_of item ks)

  -- the item of a key, if there is a key
  abbrev pub item_of : (ℕ → Option X) → Option ℕ → Option X
  item_of item None = None
  item_of item (Some k) = item k

-- the keys without this one, if there is one
abbrev pub omit_some : Option ℕ → List ℕ → List ℕ
omit_some None keys = keys
omit_some (Some k) keys = omit key_eq k keys
