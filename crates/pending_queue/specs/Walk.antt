-- A walk along a list of keys.
use Rattle.std.specs.Prelude.{◌≡◌, ℕ, suc, ◌==◌, List, [], ◌∷◌, ◌++◌, length, Bool, Option, Some, None, if◌then◌else◌}
use Rattle.linked_lists.specs.Neighbours.{head}
use Rattle.linked_lists.specs.Chosen.{chosen_keys}
use Rattle.pending_queue.specs.declared.item.Item.{Item}

-- the number of keys of a list from one on
abbrev pub rank : ℕ → List ℕ → ℕ
rank k [] = 0
rank k (j ∷ js) = if j == k then suc (length js) else rank k js

-- the number of keys of a list from one on that may be there
abbrev pub rank_of : Option ℕ → List ℕ → ℕ
rank_of None ks = 0
rank_of (Some k) ks = rank k ks

-- the walk has come to `at`: nothing ahead of it is chosen
pub record IsAt (test : Item → Bool) (item : ℕ → Option Item) (ks : List ℕ) (at : Option ℕ) : Type 0 where
  pub ahead : List ℕ
  pub following : List ℕ
  pub whole : ks ≡ ahead ++ following
  pub here : at ≡ head following
  pub rest : head (chosen_keys test item ks) ≡ head (chosen_keys test item following)
