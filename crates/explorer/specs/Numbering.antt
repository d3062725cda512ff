-- Lists of choices by numbers.
use Rattle.std.specs.Prelude.{◌≡◌, ℕ, suc, Bool, List, [], ◌∷◌, ◌++◌, slice_get, Some}
use Rattle.explorer.specs.declared.histories.Histories.{Histories}
use Rattle.explorer.specs.declared.histories.NextChoice.{NextChoice}

-- A number is that of a list of choices of a side, each of which is a delivery or an own step.
pub data IsListOf (choices : List NextChoice) : ℕ → List Bool → Type 0 where
  begins : (number : ℕ) (list : List Bool) → number ≡ 0 → list ≡ [] → IsListOf choices number list
  follows : (number place : ℕ) (choice : NextChoice) (before list : List Bool) → number ≡ suc place → slice_get choices place ≡ Some choice → IsListOf choices choice.before before → list ≡ before ++ choice.delivers ∷ [] → IsListOf choices number list

-- Histories grew: the numbers stay those of their lists.
pub record Grows (before after : Histories) : Type 0 where
  pub more : List NextChoice
  pub is : after.choices.keys ≡ before.choices.keys ++ more

-- No two places have the same choice.
pub record IsApart (histories : Histories) : Type 0 where
  pub once : (one other : ℕ) (choice : NextChoice) → slice_get histories.choices.keys one ≡ Some choice → slice_get histories.choices.keys other ≡ Some choice → one ≡ other
