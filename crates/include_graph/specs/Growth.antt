-- How the list of keys grows.
use Rattle.std.specs.Prelude.{◌≡◌, ◌≢◌, ℕ, ◌≤◌, if◌then◌else◌, nat_lt, List, [], ◌∷◌, ◌++◌, length, fold, Some}
use Rattle.std.specs.List.{AllPairs, AllZip, list_any}
use Rattle.include_graph.specs.Keys.{different, is_same, word_keys}
use Rattle.include_graph.specs.Sources.{word_of}

-- the keys after this one is named: a new key becomes the last if there is room
abbrev pub add_key : List (List ℕ) → List ℕ → List (List ℕ)
add_key keys key = if list_any (is_same key) keys then keys else (if nat_lt (length keys) 4096 then keys ++ key ∷ [] else keys)

-- the keys after these are named in turn
abbrev pub add_keys : List (List ℕ) → List (List ℕ) → List (List ℕ)
add_keys keys named = fold add_key keys named

-- The keys are those of the words, each once, and each has its first word in the other list.
pub record HasWords (words list firsts : List (List ℕ)) : Type 0 where
  pub keys : list ≡ word_keys words
  pub few : length list ≤ length words
  pub once : AllPairs (λ one other. one ≢ other) list
  pub first : AllZip (λ key word. word_of words key ≡ Some word) list firsts

-- The list has each of these once, in the order of their first occurrences.
pub record AreDifferent (xs list : List (List ℕ)) : Type 0 where
  pub are : list ≡ different xs
  pub once : AllPairs (λ one other. one ≢ other) list
