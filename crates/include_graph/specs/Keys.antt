-- The kinds of files by their keys, the words of a command, and the keys of words.
use Rattle.std.specs.Prelude.{◌≡◌, ℕ, ◌≤◌, nat_eq, Bool, not, List, [], ◌∷◌, ◌++◌, length, map, filter}
use Rattle.std.specs.Cmp.Lexicographic.{pointwise}
use Rattle.std.specs.List.{AllByRecursion}
use Rattle.ipdl_base.specs.FileNames.{key_of, IsFileWord}
use Rattle.ipdl_syntax.specs.declared.tree.FileKind.{FileKind}
use Rattle.ipdl_syntax.specs.Programs.{ending}

-- the name ends as those of files of this kind
abbrev pub HasKind : List ℕ → FileKind → Type 0
HasKind name kind = (front : List ℕ) × (name ≡ front ++ ending kind)

-- The words of a command name files: there are at most 4,096, and each ends in `.ipdl` or `.ipdlh`.
pub record AreFileWords (words : List (List ℕ)) : Type 0 where
  pub few : length words ≤ 4096
  pub files : AllByRecursion IsFileWord words

-- whether two texts are the same
abbrev pub is_same : List ℕ → List ℕ → Bool
is_same one other = pointwise nat_eq one other

-- each of these once, in the order of their first occurrences
abbrev pub different : List (List ℕ) → List (List ℕ)
different [] = []
different (x ∷ xs) = x ∷ filter (λ y. not (is_same x y)) (different xs)

-- the keys of words, each once
abbrev pub word_keys : List (List ℕ) → List (List ℕ)
word_keys words = different (map key_of words)
