-- The key of a file, and the words that name files.
use Rattle.std.specs.Prelude.{◌≡◌, ℕ, ◌==◌, ◌⊎◌, if◌then◌else◌, List, [], ◌∷◌, ◌++◌, codes}
use Rattle.std.specs.List.{list_any}

-- what follows the last byte of this kind, or all if there is no such byte
abbrev pub after_last : ℕ → List ℕ → List ℕ
after_last mark [] = []
after_last mark (b ∷ bs) = if list_any (λ c. c == mark) bs then after_last mark bs else (if b == mark then bs else b ∷ bs)

-- the key of a file: the part of its name after the last `/`, or all of it if there is no `/`
abbrev pub key_of : List ℕ → List ℕ
key_of name = after_last 47 name

-- a word names a file: it ends in `.ipdl` or in `.ipdlh`
abbrev pub IsFileWord : List ℕ → Type 0
IsFileWord word = (front : List ℕ) × ((word ≡ front ++ codes ".ipdl") ⊎ (word ≡ front ++ codes ".ipdlh"))
