-- Words and names.
use Rattle.std.specs.Prelude.{◌≡◌, ℕ, Bool, false, ◌||◌, ◌&&◌, ◌==◌, nat_le, IsTrue, if◌then◌else◌, List, [], ◌∷◌, ◌++◌}
use Rattle.std.specs.List.{list_any, list_all, AllByRecursion}

-- a letter or an underscore
abbrev pub is_word_start : ℕ → Bool
is_word_start b = (nat_le 65 b && nat_le b 90) || (nat_le 97 b && nat_le b 122) || (b == 95)

-- a letter, a digit or an underscore
abbrev pub is_word_byte : ℕ → Bool
is_word_byte b = is_word_start b || (nat_le 48 b && nat_le b 57)

-- whether bytes are a word: a letter or an underscore, and then letters, digits and underscores
abbrev pub is_word : List ℕ → Bool
is_word [] = false
is_word (b ∷ bs) = is_word_start b && list_all is_word_byte bs

abbrev pub IsWord : List ℕ → Type 0
IsWord bytes = IsTrue (is_word bytes)

-- the words with two colons between each two
abbrev pub joined : List (List ℕ) → List ℕ
joined [] = []
joined (w ∷ []) = w
joined (w ∷ v ∷ ws) = w ++ 58 ∷ 58 ∷ joined (v ∷ ws)

-- words joined by colons, at least one
abbrev pub IsFullName : List ℕ → Type 0
IsFullName name = (first : List ℕ) × (others : List (List ℕ)) × AllByRecursion IsWord (first ∷ others) × (name ≡ joined (first ∷ others))

-- what follows the last colon, or all if there is no colon
abbrev pub short_name : List ℕ → List ℕ
short_name [] = []
short_name (b ∷ bs) = if list_any (λ c. c == 58) bs then short_name bs else (if b == 58 then bs else b ∷ bs)
