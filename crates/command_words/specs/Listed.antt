-- What is found on the way to a command: the pieces of a value, and the files that are noted so far.
use Rattle.std.specs.Prelude.{◌≡◌, ℕ, ◌==◌, List, map}
use Rattle.std.specs.List.{AllByRecursion, slice_split}
use Rattle.std.specs.Borrow.{Bor}
use Rattle.std.specs.declared.hash.FoldHasher.{FoldHasher}
use Rattle.std.specs.declared.hash.BuildHasherDefault.{BuildHasherDefault}
use Rattle.indexmap.specs.IndexMap.{IndexMap}
use Rattle.ipdl_base.specs.FileNames.{key_of}

-- what is between the colons of a text
abbrev pub pieces : List ℕ → List (List ℕ)
pieces text = slice_split (λ b. b == 58) text

-- files, each under its key
abbrev pub Noted : Type 0
Noted = IndexMap (Bor (List ℕ)) (Bor (List ℕ)) (BuildHasherDefault FoldHasher)

-- the words, in order
abbrev pub names_of : Noted → List (List ℕ)
names_of noted = map (λ entry. entry.1.now) noted.entries

-- each is under its key
abbrev pub IsKeyed : Noted → Type 0
IsKeyed noted = AllByRecursion (λ entry. key_of entry.1.now ≡ entry.0.now) noted.entries
