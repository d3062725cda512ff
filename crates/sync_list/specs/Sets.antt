-- Sets of names and of pairs of names, and what is added to them, as facts on their keys.
use Rattle.std.specs.Prelude.{◌↔◌, ℕ, Bool, ◌&&◌, nat_eq, ◌⊎◌, List, IsTrue}
use Rattle.std.specs.Cmp.Lexicographic.{pointwise}
use Rattle.std.specs.HashSet.{HashSet, contains}
use denote.Ref.{Bor}

-- the names are the same
abbrev pub same_name : Bor (List ℕ) → Bor (List ℕ) → Bool
same_name x y = pointwise nat_eq x.now y.now

-- the names of a protocol and a message
abbrev pub NamePair : Type 0
NamePair = Bor (List ℕ) × Bor (List ℕ)

-- both names are the same
abbrev pub same_pair : NamePair → NamePair → Bool
same_pair x y = pointwise nat_eq x.0.now y.0.now && pointwise nat_eq x.1.now y.1.now

-- the set has exactly the keys with this property
pub record KeysAre {K S : Type 0} (eq : K → K → Bool) (set : HashSet K S) (Holds : K → Type 0) : Type 0 where
  pub exact : (key : K) → IsTrue (contains eq set key) ↔ Holds key

-- the new set has exactly the keys of the old one and those with this property
pub record AddsKeys {K S : Type 0} (eq : K → K → Bool) (old new : HashSet K S) (Holds : K → Type 0) : Type 0 where
  pub exact : (key : K) → IsTrue (contains eq new key) ↔ (IsTrue (contains eq old key) ⊎ Holds key)
