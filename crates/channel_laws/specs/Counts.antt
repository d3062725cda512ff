-- The number of elements of a list that pass a test.
use Rattle.std.specs.Prelude.{ℕ, ◌+◌, ◌≤◌, ℤ, Bool, cond, List, [], ◌∷◌}
use Rattle.std.specs.Ordering.{int_eq}
use Rattle.ipdl_base.specs.declared.kinds.Side.{Side}
use Rattle.channel_model.specs.Requests.{IsSeqOf}
use Rattle.history_reading.specs.declared.parts.PacketKind.{PacketKind}
use Rattle.history_reading.specs.Numbers.{same_packet}

-- 1 for yes, 0 for no
abbrev pub one_if : Bool → ℕ
one_if b = cond b 1 0

-- the number of elements that pass
abbrev pub how_many : {A : Type 0} → (A → Bool) → List A → ℕ
how_many test [] = 0
how_many test (x ∷ xs) = one_if (test x) + how_many test xs

-- whether a number is this one
abbrev pub is_number : ℤ → ℤ → Bool
is_number n m = int_eq m n

-- whether a packet shows the same as this one
abbrev pub is_packet : PacketKind → PacketKind → Bool
is_packet one p = same_packet p one

-- Each number that is counted is that of one of the first `sent` requests of a side, and is counted once.
pub record AreNumberedOnce (side : Side) (sent : ℕ) (count : ℤ → ℕ) : Type 0 where
  pub once : (n : ℤ) → count n ≤ 1
  pub known : (n : ℤ) → 1 ≤ count n → IsSeqOf side sent n
