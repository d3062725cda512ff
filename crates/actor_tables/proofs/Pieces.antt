-- Pieces that are appended one after another.
use Rattle.std.proofs.Common.{◌≡◌, ℕ, List, ◌++◌, Result, Ok, Err, is_ok, cond, append_assoc}
use Rattle.std.specs.Prelude.{OnOk}

five : (old a b c d e o1 o2 o3 o4 new : List ℕ) → o1 ≡ old ++ a → o2 ≡ o1 ++ b → o3 ≡ o2 ++ c → o4 ≡ o3 ++ d → new ≡ o4 ++ e
    → new ≡ old ++ ((((a ++ b) ++ c) ++ d) ++ e)
five old a b c d e o1 o2 o3 o4 new p q r s t = rw (t, s, r, q, p) (simp append_assoc)

-- five pieces
pub put_five : {A E : Type 0} (result : Result A E) (old a b c d e o1 o2 o3 o4 new : List ℕ) → o1 ≡ old ++ a → o2 ≡ o1 ++ b → o3 ≡ o2 ++ c → o4 ≡ o3 ++ d
    → new ≡ cond (is_ok result) (o4 ++ e) o4 → OnOk result (new ≡ old ++ ((((a ++ b) ++ c) ++ d) ++ e))
put_five (Ok x) old a b c d e o1 o2 o3 o4 new p q r s t = five old a b c d e o1 o2 o3 o4 new p q r s t
put_five (Err x) old a b c d e o1 o2 o3 o4 new p q r s t = tt
