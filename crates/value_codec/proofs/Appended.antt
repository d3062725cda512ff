-- What is appended piece by piece.
use Rattle.std.proofs.Common.{◌≡◌, ℕ, List, ◌++◌, OnOk, ap, ◌∙◌, append_assoc}
use Rattle.std.specs.Prelude.{Result, Ok, Err}

pub appended-three : {X E : Type 0} (result : Result X E) (old first second new a b c : List ℕ) → first ≡ old ++ a → second ≡ first ++ b → OnOk result (new ≡ second ++ c) → OnOk result (new ≡ old ++ (a ++ b ++ c))
appended-three (Ok x) old first second new a b c d e f =
    f ∙ ap (λ (bytes : List ℕ). bytes ++ c) (e ∙ ap (λ (bytes : List ℕ). bytes ++ b) d ∙ append_assoc old a b) ∙ append_assoc old (a ++ b) c
appended-three (Err e) old first second new a b c d g f = f
