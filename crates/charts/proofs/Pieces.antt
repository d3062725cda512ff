-- Texts that are appended piece by piece.
use Rattle.std.proofs.Common.{◌≡◌, ◌∙◌, ℕ, List, ◌++◌, Result, Ok, Err, ap, append_assoc}
use Rattle.std.specs.Prelude.{OnOk}
use Rattle.ipdl_base.specs.declared.kinds.Side.{Side}
use Rattle.charts.specs.Chart.{life_style}
use Rattle.charts.specs.Strokes.{height, lane, stroke}

-- one piece, and then all others
pub after : {X E : Type 0} (result : Result X E) (out one others middle last : List ℕ) → middle ≡ out ++ one → OnOk result (last ≡ middle ++ others) → OnOk result (last ≡ out ++ (one ++ others))
after (Ok x) out one others middle last first rest = rest ∙ (ap (λ (t : List ℕ). t ++ others) first ∙ append_assoc out one others)
after (Err e) out one others middle last first rest = tt

-- a piece by another name
pub same : {X E : Type 0} (result : Result X E) (out new one other : List ℕ) → one ≡ other → OnOk result (new ≡ out ++ one) → OnOk result (new ≡ out ++ other)
same (Ok x) out new one other is piece = piece ∙ ap (λ (t : List ℕ). out ++ t) is
same (Err e) out new one other is piece = tt

-- one piece, and then all others
pub joined : (out one others middle last : List ℕ) → middle ≡ out ++ one → last ≡ middle ++ others → last ≡ out ++ (one ++ others)
joined out one others middle last first rest = rest ∙ (ap (λ (t : List ℕ). t ++ others) first ∙ append_assoc out one others)

-- what follows of what holds if there was room
pub follows : {X E : Type 0} {P Q : Type 0} (result : Result X E) → (P → Q) → OnOk result P → OnOk result Q
follows (Ok x) so holds = so holds
follows (Err e) so holds = tt

-- a lifeline, by where its side and its end are
pub life_drawn : (out new : List ℕ) (side : Side) (x y row end : ℕ) → x ≡ lane side → y ≡ height row → row ≡ end → new ≡ out ++ stroke life_style x 44 x y
    → new ≡ out ++ stroke life_style (lane side) 44 (lane side) (height end)
life_drawn out new side x y row end across down last drawn =
    drawn ∙ ap (λ (t : List ℕ). out ++ t) (ap (λ (p : ℕ). stroke life_style p 44 p y) across ∙ ap (λ (q : ℕ). stroke life_style (lane side) 44 (lane side) q) (down ∙ ap height last))
