-- How the findings of a line are gathered.
use Rattle.std.proofs.Common.{◌≡◌, true, Bool, List, ◌⊎◌, inl, inr, refl}
use Rattle.std.specs.Prelude.{◌↔◌, IsTrue}
use Rattle.ipdl_base.specs.declared.finding.Finding.{Finding}
use Rattle.ipdl_base.specs.declared.finding.Place.{Place}
use Rattle.ipdl_base.specs.declared.finding.Rule.{Rule}
use Rattle.findings.specs.Gains.{Gains}
use Rattle.findings.proofs.Gathers.{Gains-like, Gains-then}

-- a test shows that a rule is broken
pub gains_if : (rule : Rule) (place : Place) (b : Bool) (P : Type 0) (old new : List Finding) → Gains (λ f. (place ≡ f.place) × ((f.rule ≡ rule) × IsTrue b)) old new → IsTrue b ↔ P → Gains (λ f. (place ≡ f.place) × ((f.rule ≡ rule) × P)) old new
gains_if rule place b P old new gains iff =
    Gains-like (λ f. (place ≡ f.place) × ((f.rule ≡ rule) × IsTrue b)) (λ f. (place ≡ f.place) × ((f.rule ≡ rule) × P)) old new gains
    (λ f h. (h.0, (h.1.0, iff.0 h.1.1))) (λ f h. (h.0, (h.1.0, iff.1 h.1.1)))

-- one rule's findings and those of others
pub gains_or : (place : Place) (A B : Finding → Type 0) (a b c : List Finding) → Gains (λ f. (place ≡ f.place) × A f) a b → Gains (λ f. (place ≡ f.place) × B f) b c → Gains (λ f. (place ≡ f.place) × (A f ⊎ B f)) a c
gains_or place A B a b c one two =
    Gains-like (λ f. ((place ≡ f.place) × A f) ⊎ ((place ≡ f.place) × B f)) (λ f. (place ≡ f.place) × (A f ⊎ B f)) a c
    (Gains-then (λ f. (place ≡ f.place) × A f) (λ f. (place ≡ f.place) × B f) a b c one two)
    (λ f h. elim h [ inl x ↦ (x.0, inl x.1) | inr x ↦ (x.0, inr x.1) ])
    (λ f h. elim h.1 [ inl x ↦ inl (h.0, x) | inr x ↦ inr (h.0, x) ])

-- if a message does not exist, only that is found
pub gains_absent : (place : Place) (A K : Finding → Type 0) (N : Type 0) (a b : List Finding) → Gains (λ f. (place ≡ f.place) × (A f × N)) a b → N → Gains (λ f. (place ≡ f.place) × ((A f × N) ⊎ ((¬ N) × K f))) a b
gains_absent place A K N a b gains is =
    Gains-like (λ f. (place ≡ f.place) × (A f × N)) (λ f. (place ≡ f.place) × ((A f × N) ⊎ ((¬ N) × K f))) a b gains
    (λ f h. (h.0, inl h.1))
    (λ f h. elim h.1 [ inl x ↦ (h.0, x) | inr x ↦ absurd (x.0 is) ])

-- and if it exists, the others are found
pub gains_known : (place : Place) (A K : Finding → Type 0) (N : Type 0) (a b : List Finding) → Gains (λ f. (place ≡ f.place) × K f) a b → ¬ N → Gains (λ f. (place ≡ f.place) × ((A f × N) ⊎ ((¬ N) × K f))) a b
gains_known place A K N a b gains none =
    Gains-like (λ f. (place ≡ f.place) × K f) (λ f. (place ≡ f.place) × ((A f × N) ⊎ ((¬ N) × K f))) a b gains
    (λ f h. (h.0, inr (none, h.1)))
    (λ f h. elim h.1 [ inl x ↦ absurd (none x.1) | inr x ↦ (h.0, x.1) ])

-- a finding that is always there
pub gains_plain : (rule : Rule) (place : Place) (old new : List Finding) → Gains (λ f. (place ≡ f.place) × ((f.rule ≡ rule) × IsTrue true)) old new → Gains (λ f. (place ≡ f.place) × (f.rule ≡ rule)) old new
gains_plain rule place old new gains =
    Gains-like (λ f. (place ≡ f.place) × ((f.rule ≡ rule) × IsTrue true)) (λ f. (place ≡ f.place) × (f.rule ≡ rule)) old new gains (λ f h. (h.0, h.1.0)) (λ f h. (h.0, (h.1, refl)))
