-- When two semantics are the same.
use Rattle.std.proofs.Common.{◌≡◌, refl, sym}
use Rattle.std.specs.Bool.{Decides}
use Rattle.std.proofs.lemmas.Bool.{true≢false}
use Rattle.ipdl_base.specs.declared.kinds.Semantics.{Semantics}
use Rattle.ipdl_base.specs.declared.kinds.Semantics.TheVariants.{Async, Sync}
use Rattle.ipdl_base.specs.contracts.kinds.Semantics.{the_type}
use denote.Enum.Bare.{sameb}

-- the test of two semantics decides whether they are the same
pub semantics_decides : (a b : Semantics) → Decides (sameb the_type a b) (a ≡ b)
semantics_decides Async Async = (λ h. refl, λ h. refl)
semantics_decides Sync Sync = (λ h. refl, λ h. refl)
semantics_decides Async Sync = (λ h. absurd (true≢false (sym h)), λ h. absurd (let x : ⊥ = cc in x))
semantics_decides Sync Async = (λ h. absurd (true≢false (sym h)), λ h. absurd (let x : ⊥ = cc in x))

-- a property of neither semantics holds of no semantics
pub neither : (P : Semantics → Type 0) → ¬ P Sync → ¬ P Async → (s : Semantics) → ¬ P s
neither P none_sync none_async Sync h = none_sync h
neither P none_sync none_async Async h = none_async h
