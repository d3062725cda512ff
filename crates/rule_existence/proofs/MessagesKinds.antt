-- The semantics, levels and kinds of messages are decided, and whether one strength converts to another.
use Rattle.std.proofs.Common.{◌≡◌, ◌⊎◌, ℕ, ◌≤◌, refl, inl, inr, ⊎_elim, arith}
use Rattle.std.proofs.lemmas.Bool.{cases_lt}
use Rattle.ipdl_base.specs.declared.kinds.Compress.{Compress}
use Rattle.ipdl_base.specs.declared.kinds.Compress.TheVariants as compress
use Rattle.ipdl_base.specs.declared.kinds.Direction.{Direction}
use Rattle.ipdl_base.specs.declared.kinds.Direction.TheVariants as direction
use Rattle.ipdl_base.specs.declared.kinds.Level.{Level}
use Rattle.ipdl_base.specs.declared.kinds.Level.TheVariants.{Not, InsideSync, InsideCpow}
use Rattle.ipdl_base.specs.declared.kinds.Semantics.{Semantics}
use Rattle.ipdl_base.specs.declared.kinds.Semantics.TheVariants.{Async, Sync}
use Rattle.name_table.specs.Kinds.{Converts, level_number}
use Rattle.name_table.specs.declared.kinds.MessageKind.{MessageKind}
use Rattle.name_table.specs.declared.kinds.MessageKind.TheVariants as kind
use Rattle.name_table.specs.declared.strength.Strength.{Strength}
use Rattle.report_existence.proofs.Finite.{both_or_not, either_or_not}
use Rattle.name_existence.proofs.Decisions.{like_or_not}

pub at_most_or_not : (a b : ℕ) → (a ≤ b) ⊎ (a ≤ b → ⊥)
at_most_or_not a b = ⊎_elim (λ above. inr (λ most. omega (arith, above, most))) (λ most. inl most) (cases_lt b a)

pub same_semantics_or_not : (a b : Semantics) → (a ≡ b) ⊎ (a ≡ b → ⊥)
same_semantics_or_not Async Async = inl refl
same_semantics_or_not Sync Sync = inl refl
same_semantics_or_not Async Sync = inr (λ e. cc)
same_semantics_or_not Sync Async = inr (λ e. cc)

pub same_level_or_not : (a b : Level) → (a ≡ b) ⊎ (a ≡ b → ⊥)
same_level_or_not Not Not = inl refl
same_level_or_not InsideSync InsideSync = inl refl
same_level_or_not InsideCpow InsideCpow = inl refl
same_level_or_not Not _ = inr (λ e. cc)
same_level_or_not InsideSync _ = inr (λ e. cc)
same_level_or_not InsideCpow _ = inr (λ e. cc)

pub same_kind_or_not : (a b : MessageKind) → (a ≡ b) ⊎ (a ≡ b → ⊥)
same_kind_or_not kind.Normal kind.Normal = inl refl
same_kind_or_not kind.Constructor kind.Constructor = inl refl
same_kind_or_not kind.Destructor kind.Destructor = inl refl
same_kind_or_not kind.Normal _ = inr (λ e. cc)
same_kind_or_not kind.Constructor _ = inr (λ e. cc)
same_kind_or_not kind.Destructor _ = inr (λ e. cc)

pub parent_or_not : (d : Direction) → (d ≡ direction.Parent) ⊎ (d ≡ direction.Parent → ⊥)
parent_or_not direction.Parent = inl refl
parent_or_not _ = inr (λ e. cc)

pub plain_or_not : (c : Compress) → (c ≡ compress.Plain) ⊎ (c ≡ compress.Plain → ⊥)
plain_or_not compress.Plain = inl refl
plain_or_not _ = inr (λ e. cc)

pub converts_or_not : (one other : Strength) → Converts one other ⊎ (Converts one other → ⊥)
converts_or_not one other =
    like_or_not (λ h. record { least = h.0; most = h.1.0; semantics = h.1.1 }) (λ h. (h.least, (h.most, h.semantics)))
    (both_or_not (at_most_or_not (level_number other.least) (level_number one.least))
    (both_or_not (at_most_or_not (level_number one.most) (level_number other.most)) (either_or_not (same_semantics_or_not one.semantics Async) (same_semantics_or_not other.semantics Sync))))
