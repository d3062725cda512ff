-- Facts on both sides of a relay state, stated once for a side and the other.
use Rattle.std.proofs.Common.{◌≡◌, ◌⊎◌, inl, inr, refl, ap, ◌∙◌}
use Rattle.ipdl_base.specs.declared.kinds.Side.{Side}
use Rattle.ipdl_base.specs.declared.kinds.Side.TheVariants as sides
use Rattle.ipdl_base.specs.Sides.{other}
use Rattle.relay_runs.specs.HalfRuns.{HalfState}
use Rattle.relay_runs.specs.RelaySteps.{RelayState, half_of, with_half}

pub twice : (side : Side) → other (other side) ≡ side
twice sides.Parent = refl
twice sides.Child = refl

-- a fact of a side and one of the other are a fact of each
pub by-sides : (P : Side → Type 0) (side : Side) → P side → P (other side) → (s : Side) → P s
by-sides P sides.Parent h k sides.Parent = h
by-sides P sides.Parent h k sides.Child = k
by-sides P sides.Child h k sides.Parent = k
by-sides P sides.Child h k sides.Child = h

pub which-side : (side s : Side) → (s ≡ side) ⊎ (s ≡ other side)
which-side sides.Parent sides.Parent = inl refl
which-side sides.Parent sides.Child = inr refl
which-side sides.Child sides.Parent = inr refl
which-side sides.Child sides.Child = inl refl

-- where the half of one side is put in, it is there, and the other half is as before
pub half-here : (side : Side) (half : HalfState) (state : RelayState) → half_of side (with_half side half state) ≡ half
half-here sides.Parent half state = refl
half-here sides.Child half state = refl

pub half-there : (side : Side) (half : HalfState) (state : RelayState) → half_of (other side) (with_half side half state) ≡ half_of (other side) state
half-there sides.Parent half state = refl
half-there sides.Child half state = refl

pub half-apart : (side : Side) (half : HalfState) (state : RelayState) → half_of side (with_half (other side) half state) ≡ half_of side state
half-apart sides.Parent half state = refl
half-apart sides.Child half state = refl

-- states with the same halves are the same
same-halves : (one two : RelayState) → one.parent ≡ two.parent → one.child ≡ two.child → one ≡ two
same-halves one two parent child = ap (λ (half : HalfState). record one { parent = half }) parent ∙ ap (λ (half : HalfState). record { parent = two.parent; child = half }) child

pub same-relay : (one two : RelayState) → ((side : Side) → half_of side one ≡ half_of side two) → one ≡ two
same-relay one two h = same-halves one two (h sides.Parent) (h sides.Child)
