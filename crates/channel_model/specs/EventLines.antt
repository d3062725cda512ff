-- The lines of an event, and lines of events one after another.
use Rattle.std.specs.Prelude.{◌≡◌, true, false, List, [], ◌∷◌, Option, Some}
use Rattle.std.specs.Bool.{MatchBool}
use Rattle.std.specs.List.{AllByRecursion}
use Rattle.ipdl_base.specs.declared.line.Line.{Line}
use Rattle.ipdl_base.specs.Lines.{is_effect}
use Rattle.ipdl_base.specs.declared.kinds.Side.{Side}

-- a line of this side that is an event
abbrev pub IsEventOf : Side → Line → Type 0
IsEventOf side line = (line.side ≡ side) × (is_effect line.what ≡ false)

-- a line of this side that is an effect
abbrev pub IsEffectOf : Side → Line → Type 0
IsEffectOf side line = (line.side ≡ side) × (is_effect line.what ≡ true)

-- a line of an event and then lines of effects, all of one side
abbrev pub IsEventWithEffects : Side → List Line → Type 0
IsEventWithEffects side [] = ⊥
IsEventWithEffects side (first ∷ rest) = IsEventOf side first × AllByRecursion (IsEffectOf side) rest

-- Lines that follow a line whose event is on this side, if there is one. Each effect is on the side of the nearest
-- event above it, and there is such an event.
abbrev pub EffectsFollow : Option Side → List Line → Type 0
EffectsFollow before [] = Unit {0}
EffectsFollow before (line ∷ rest) = MatchBool (is_effect line.what) (before ≡ Some line.side) (Unit {0}) × EffectsFollow (Some line.side) rest
