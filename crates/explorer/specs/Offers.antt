-- What letters do, by what sides may do.
use Rattle.std.specs.Prelude.{Bool, true, not, ◌&&◌, if◌then◌else◌, Option, Some, None}
use Rattle.ipdl_base.specs.declared.kinds.Side.{Side}
use Rattle.ipdl_base.specs.declared.kinds.Side.TheVariants as sides
use Rattle.schedules.specs.declared.turn.Turn.{Turn}
use Rattle.explorer.specs.declared.letters.Offer.{Offer}
use Rattle.explorer.specs.declared.letters.Offer.TheVariants as offer

-- what a letter does at a state, as far as no earlier letter does the same: whether it is for deliveries only, whether its side
-- has an own step, whether it may have a delivery, and whether it has reached the limit
abbrev pub offer_by : Bool → Bool → Bool → Bool → Offer
offer_by only acts receives spent =
    if only then (if acts && receives && not spent then offer.Step true else offer.Nothing)
    else (if not acts && not receives then offer.Nothing else (if spent then offer.Spent else offer.Step (not acts)))

-- the letter after a letter, by whether it is for deliveries only, and its side
abbrev pub following : Bool → Side → Option Turn
following only sides.Parent = Some (record { side = sides.Child; only_deliver = only })
following only sides.Child = if only then None else Some (record { side = sides.Parent; only_deliver = true })
