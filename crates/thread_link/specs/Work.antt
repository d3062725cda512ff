-- What a side does on its worker.
use Rattle.std.specs.Prelude.{◌≡◌}
use Rattle.thread_link.specs.declared.pass.Exchange.{Exchange}
use Rattle.thread_link.specs.declared.pass.Pass.{Pass}
use Rattle.thread_link.specs.Passes.{Belongs, about, seen}
use Rattle.world_core.specs.HalfView.{HalfView}
use Rattle.world_core.specs.Halves.{FitsAfter, IsEmptied}
use Rattle.world_core.specs.Turns.{GrowsTo}

-- A side may work: its pass belongs to the exchange, and its half fits after what the pass has seen.
pub record MayWork (exchange : Exchange) (pass : Pass) (half : HalfView) : Type 0 where
  pub belongs : Belongs exchange pass
  pub fits : FitsAfter (about exchange) pass.side (seen pass) half

-- A side is at work: it has seen the lines that `before` had seen, perhaps with more after them, and it may continue.
pub record IsAtWork (exchange : Exchange) (before after : Pass) (half : HalfView) : Type 0 where
  pub side : after.side ≡ before.side
  pub may : MayWork exchange after half
  pub grows : GrowsTo (seen before) (seen after)

-- A side has worked: it may continue, and its half has nothing left to append.
pub record HasWorked (exchange : Exchange) (before after : Pass) (half : HalfView) : Type 0 where
  pub at_work : IsAtWork exchange before after half
  pub emptied : IsEmptied half
