-- The two sides of a channel, which of them sends a message, and the fixed numbers of a channel.
use Rattle.std.specs.Prelude.{ℕ, ℤ, pos, Bool, true, false}
use Rattle.ipdl_base.specs.declared.kinds.Direction.{Direction}
use Rattle.ipdl_base.specs.declared.kinds.Direction.TheVariants as direction
use Rattle.ipdl_base.specs.declared.kinds.Side.{Side}
use Rattle.ipdl_base.specs.declared.kinds.Side.TheVariants.{Parent, Child}

-- the other side
abbrev pub other : Side → Side
other Parent = Child
other Child = Parent

-- whether a side sends the messages of a direction
abbrev pub sends : Side → Direction → Bool
sends side direction.Both = true
sends Parent direction.Child = true
sends Child direction.Parent = true
sends Parent direction.Parent = false
sends Child direction.Child = false

-- the id of the top actor
abbrev pub top_id : ℤ
top_id = pos 2147483647

-- the number of a goodbye
abbrev pub goodbye_number : ℕ
goodbye_number = 4294901760
