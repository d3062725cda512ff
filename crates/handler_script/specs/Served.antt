-- The blocks that serve a side, on its own or when it handles a message.
use Rattle.std.specs.Prelude.{ℕ, ◌==◌, ◌&&◌, Bool, true, false, Option, Some, None}
use Rattle.ipdl_base.specs.declared.kinds.Side.{Side}
use Rattle.ipdl_base.specs.Lines.{same_side}
use Rattle.handler_script.specs.declared.action.Block.{Block}

abbrev pub is_number : Option ℕ → Option ℕ → Bool
is_number None None = true
is_number (Some m) (Some n) = m == n
is_number _ _ = false

-- whether a block is the main of the side, or one for the message
abbrev pub serves : Side → Option ℕ → Block → Bool
serves s handled block = same_side block.side s && is_number block.handles handled
