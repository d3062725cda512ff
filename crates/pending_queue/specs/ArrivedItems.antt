use Rattle.std.specs.Prelude.{ℕ, List}
use Rattle.pending_queue.specs.declared.item.Item.{Item}

-- the arrived items, oldest first, and the number of further ones that there is room for
pub record ArrivedItems : Type 0 where
  pub items : List Item
  pub spare : ℕ
