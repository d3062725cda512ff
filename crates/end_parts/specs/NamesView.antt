-- What contracts see of the names of an end.
use Rattle.std.specs.Prelude.{ℕ, List}
use Rattle.channel_model.specs.Ends.{Naming}

-- the names with what they are bound to, and the number of further ones that there is room for
pub record NamesView : Type 0 where
  pub names : List Naming
  pub spare : ℕ
