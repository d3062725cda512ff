-- Worlds in which all that the ends keep and send fits the schema.
use Rattle.std.specs.Prelude.{◌<◌}
use Rattle.std.specs.List.{AllByRecursion}
use Rattle.ipdl_base.specs.declared.schema.Schema.{Schema}
use Rattle.channel_model.specs.Bounds.{IsCounted}
use Rattle.channel_model.specs.Ends.{World}
use Rattle.channel_model.specs.Fitting.{IsFitting, FitsPacket}

-- What both ends keep and count fits, and so does each packet on the links.
pub record IsFittingWorld (schema : Schema) (w : World) : Type 0 where
  pub parent : IsFitting schema w.parent
  pub child : IsFitting schema w.child
  pub parent_counted : IsCounted w.parent
  pub child_counted : IsCounted w.child
  pub to_parent : AllByRecursion (FitsPacket schema) w.to_parent
  pub to_child : AllByRecursion (FitsPacket schema) w.to_child

-- Each end has sent less than 2^28 requests.
pub record IsShort (w : World) : Type 0 where
  pub parent : w.parent.sent < 268435456
  pub child : w.child.sent < 268435456
