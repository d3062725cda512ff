-- The name that a new actor gets.
use Rattle.std.specs.Prelude.{◌≡◌, ℕ, ◌<◌, ℤ, true, List, ◌++◌, Option, Some, None}
use Rattle.ipdl_base.specs.declared.kinds.Side.{Side}
use Rattle.ipdl_base.specs.declared.schema.Schema.{Schema}
use Rattle.channel_model.specs.Ends.{Naming, actor}
use Rattle.channel_model.specs.Names.{held_by_name, holding, without_name}
use Rattle.end_parts.specs.NamesView.{NamesView}
use Rattle.end_parts.specs.OutputView.{OutputView}
use Rattle.end_steps.specs.Renamings.{destroyed_of, with_destroyed}
use Rattle.channel_core.specs.declared.ready_name.ReadyName.{ReadyName}

-- A name is ready at an open end, if there is one: its copy, the answer for the resolver that it has, and room.
abbrev pub IsReadyName : Schema → Option (List ℕ) → NamesView → Option ReadyName → Type 0
IsReadyName schema None names None = Unit {0}
IsReadyName schema (Some name) names (Some ready) = (ready.held ≡ name) × (ready.destroyed ≡ destroyed_of true schema (held_by_name name names.names)) × (0 < names.spare)
IsReadyName schema _ names _ = ⊥

-- there is room for it
abbrev pub HasRoomFor : Option ReadyName → NamesView → Type 0
HasRoomFor None names = Unit {0}
HasRoomFor (Some ready) names = 0 < names.spare

-- the names after it
abbrev pub names_after : Option ReadyName → ℤ → List Naming → List Naming
names_after None id names = names
names_after (Some ready) id names = without_name ready.held names ++ holding ready.held (Some (actor id))

-- the output after it: the resolver that it had is destroyed
abbrev pub output_after : Side → Option ReadyName → OutputView → OutputView
output_after side None out = out
output_after side (Some ready) out = with_destroyed side out ready.destroyed
