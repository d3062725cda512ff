-- The actor that a constructor's request builds.
use Rattle.std.specs.Prelude.{◌≡◌, ◌+◌, ℤ, List, [], ◌∷◌, ◌++◌, Option, Some, None}
use Rattle.actor_tree.specs.declared.actor.Actor.{Actor}
use Rattle.actor_tree.specs.Tree.{refusal}
use Rattle.ipdl_base.specs.declared.kinds.Side.{Side}
use Rattle.ipdl_base.specs.declared.line.What.TheVariants as what
use Rattle.ipdl_base.specs.declared.schema.Kind.{Kind}
use Rattle.ipdl_base.specs.declared.schema.Kind.TheVariants.{Normal, Constructor, Delete}
use Rattle.channel_model.specs.Outputs.{line_at}
use Rattle.end_parts.specs.OutputView.{OutputView, with_line}

-- the actor that a request of this kind, new id and route builds
abbrev pub built_by : Kind → ℤ → ℤ → Option Actor
built_by Normal made route = None
built_by (Constructor protocol) made route = Some (record { id = made; protocol = protocol; manager = route })
built_by Delete made route = None

-- the actors that live after it
abbrev pub with_built : Option Actor → List Actor → List Actor
with_built None actors = actors
with_built (Some a) actors = actors ++ a ∷ []

-- nobody has its id, and its manager lives
abbrev pub IsFree : List Actor → Option Actor → Type 0
IsFree actors None = Unit {0}
IsFree actors (Some a) = refusal a.id a.manager actors ≡ None

-- the output after its line: its fall is owed
abbrev pub with_built_line : Side → Option Actor → OutputView → OutputView
with_built_line side None out = out
with_built_line side (Some a) out = record (with_line out (line_at side (what.Built a.id a.protocol))) { lines_owed = out.lines_owed + 1 }
