-- The two ends of every run are nested.
use Rattle.std.proofs.Common.{◌≡◌, true, false, sym, ap, ◌∙◌}
use Rattle.ipdl_base.specs.declared.kinds.Side.{Side}
use Rattle.ipdl_base.specs.declared.kinds.Side.TheVariants.{Parent, Child}
use Rattle.ipdl_base.specs.declared.schema.Schema.{Schema}
use Rattle.ipdl_base.specs.declared.kinds.EndState.TheVariants.{Open}
use Rattle.channel_model.specs.Ends.{End, World, end_of, link_to, opening}
use Rattle.ipdl_base.specs.Sides.{other}
use Rattle.channel_model.specs.Outputs.{is_open}
use Rattle.channel_laws.proofs.Rows.{sound_schemas_have_sound_rows}
use Rattle.channel_laws.proofs.WorldSteps.{opening-waits, move-waits, run-waits, flipped}
use Rattle.channel_laws.specs.Laws.{NestedWorldsStay, NestingInEveryRun}
use Rattle.channel_laws.specs.NestedWorlds.{IsOver, EndsAreNested, IsNestedWorld}

pub nested_worlds_stay : NestedWorldsStay
nested_worlds_stay = record { opening = λ schema top. opening-waits schema top; stays = λ schema sound move w h. move-waits schema (sound_schemas_have_sound_rows schema sound) move w h }

pub nesting_in_every_run : NestingInEveryRun
nesting_in_every_run schema sound top moves = run-waits schema (sound_schemas_have_sound_rows schema sound) moves (opening top) (opening-waits schema top)

-- The world seen from one side

pub from-side : (schema : Schema) (side : Side) (w : World) → IsNestedWorld schema w → EndsAreNested schema side (end_of side w) (end_of (other side) w) (link_to side w) (link_to (other side) w)
from-side schema Parent w h = h.ends
from-side schema Child w h = flipped schema Parent w.parent w.child w.to_parent w.to_child h.ends

pub end-side : (schema : Schema) (side : Side) (w : World) → IsNestedWorld schema w → (end_of side w).side ≡ side
end-side schema Parent w h = h.parent
end-side schema Child w h = h.child

-- an open end has not ended
pub open-not_over : {A : Type 0} (e : End) → e.state ≡ Open → IsOver e → A
open-not_over e is h = let k : true ≡ false = sym (ap is_open is) ∙ h.over in cc
