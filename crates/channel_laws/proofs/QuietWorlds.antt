-- A world is still if no step is chosen for either end, no work is left, and nothing can be delivered.
use Rattle.std.proofs.Common.{◌≡◌, Bool, true, false, not, ◌&&◌, ◌||◌, Option, Some, None, is_some, is_none, refl, ap, ◌∙◌}
use Rattle.ipdl_base.specs.declared.kinds.Side.{Side}
use Rattle.ipdl_base.specs.declared.kinds.Side.TheVariants.{Parent, Child}
use Rattle.ipdl_base.specs.declared.schema.Schema.{Schema}
use Rattle.channel_model.specs.Ends.{World}
use Rattle.channel_model.specs.Events.{Event}
use Rattle.channel_model.specs.Events as event
use Rattle.channel_model.specs.Runs.{is_possible, is_still, is_still_at}
use Rattle.channel_model.proofs.Tests.{and-left, and-right}
use Rattle.channel_laws.specs.Laws.{world_of}
use Rattle.channel_laws.specs.Quiet.{Choice, LeavesNoWork, is_quiet, is_quiet_at, QuietWorldsAreStill}
use Rattle.channel_laws.proofs.StillWorlds.{still_histories_leave_no_end_waiting}

nothing-possible : (d t r s f : Bool) (chosen : Option Event) → (t || (r || (s || f)) ≡ true → is_some chosen ≡ true) → is_none chosen && not d ≡ true → not d && (not t && (not r && (not s && not f))) ≡ true
nothing-possible d t r s f (Some ev) work quiet = let k : false ≡ true = quiet in cc
nothing-possible true t r s f None work quiet = let k : false ≡ true = quiet in cc
nothing-possible false true r s f None work quiet = work refl
nothing-possible false false true s f None work quiet = work refl
nothing-possible false false false true f None work quiet = work refl
nothing-possible false false false false true None work quiet = work refl
nothing-possible false false false false false None work quiet = refl

still-at : (schema : Schema) (w : World) (choice : Choice) (side : Side) → LeavesNoWork schema w choice → is_quiet_at schema w choice side ≡ true → is_still_at schema w side ≡ true
still-at schema w choice side work quiet =
    nothing-possible (is_possible schema w side event.deliver) (is_possible schema w side event.take) (is_possible schema w side (event.return None)) (is_possible schema w side event.resume) (is_possible schema w side event.flush) (choice side) (work side) quiet

quiet-still : (schema : Schema) (w : World) (choice : Choice) → LeavesNoWork schema w choice → is_quiet schema w choice ≡ true → is_still schema w ≡ true
quiet-still schema w choice work quiet =
    let parent : is_still_at schema w Parent ≡ true = still-at schema w choice Parent work (and-left (is_quiet_at schema w choice Parent) (is_quiet_at schema w choice Child) quiet) in
    let child : is_still_at schema w Child ≡ true = still-at schema w choice Child work (and-right (is_quiet_at schema w choice Parent) (is_quiet_at schema w choice Child) quiet) in
    ap (λ (b : Bool). b && is_still_at schema w Child) parent ∙ child

pub quiet_worlds_are_still : QuietWorldsAreStill
quiet_worlds_are_still = record {
  still = quiet-still;
  answered = λ schema sound top moves choice work quiet side. still_histories_leave_no_end_waiting.answered schema sound top moves side (quiet-still schema (world_of schema top moves) choice work quiet);
}
