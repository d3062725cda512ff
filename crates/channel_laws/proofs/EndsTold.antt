-- What the link toward an open end shows of the other end.
use Rattle.std.proofs.Common.{◌≡◌, true, false, List, sym, ap, ◌∙◌}
use Rattle.ipdl_base.specs.declared.kinds.Side.{Side}
use Rattle.ipdl_base.specs.declared.schema.Schema.{Schema}
use Rattle.ipdl_base.specs.declared.kinds.EndState.TheVariants.{Open, Draining}
use Rattle.channel_model.specs.Ends.{End, World, Packet, end_of, link_to}
use Rattle.ipdl_base.specs.Sides.{other}
use Rattle.channel_model.specs.Outputs.{is_open}
use Rattle.channel_laws.proofs.LastPackets.{link-goes_on}
use Rattle.channel_laws.proofs.WorldSteps.{nested-goes_on}
use Rattle.channel_laws.specs.Laws.{world_of, EndsAreRecordedInRuns}
use Rattle.channel_laws.specs.NestedWorlds.{sync_end_of, EndsAreNested, both_open, mine_open, theirs_open, both_over, HasNoLastPacket, EndsInLastPacket}
use Rattle.channel_laws.specs.SyncCalls.{sync_packets, sync_calls}
use Rattle.channel_laws.proofs.EveryRun.{nesting_in_every_run, from-side, open-not_over}

open-not_gone : {A : Type 0} (e : End) → e.state ≡ Open → is_open e.state ≡ false → A
open-not_gone e is h = let k : true ≡ false = sym (ap is_open is) ∙ h in cc

pub told-at : (schema : Schema) (side : Side) (mine theirs : End) (to_me to_them : List Packet) → mine.state ≡ Open → EndsAreNested schema side mine theirs to_me to_them → (theirs.state ≡ Draining → ⊥) × (theirs.state ≡ Open → HasNoLastPacket to_me) × (is_open theirs.state ≡ false → EndsInLastPacket to_me)
told-at schema side mine theirs to_me to_them is (both_open {stack} {under} h t n) =
    (λ d. let k : Open ≡ Draining = sym t.state ∙ d in cc, λ o. link-goes_on schema to_me (nested-goes_on side stack (sync_calls mine.arrived) (sync_packets schema to_me) (sync_end_of schema theirs to_them under) n), λ o. open-not_gone theirs t.state o)
told-at schema side mine theirs to_me to_them is (mine_open h gone l a) = (gone.told, λ o. open-not_gone theirs o gone.ended.over, λ o. l)
told-at schema side mine theirs to_me to_them is (theirs_open h gone l a) = open-not_over mine is gone.ended
told-at schema side mine theirs to_me to_them is (both_over a b) = open-not_over mine is a

pub ends_are_recorded_in_runs : EndsAreRecordedInRuns
ends_are_recorded_in_runs schema sound top moves side is =
    let w : World = world_of schema top moves in
    let r = told-at schema side (end_of side w) (end_of (other side) w) (link_to side w) (link_to (other side) w) is (from-side schema side w (nesting_in_every_run schema sound top moves)) in
    record { told = r.0; goes_on = r.1; ends = r.2 }
