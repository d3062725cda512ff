-- Where nothing can happen by itself, no end waits.
use Rattle.channel_laws.proofs.Track.{frames_in}
use Rattle.channel_model.proofs.Tests.{and-left, and-right}
use Rattle.channel_laws.proofs.Tests.{not-false}
use Rattle.std.proofs.Common.{◌≡◌, ℤ, Bool, true, false, not, ◌&&◌, List, [], ◌∷◌, ◌++◌, map, filter, cond, Some, None, refl, sym, ap, subst, ◌∙◌, ℕ}
use Rattle.std.specs.List.{AllByRecursion, list_any}
use Rattle.std.specs.Ordering.{int_eq}
use Rattle.ipdl_base.specs.declared.kinds.Side.{Side}
use Rattle.ipdl_base.specs.declared.kinds.Side.TheVariants.{Parent, Child}
use Rattle.ipdl_base.specs.declared.schema.Schema.{Schema}
use Rattle.nesting_core.specs.declared.frame.StackFrame.{StackFrame}
use Rattle.nesting_core.specs.declared.frame.StackFrame.TheVariants.{Dispatch, Wait}
use Rattle.nesting_core.specs.Answers.{awaited}
use Rattle.nesting_core.specs.Frames.{head_of, is_unanswered}
use Rattle.channel_model.specs.Ends.{End, World, Packet, end_of, link_to, opening, StackEntry}
use Rattle.channel_model.specs.Events as event
use Rattle.channel_model.specs.Runs.{is_possible, is_still_at}
use Rattle.channel_model.specs.Sends.{frames_of}
use Rattle.channel_model.specs.States.{IsAnswered}
use Rattle.channel_laws.proofs.Awaited.{nothing_awaited, IsAtRest, rests-no_move}
use Rattle.channel_laws.specs.Laws.{StillEndsWaitForNothing, world_of}
use Rattle.channel_laws.specs.NestedWorlds.{sync_end_of, EndsAreNested, both_open, mine_open, theirs_open, both_over, IsNestedWorld}
use Rattle.channel_laws.specs.OpenEnds.{IsOpenEnd}
use Rattle.channel_laws.specs.SyncStack.{Shows}
use Rattle.nesting_laws.proofs.Progress.{nobody_is_stuck}
use Rattle.nesting_laws.specs.Calls.{Call, SyncPacket, sync_end, SyncFrame}
use Rattle.nesting_laws.specs.Progress.{CanMove, IsNotStuck, nobody, at_parent, at_child}
use Rattle.ipdl_base.specs.Sound.{IsSound}
use Rattle.channel_model.specs.Events.{Move}
use Rattle.channel_model.specs.Runs.{is_still, happens, run}
use Rattle.channel_model.proofs.Histories.{moves_go_one_after_another}
use Rattle.channel_laws.specs.Laws.{StillHistoriesLeaveNoEndWaiting, EndsWait, waits_for}
use Rattle.channel_laws.proofs.EveryRun.{nesting_in_every_run}

rests-at : (schema : Schema) (w : World) (side : Side) → is_still_at schema w side ≡ true → IsAtRest schema (end_of side w) (link_to side w)
rests-at schema w side h =
    let d : Bool = not (is_possible schema w side event.deliver) in
    let t : Bool = not (is_possible schema w side event.take) in
    let r : Bool = not (is_possible schema w side (event.return None)) in
    let s : Bool = not (is_possible schema w side event.resume) in
    let f : Bool = not (is_possible schema w side event.flush) in
    record {
      deliver = not-false (is_possible schema w side event.deliver) (and-left d (t && (r && (s && f))) h);
      take = not-false (is_possible schema w side event.take) (and-left t (r && (s && f)) (and-right d (t && (r && (s && f))) h));
      return = not-false (is_possible schema w side (event.return None)) (and-left r (s && f) (and-right t (r && (s && f)) (and-right d (t && (r && (s && f))) h)));
      resume = not-false (is_possible schema w side event.resume) (and-left s f (and-right r (s && f) (and-right t (r && (s && f)) (and-right d (t && (r && (s && f))) h))));
    }

answered-awaits : (frames : List StackFrame) → AllByRecursion IsAnswered frames → awaited frames ≡ None
answered-awaits [] h = refl
answered-awaits (Dispatch head ∷ frames) h = answered-awaits frames h.1
answered-awaits (Wait head None ∷ frames) h = let k : true ≡ false = h.0 in cc
answered-awaits (Wait head (Some a) ∷ frames) h = answered-awaits frames h.1

-- neither end moves
still-both : {ps cs : List SyncFrame} {qs rs : List Call} {ls ks : List SyncPacket} (mine theirs : List StackEntry) → IsNotStuck (sync_end ps qs ls) (sync_end cs rs ks) → Shows Parent mine ps → Shows Child theirs cs → (CanMove Parent (sync_end ps qs ls) → ⊥) → (CanMove Child (sync_end cs rs ks) → ⊥) → (awaited (frames_in mine) ≡ None) × (awaited (frames_in theirs) ≡ None)
still-both mine theirs nobody s t p c = (nothing_awaited Parent s, nothing_awaited Child t)
still-both mine theirs (at_parent m) s t p c = absurd (p m)
still-both mine theirs (at_child m) s t p c = absurd (c m)

no-move : (schema : Schema) (side : Side) (e : End) (link : List Packet) (stack : List SyncFrame) → IsOpenEnd schema e stack → e.side ≡ side → IsAtRest schema e link → CanMove side (sync_end_of schema e link stack) → ⊥
no-move schema side e link stack h is r m = rests-no_move schema e stack link h r (subst (λ (s : Side). CanMove s (sync_end_of schema e link stack)) (sym is) m)

still-waits : (schema : Schema) (w : World) → IsNestedWorld schema w → IsAtRest schema w.parent w.to_parent → IsAtRest schema w.child w.to_child → (awaited (frames_of w.parent) ≡ None) × (awaited (frames_of w.child) ≡ None)
still-waits schema w h p c = by h.ends
  where
    by : EndsAreNested schema Parent w.parent w.child w.to_parent w.to_child → (awaited (frames_of w.parent) ≡ None) × (awaited (frames_of w.child) ≡ None)
    by (both_open {stack} {under} a b n) =
        still-both w.parent.stack w.child.stack (nobody_is_stuck.nested (sync_end_of schema w.parent w.to_parent stack) (sync_end_of schema w.child w.to_child under) n)
        (subst (λ (s : Side). Shows s w.parent.stack stack) h.parent a.shows) (subst (λ (s : Side). Shows s w.child.stack under) h.child b.shows)
        (no-move schema Parent w.parent w.to_parent stack a h.parent p) (no-move schema Child w.child w.to_child under b h.child c)
    by (mine_open {stack} a gone l n) = absurd (no-move schema Parent w.parent w.to_parent stack a h.parent p (nobody_is_stuck.alone _ _ n))
    by (theirs_open {stack} a gone l n) = absurd (no-move schema Child w.child w.to_child stack a h.child c (nobody_is_stuck.alone _ _ n))
    by (both_over a b) = (answered-awaits (frames_of w.parent) a.nobody, answered-awaits (frames_of w.child) b.nobody)

of-side : (w : World) (side : Side) → (awaited (frames_of w.parent) ≡ None) × (awaited (frames_of w.child) ≡ None) → awaited (frames_of (end_of side w)) ≡ None
of-side w Parent h = h.0
of-side w Child h = h.1

pub still_ends_wait_for_nothing : StillEndsWaitForNothing
still_ends_wait_for_nothing schema sound top moves side still =
    let w : World = world_of schema top moves in
    of-side w side (still-waits schema w (nesting_in_every_run schema sound top moves)
    (rests-at schema w Parent (and-left (is_still_at schema w Parent) (is_still_at schema w Child) still))
    (rests-at schema w Child (and-right (is_still_at schema w Parent) (is_still_at schema w Child) still)))

-- a stack that awaits nothing has no unanswered wait
awaits-answered : (frames : List StackFrame) → awaited frames ≡ None → AllByRecursion IsAnswered frames
awaits-answered [] h = tt
awaits-answered (Dispatch head ∷ frames) h = (refl, awaits-answered frames h)
awaits-answered (Wait head None ∷ frames) h = cc
awaits-answered (Wait head (Some a) ∷ frames) h = (refl, awaits-answered frames h)

-- a world where an end waits is not still
not-still : (schema : Schema) → IsSound schema → (top : ℕ) (moves : List Move) (side : Side) (seq : ℤ) → awaited (frames_of (end_of side (world_of schema top moves))) ≡ Some seq → (b : Bool) → is_still schema (world_of schema top moves) ≡ b → b ≡ false
not-still schema sound top moves side seq h true still = let k : None ≡ Some seq = sym (still_ends_wait_for_nothing schema sound top moves side still) ∙ h in cc
not-still schema sound top moves side seq h false still = refl

-- Each wait has ended

answered-none : (frames : List StackFrame) → AllByRecursion IsAnswered frames → filter is_unanswered frames ≡ []
answered-none [] h = refl
answered-none (frame ∷ frames) h = ap (λ (b : Bool). cond b (frame ∷ filter is_unanswered frames) (filter is_unanswered frames)) h.0 ∙ answered-none frames h.1

waits-for_none : (side : Side) (seq : ℤ) (w : World) → AllByRecursion IsAnswered (frames_of (end_of side w)) → waits_for side seq w ≡ false
waits-for_none side seq w h = ap (λ (frames : List StackFrame). list_any (λ n. int_eq n seq) (map (λ (frame : StackFrame). (head_of frame).seq) frames)) (answered-none (frames_of (end_of side w)) h)

-- if a wait is there, and is not there after some moves, one of these ends it
ends-wait : (schema : Schema) (side : Side) (seq : ℤ) (w : World) (moves : List Move) → waits_for side seq w ≡ true → waits_for side seq (run schema moves w).world ≡ false → EndsWait schema side seq w moves
ends-wait schema side seq w [] h gone = let k : true ≡ false = sym h ∙ gone in cc
ends-wait schema side seq w (move ∷ moves) h gone = by (waits_for side seq (happens schema w move).world) refl (λ k. ends-wait schema side seq (happens schema w move).world moves k gone)
  where
    by : (b : Bool) → waits_for side seq (happens schema w move).world ≡ b → (waits_for side seq (happens schema w move).world ≡ true → EndsWait schema side seq (happens schema w move).world moves) → EndsWait schema side seq w (move ∷ moves)
    by false is later = record { before = []; move = move; following = moves; whole = refl; stands = h; gone = is }
    by true is later = let e = later is in record { before = move ∷ e.before; move = e.move; following = e.following; whole = ap (λ (ms : List Move). move ∷ ms) e.whole; stands = e.stands; gone = e.gone }

all_ended : (schema : Schema) → IsSound schema → (top : ℕ) (front back : List Move) (side : Side) (seq : ℤ) → waits_for side seq (world_of schema top front) ≡ true → is_still schema (world_of schema top (front ++ back)) ≡ true → EndsWait schema side seq (world_of schema top front) back
all_ended schema sound top front back side seq h still =
    let follow = moves_go_one_after_another schema front back (opening top) in
    ends-wait schema side seq (world_of schema top front) back h
    (ap (waits_for side seq) (sym follow.world) ∙ waits-for_none side seq (world_of schema top (front ++ back)) (awaits-answered (frames_of (end_of side (world_of schema top (front ++ back)))) (still_ends_wait_for_nothing schema sound top (front ++ back) side still)))

pub still_histories_leave_no_end_waiting : StillHistoriesLeaveNoEndWaiting
still_histories_leave_no_end_waiting = record {
  answered = λ schema sound top moves side still. awaits-answered (frames_of (end_of side (world_of schema top moves))) (still_ends_wait_for_nothing schema sound top moves side still);
  ended = λ schema sound top front back side seq h still. all_ended schema sound top front back side seq h still;
  goes_on = λ schema sound top moves side seq h. not-still schema sound top moves side seq h (is_still schema (world_of schema top moves)) refl;
}
