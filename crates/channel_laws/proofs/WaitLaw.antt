-- Every legal history obeys the law of waits.
use Rattle.std.proofs.Common.{◌≡◌, Bool, true, false, not, ◌&&◌, ◌||◌, if◌then◌else◌, List, [], None, refl, ap, subst, ◌∙◌}
use Rattle.ipdl_base.specs.declared.kinds.Side.{Side}
use Rattle.ipdl_base.specs.declared.kinds.Side.TheVariants.{Parent, Child}
use Rattle.ipdl_base.specs.declared.line.Line.{Line}
use Rattle.ipdl_base.specs.declared.schema.Schema.{Schema}
use Rattle.ipdl_base.specs.Sound.{IsSound}
use Rattle.nesting_core.specs.Answers.{awaited}
use Rattle.history_reading.specs.declared.law.Law.TheVariants as law
use Rattle.history_reading.specs.EndReading.{has_unanswered}
use Rattle.history_reading.specs.Holds.{moment_test}
use Rattle.history_reading.specs.Reading.{Reading, opening_reading, read}
use Rattle.history_reading.specs.Still as lines
use Rattle.history_reading.specs.Waits.{waits_line, waits_moment, some_waits_after_end, some_waits, waits_while_still}
use Rattle.channel_model.specs.Ends.{World, end_of, opening}
use Rattle.channel_model.specs.Runs.{run, history_of, is_still, is_still_at}
use Rattle.channel_model.specs.Sends.{frames_of}
use Rattle.channel_laws.specs.Exchanges.{ReadsExchanges}
use Rattle.channel_laws.specs.NestedWorlds.{IsNestedWorld}
use Rattle.channel_laws.specs.NotedArrivals.{IsNoted}
use Rattle.channel_laws.specs.Taken.{there_line}
use Rattle.channel_laws.specs.Tested.{test_at}
use Rattle.channel_laws.specs.TwoEnds.{ReadingIs}
use Rattle.channel_laws.specs.WaitLaws.{HistoriesObeyWaits}
use Rattle.channel_laws.proofs.EndsTold.{told-at}
use Rattle.channel_laws.proofs.EveryRun.{from-side, nesting_in_every_run}
use Rattle.channel_laws.proofs.Exchanges.{opening-exchanges}
use Rattle.channel_laws.proofs.DeferralContext.{holds-in-runs}
use Rattle.channel_laws.proofs.Moves.{flip}
use Rattle.channel_laws.proofs.Outlines.{open-is}
use Rattle.channel_laws.proofs.PrefixRuns.{noted-at}
use Rattle.channel_laws.proofs.Reached.{reached-has, noted-reached}
use Rattle.channel_laws.proofs.Readable.{reading-is}
use Rattle.channel_laws.proofs.Runs.{IsReached, MoveKeeps, EveryMoveKeeps, AtEnds, AcrossEnds, every-run, moment_at, moments-pass}
use Rattle.channel_laws.proofs.StillEnds.{nothing-possible, parent-clear, child-clear}
use Rattle.channel_laws.proofs.StillReads.{StillEnd, still-end}
use Rattle.channel_laws.proofs.StillWorlds.{still_ends_wait_for_nothing}
use Rattle.channel_laws.proofs.Taken.{ReadExchanges, exchanges-keep}
use Rattle.channel_laws.proofs.Testing.{pass-both}
use Rattle.channel_laws.proofs.WaitMoments.{parent-heads, child-heads, none-block, none-after_end, waits-none}
use Rattle.channel_laws.proofs.WaitRuns.{AnswersKept, waits-keep}

and-both : (a b : Bool) → a && b ≡ true → (a ≡ true) × (b ≡ true)
and-both true b e = (refl, e)
and-both false b e = cc

and-true : (a b : Bool) → a ≡ true → b ≡ true → a && b ≡ true
and-true true b e f = f
and-true false b e f = cc

all-five : (a b c d e : Bool) → a ≡ false → b ≡ false → c ≡ false → d ≡ false → e ≡ false → not a && (not b && (not c && (not d && not e))) ≡ true
all-five false false false false false p q r s t = refl
all-five true b c d e p q r s t = cc
all-five false true c d e p q r s t = cc
all-five false false true d e p q r s t = cc
all-five false false false true e p q r s t = cc
all-five false false false false true p q r s t = cc

module _ (schema : Schema) (sound : IsSound schema) where
  pub exchanges-reached : (w : World) (r : Reading) → IsReached schema w r → AtEnds schema (ReadsExchanges schema) w r
  exchanges-reached w r h =
      reached-has schema (AtEnds schema (ReadsExchanges schema)) (λ top moves. (every-run schema sound (ReadExchanges schema sound) (test_at there_line) (exchanges-keep schema sound) top moves (opening-exchanges schema top Parent, opening-exchanges schema top Child)).kept) w r h

  module _ (w : World) (r : Reading) (reached : IsReached schema w r) (nested : IsNestedWorld schema w) (reads : ReadingIs schema w r) where
    -- if the lines are still, the world is
    world-still : lines.is_still schema r ≡ true → is_still schema w ≡ true
    world-still e =
        let both = and-both (lines.is_still_at schema Parent r.parent r.child) (lines.is_still_at schema Child r.child r.parent) e in
        let p : StillEnd schema Parent r.parent r.child = still-end schema Parent r.parent r.child both.0 in
        let c : StillEnd schema Child r.child r.parent = still-end schema Child r.child r.parent both.1 in
        let x : AtEnds schema (ReadsExchanges schema) w r = exchanges-reached w r reached in
        let noted : AcrossEnds schema (IsNoted schema) w r = noted-reached schema sound w r reached in
        let a =
        nothing-possible schema Parent w.parent w.child r.parent r.child w.to_parent w.to_child reads.ends nested.parent (parent-heads schema sound w r reached nested reads) x.0.arrivals.arrived (noted-at Child w.child.side w.parent r.child schema nested.child noted.0.arrived)
        (parent-clear schema w.parent w.child w.to_parent w.to_child nested.parent (from-side schema Parent w nested)) Child p c
        (λ o. (told-at schema Parent w.parent w.child w.to_parent w.to_child (open-is w.parent.state o) (from-side schema Parent w nested)).2) in
        let b =
        nothing-possible schema Child w.child w.parent r.child r.parent w.to_child w.to_parent (flip reads.ends) nested.child (child-heads schema sound w r reached nested reads) x.1.arrivals.arrived (noted-at Parent w.parent.side w.child r.parent schema nested.parent noted.1.arrived)
        (child-clear w.child nested.child) Parent c p
        (λ o. (told-at schema Child w.child w.parent w.to_child w.to_parent (open-is w.child.state o) (from-side schema Child w nested)).2) in
        and-true (is_still_at schema w Parent) (is_still_at schema w Child) (all-five _ _ _ _ _ a.delivers a.takes a.returns a.resumes a.flushes) (all-five _ _ _ _ _ b.delivers b.takes b.returns b.resumes b.flushes)

    none-awaits : (side : Side) → is_still schema w ≡ true → awaited (frames_of (end_of side w)) ≡ None
    none-awaits side e = subst (λ (v : World). is_still schema v ≡ true → awaited (frames_of (end_of side v)) ≡ None) reached.world (still_ends_wait_for_nothing schema sound reached.top reached.front side) e

    none-waits-still : waits_while_still schema r ≡ false
    none-waits-still = by (lines.is_still schema r) refl
      where
        and-none : (a b : Bool) → b ≡ false → a && b ≡ false
        and-none true b e = e
        and-none false b e = refl

        by : (b : Bool) → lines.is_still schema r ≡ b → some_waits r && lines.is_still schema r ≡ false
        by false e = and-none (some_waits r) (lines.is_still schema r) e
        by true e =
            let still : is_still schema w ≡ true = world-still e in
            let a : has_unanswered r.parent.stack ≡ false = waits-none r.parent w.parent reads.ends.outlined.stack (none-awaits Parent still) in
            let b : has_unanswered r.child.stack ≡ false = waits-none r.child w.child reads.ends.their_outlined.stack (none-awaits Child still) in
            ap (λ (x : Bool). (x || has_unanswered r.child.stack) && lines.is_still schema r) a ∙ ap (λ (x : Bool). x && lines.is_still schema r) b

    moment-waits : waits_moment schema r ≡ true
    moment-waits =
        ap (λ (b : Bool). if b then false else (if some_waits_after_end r then false else not (waits_while_still schema r))) (none-block schema sound w r reached nested reads)
        ∙ (ap (λ (b : Bool). if b then false else not (waits_while_still schema r)) (none-after_end schema sound w r reached nested reads) ∙ ap not none-waits-still)

    moment-is : moment_test law.Waits schema r ≡ true
    unfolding moment_test
    moment-is = moment-waits

  -- moments and lines pass the law of waits
  abbrev waits_test : Reading → Line → List Line → Bool
  waits_test r l b = moment_at (moment_test law.Waits schema) r l b && test_at (waits_line schema) r l b

  waits-moves : EveryMoveKeeps schema (AnswersKept schema sound) waits_test
  waits-moves move w r output m k =
      let keeps : MoveKeeps schema (AnswersKept schema sound) (test_at (waits_line schema)) move w r output = waits-keep schema sound move w r output m k in
      record {
        kept = keeps.kept;
        passes = λ following. pass-both schema (moment_at (moment_test law.Waits schema)) (test_at (waits_line schema)) r output.lines following
            (moments-pass schema (moment_test law.Waits schema) move w r output following m.step (moment-is w r m.reached m.nested m.reads)) (keeps.passes following);
      }

pub histories_obey_waits : HistoriesObeyWaits
histories_obey_waits schema sound top moves =
    let none : AnswersKept schema sound (opening top) opening_reading = (record { given = tt; waits = tt }, record { given = tt; waits = tt }) in
    let runs = every-run schema sound (AnswersKept schema sound) (waits_test schema sound) (waits-moves schema sound) top moves none in
    let w : World = (run schema moves (opening top)).world in
    holds-in-runs law.Waits schema sound top moves (runs.passes [])
    (moment-is schema sound w (read schema (history_of schema top moves)) (record { top = top; front = moves; world = refl; reading = refl }) (nesting_in_every_run schema sound top moves) (reading-is schema sound top moves))
