-- How many lines and packets the sides of a run of a script have.
use Rattle.std.proofs.Common.{◌≡◌, ◌+◌, ◌*◌, ◌≤◌, Bool, true, false, not, ◌&&◌, cond, List, [], ◌∷◌, length, map, filter, refl, subst, ◌∙◌, arith}
use Rattle.ipdl_base.specs.declared.kinds.Side.{Side}
use Rattle.ipdl_base.specs.declared.line.Line.{Line}
use Rattle.ipdl_base.specs.declared.line.What.{What}
use Rattle.ipdl_base.specs.Lines.{same_side, is_effect}
use Rattle.channel_model.specs.Bounds.{unsettled}
use Rattle.channel_model.specs.Ends.{end_of}
use Rattle.ipdl_base.specs.Sides.{other}
use Rattle.channel_model.specs.Runs.{RunState}
use Rattle.channel_laws.specs.BoundedRuns.{IsBoundedRun, events_of, delivered_at, waiting_of}
use Rattle.channel_laws.specs.BoundedRuns as bounded
use Rattle.channel_laws.specs.Counts.{one_if}
use Rattle.channel_laws.proofs.BoundedRuns.{histories_are_bounded}
use Rattle.script_steps.specs.Choices.{Setting}
use Rattle.script_steps.specs.Laws.{IsRunOf, IsCountedBy}
use Rattle.script_steps.specs.Progress.{Progress, no_progress, after_line, after_lines, lines_of, progress_of}
use Rattle.script_steps.proofs.Counting.{after-event, after-effect, choices_are_counted}
use Rattle.script_steps.proofs.Playing.{choices_are_runs}
use Rattle.script_runs.specs.Laws.{HasRoom, CasesHaveRoom}

-- Lines of a side, and events among them

lines-counted : (side : Side) (lines : List Line) → length (lines_of side lines) ≡ bounded.lines_of side lines
lines-counted side [] = refl
lines-counted side (l ∷ ls) = by (same_side l.side side) (lines-counted side ls)
  where
    by : (b : Bool) → length (lines_of side ls) ≡ bounded.lines_of side ls → length (map (λ (line : Line). line.what) (cond b (l ∷ filter (λ (line : Line). same_side line.side side) ls) (filter (λ (line : Line). same_side line.side side) ls))) ≡ one_if b + bounded.lines_of side ls
    by true h = omega (arith, h)
    by false h = omega (arith, h)

one-more : (p : Progress) (w : What) (effect : Bool) → is_effect w ≡ effect → (after_line p w).events ≡ p.events + one_if (not effect)
one-more p w true is = after-effect p w is ∙ omega arith
one-more p w false is = after-event p w is

events-from : (side : Side) (p : Progress) (lines : List Line) → (after_lines p (lines_of side lines)).events ≡ p.events + events_of side lines
events-from side p [] = omega arith
events-from side p (l ∷ ls) = by (same_side l.side side) (events-from side (after_line p l.what) ls) (events-from side p ls)
  where
    by : (b : Bool) → (after_lines (after_line p l.what) (lines_of side ls)).events ≡ (after_line p l.what).events + events_of side ls → (after_lines p (lines_of side ls)).events ≡ p.events + events_of side ls
        → (after_lines p (map (λ (line : Line). line.what) (cond b (l ∷ filter (λ (line : Line). same_side line.side side) ls) (filter (λ (line : Line). same_side line.side side) ls)))).events ≡ p.events + (one_if (b && not (is_effect l.what)) + events_of side ls)
    by true h k =
        let one = one-more p l.what (is_effect l.what) refl in
        omega (arith, one, h)
    by false h k = omega (arith, k)

events-counted : (side : Side) (lines : List Line) → (progress_of side lines).events ≡ events_of side lines
events-counted side lines = events-from side no_progress lines ∙ omega arith

room : (setting : Setting) (state : RunState) (side : Side) → IsCountedBy setting state side → IsBoundedRun side state → HasRoom setting state side
room setting state side c b =
    let n = events-counted side state.lines in
    let m = lines-counted side state.lines in
    let lines = b.lines in
    let packets = b.packets in
    record {
      events = c.limit;
      sent = c.sent;
      delivered = c.delivered;
      lines = let goal : length (lines_of side state.lines) + unsettled (end_of side state.world) ≤ 5 * (progress_of side state.lines).events + 1 = omega (arith, n, m, lines) in goal;
      packets = let goal : length (delivered_at (other side) state.lines) + waiting_of side state.world ≤ 2 * (progress_of side state.lines).events = omega (arith, n, packets) in goal;
    }

pub cases_have_room : CasesHaveRoom
cases_have_room setting choices state sound h side =
    let r : IsRunOf setting state = choices_are_runs setting choices state h in
    room setting state side (choices_are_counted setting choices state h side) (subst (IsBoundedRun side) r.runs (histories_are_bounded setting.schema sound setting.script.top r.moves side))
